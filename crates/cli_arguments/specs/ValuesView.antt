-- The values of an argument, as values of the definitions.
use Rattle.std.specs.{Global.Global, Prelude.None, Prelude.Some, Prelude.String, Prelude.map, Prelude.string_bytes}
use Rattle.clap.specs.Words.{Text}
use Rattle.cli_arguments.specs.Arguments.{Amount, Values, archs, digests, flag, numbers, one, perhaps, several, texts}
use Rattle.cli_arguments.specs.Arguments.{uuids}
use Rattle.cli_arguments.specs.declared.values.{Amount.Amount as AmountOfProgram, Values.Values as ValuesOfProgram}
use Rattle.cli_arguments.specs.declared.values.Amount.TheVariants as amounts
use Rattle.cli_arguments.specs.declared.values.Values.TheVariants as forms

abbrev pub amount_view : {X : Type 0} → AmountOfProgram X → Amount X
amount_view (amounts.One x) = one x
amount_view (amounts.Several xs) = several xs.items
amount_view (amounts.Perhaps x) = perhaps x
amount_view (amounts.Flag is_set) = flag is_set

abbrev pub texts_view : AmountOfProgram (String Global) → Amount Text
texts_view (amounts.One text) = one (string_bytes text)
texts_view (amounts.Several all) = several (map string_bytes all.items)
texts_view (amounts.Perhaps None) = perhaps None
texts_view (amounts.Perhaps (Some text)) = perhaps (Some (string_bytes text))
texts_view (amounts.Flag is_set) = flag is_set

abbrev pub values_view : ValuesOfProgram → Values
values_view (forms.Texts xs) = texts (texts_view xs)
values_view (forms.Uuids xs) = uuids (amount_view xs)
values_view (forms.Archs xs) = archs (amount_view xs)
values_view (forms.Digests xs) = digests (amount_view xs)
values_view (forms.Numbers xs) = numbers (amount_view xs)
