-- The words of an argument, as values of the definitions.
use Rattle.std.specs.Prelude.{[], None, Some, map}
use Rattle.clap.specs.Words.{Text}
use Rattle.cli_arguments.specs.Arguments.{Amount, flag, one, perhaps, several}
use Rattle.cli_arguments.specs.declared.spelled_values.Words.{Words}
use Rattle.cli_arguments.specs.declared.spelled_values.Words.TheVariants as words

abbrev pub argument_values : Words → Amount Text
argument_values (words.One word) = one word.now
argument_values (words.Several all) = several (map (λ w. w.now) all.now)
argument_values (words.Perhaps None) = perhaps None
argument_values (words.Perhaps (Some word)) = perhaps (Some word.now)
argument_values (words.Often None) = several []
argument_values (words.Often (Some all)) = several (map (λ w. w.now) all.now)
argument_values (words.Flag is_set) = flag is_set
