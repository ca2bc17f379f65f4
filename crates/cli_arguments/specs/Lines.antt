-- The command and the values of a command line.
use Rattle.std.specs.Prelude.{Bool, true, false, not, ◌&&◌, ◌||◌, List, [], ◌∷◌, ◌++◌, Contains}
use Rattle.std.specs.Prelude.{Option, Some, None, IfSome, is_some, option_and_then, option_map, slice_get}
use Rattle.std.specs.Prelude.{if◌then◌else◌, codes, unwrap_or}
use Rattle.std.specs.{List.list_all, List.list_any, Option.option_map_or, Str.bytes_eq}
use Rattle.clap.specs.Words.{Kinds, Row, Text, all_of, fault_of, first_of, subcommand_of, takes}
use Rattle.uuid.specs.Text.{parsed}
use Rattle.text_values.specs.Words.{address_of, arch_of, digest_of}
use Rattle.cli_arguments.specs.declared.commands.{Form.Form, Kind.Kind, Role.Role}
use Rattle.cli_arguments.specs.Arguments.{Amount, Argument, Count, Flag, Often, Once, Perhaps, Several, Values, archs}
use Rattle.cli_arguments.specs.Arguments.{digests, flag, form_of, numbers, one, perhaps, reads, reads_kind, several}
use Rattle.cli_arguments.specs.{Arguments.texts, Arguments.uuids, Arguments.writes, Commands.symarch_command}
use Rattle.cli_arguments.specs.Table.{Signature, arguments_named, signature_named}
use Rattle.cli_arguments.specs.declared.commands.Form.TheVariants as forms

-- the command with this name, and the values of its arguments in the order of the table; a path is the word itself
pub record Line : Type 0 where
  pub name : Text
  pub values : List Values

abbrev pub line_with : Signature → List Values → Line
line_with s values = record { name = s.name; values = values }

-- ---- paths

-- the texts among the values of an argument
abbrev pub texts_of : Values → List Text
texts_of (texts (one text)) = text ∷ []
texts_of (texts (several words)) = words
texts_of (texts (perhaps (Some text))) = text ∷ []
texts_of _ = []

-- the texts of the arguments with these roles
abbrev pub texts_by : (Role → Bool) → List Argument → List Values → List Text
texts_by wants (a ∷ rest) (v ∷ vs) =
    if wants a.role then texts_of v ++ texts_by wants rest vs else texts_by wants rest vs
texts_by wants _ _ = []

-- the paths of the inputs of a line, in the order of the table
abbrev pub inputs_of : Line → List Text
inputs_of line = texts_by reads (arguments_named line.name) line.values

-- the paths of one kind
abbrev pub inputs_of_kind : Kind → Line → List Text
inputs_of_kind kind line = texts_by (reads_kind kind) (arguments_named line.name) line.values

-- the path of OUT, if the line has one
abbrev pub out_of : Line → Option Text
out_of line = slice_get (texts_by writes (arguments_named line.name) line.values) 0

-- OUT is not an input, compared as text
abbrev pub KeepsInputs : Line → Type 0
KeepsInputs line = IfSome (out_of line) (λ out. ¬ Contains (inputs_of line) out)

-- ---- the words, by `clap`'s own definitions

-- the program's command accepts them
unfoldable pub are_accepted : List Text → Bool
are_accepted words = takes symarch_command words

-- the kinds of error that the program's command has for them
unfoldable pub error_kinds : List Text → Kinds
error_kinds words = fault_of symarch_command words

-- the subcommand that they name, and the values at its names
unfoldable pub named_command : List Text → Option (Text × List Row)
named_command words = subcommand_of symarch_command words

-- ---- the lines of words

-- the path is one of these, compared as text
abbrev pub is_path_among : Text → List Text → Bool
is_path_among path paths = list_any (λ p. bytes_eq p path) paths

-- OUT is one of the inputs of a line, compared as text
abbrev pub overwrites_input : Line → Bool
overwrites_input line = option_map_or (λ out. is_path_among out (inputs_of line)) (out_of line) false

-- the line, if OUT is not one of its inputs
abbrev pub kept : Line → Option Line
kept line = if overwrites_input line then None else Some line

-- the words at a name, perhaps none
abbrev pub any_of : Text → List Row → List Text
any_of id rows = unwrap_or (all_of id rows) []

-- these words, if there are any
abbrev pub if_some : List Text → Option (Amount Text)
if_some [] = None
if_some (word ∷ words) = Some (several (word ∷ words))

-- the flag is present: `clap` gives it the value `true`, and otherwise `false`
abbrev pub is_set : Text → List Row → Bool
is_set id rows = option_map_or (λ value. bytes_eq value (codes "true")) (first_of id rows) false

-- the words of an argument, if its name has the number of words that the argument requires
abbrev pub words_by : Count → Text → List Row → Option (Amount Text)
words_by Once id rows = option_map (λ word. one word) (first_of id rows)
words_by Several id rows = if_some (any_of id rows)
words_by (Perhaps option) id rows = Some (perhaps (first_of id rows))
words_by (Often option) id rows = Some (several (any_of id rows))
words_by (Flag option) id rows = Some (flag (is_set id rows))

-- the value of each word, if each has the form
abbrev pub all_spelled : {X : Type 0} → (Text → Option X) → List Text → Option (List X)
all_spelled form [] = Some []
all_spelled form (word ∷ words) =
    option_and_then (λ x. option_map (λ xs. x ∷ xs) (all_spelled form words)) (form word)

abbrev pub amount_spelled : {X : Type 0} → (Text → Option X) → Amount Text → Option (Amount X)
amount_spelled form (one word) = option_map (λ x. one x) (form word)
amount_spelled form (several words) = option_map (λ xs. several xs) (all_spelled form words)
amount_spelled form (perhaps None) = Some (perhaps None)
amount_spelled form (perhaps (Some word)) = option_map (λ x. perhaps (Some x)) (form word)
amount_spelled form (flag is_set) = Some (flag is_set)

abbrev pub values_spelled : Form → Amount Text → Option Values
values_spelled forms.Plain words = Some (texts words)
values_spelled forms.Uuid words = option_map (λ xs. uuids xs) (amount_spelled parsed words)
values_spelled forms.Arch words = option_map (λ xs. archs xs) (amount_spelled arch_of words)
values_spelled forms.Digest words = option_map (λ xs. digests xs) (amount_spelled digest_of words)
values_spelled forms.Number words = option_map (λ xs. numbers xs) (amount_spelled address_of words)

-- the values of an argument, if they are present and each word has its form
abbrev pub values_at : Argument → List Row → Option Values
values_at a rows = option_and_then (values_spelled (form_of a.role)) (words_by a.count a.name rows)

-- the values of each of these arguments
abbrev pub all_values : List Argument → List Row → Option (List Values)
all_values [] rows = Some []
all_values (a ∷ rest) rows = option_and_then (λ v. option_map (λ vs. v ∷ vs) (all_values rest rows)) (values_at a rows)

abbrev pub line_at : Signature → List Row → Option Line
line_at s rows = option_map (line_with s) (all_values s.arguments rows)

-- the line for a command's name and the values at its names
abbrev pub line_in : Text × List Row → Option Line
line_in p = option_and_then (λ s. line_at s p.1) (signature_named p.0)

-- the line for these words, if each value is present and has its form
abbrev pub asked_of : List Text → Option Line
asked_of words = option_and_then line_in (named_command words)

-- the same, if OUT is not an input
abbrev pub line_of : List Text → Option Line
line_of words = option_and_then kept (asked_of words)

-- ---- lines that are in order

-- the argument has its values, or its name has no word
abbrev pub has_form : Argument → List Row → Bool
has_form a rows = is_some (values_at a rows) || not (is_some (first_of a.name rows))

-- each argument of the command with this name has that
abbrev pub have_forms : Text × List Row → Bool
have_forms p = list_all (λ a. has_form a p.1) (arguments_named p.0)

-- each value of the command that the words name has its form, and OUT is not an input
abbrev pub is_in_order : List Text → Bool
is_in_order words =
    option_map_or have_forms (named_command words) true
    && option_map_or (λ line. not (overwrites_input line)) (asked_of words) true
