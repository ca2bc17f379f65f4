-- The fault of a line that has no plan.
use Rattle.std.specs.Prelude.{◌≡◌, ⊤, List, [], ◌∷◌, ◌++◌, codes, Option, Some, None, Result, IfErr, IfOk, IsSome}
use Rattle.std.specs.Prelude.{if◌then◌else◌, is_some, option_and_then, option_map, string_bytes}
use Rattle.std.specs.Option.{option_map_or, option_or}
use Rattle.clap.specs.Words.{Row, Text}
use Rattle.uuid.specs.Text.{parsed}
use Rattle.text_values.specs.Words.{address_of, arch_of, digest_of}
use Rattle.cli_arguments.specs.Arguments.{Amount, Argument, flag, form_of, one, perhaps, several}
use Rattle.cli_arguments.specs.{LineView.line_view, Shown.shown, Table.signature_named}
use Rattle.cli_arguments.specs.Lines.{Line, line_in, out_of, overwrites_input, words_by}
use Rattle.cli_arguments.specs.declared.{commands.Form.Form, line_faults.LineFault.LineFault}
use Rattle.cli_arguments.specs.declared.lines.Line.{Line as LineOfProgram}
use Rattle.cli_arguments.specs.declared.line_faults.LineFault.TheVariants.{Refused, OutOfMemory, Help}
use Rattle.cli_arguments.specs.declared.commands.Form.TheVariants as forms

-- help or the version, or memory ran out
abbrev pub IsHelpUnlessMemory : LineFault → Type 0
IsHelpUnlessMemory (Help _) = ⊤
IsHelpUnlessMemory OutOfMemory = ⊤
IsHelpUnlessMemory (Refused _) = ⊥

-- a refusal, or memory ran out
abbrev pub IsRefusalUnlessMemory : LineFault → Type 0
IsRefusalUnlessMemory (Refused _) = ⊤
IsRefusalUnlessMemory OutOfMemory = ⊤
IsRefusalUnlessMemory (Help _) = ⊥

-- a refusal with this text, or memory ran out
abbrev pub IsRefusedAs : Text → LineFault → Type 0
IsRefusedAs text (Refused told) = string_bytes told ≡ text
IsRefusedAs text OutOfMemory = ⊤
IsRefusedAs text (Help _) = ⊥

-- the text of a form
abbrev pub form_words : Form → Text
form_words forms.Plain = codes "any text"
form_words forms.Uuid = codes "32 hex digits, with or without hyphens"
form_words forms.Arch = codes "x86_64, x86_64h, arm64, arm64e or cpu:CCCCCCCC/00SSSSSS"
form_words forms.Digest = codes "64 hex digits"
form_words forms.Number = codes "1 to 16 hex digits, with or without 0x"

-- the text of the refusal of a word that lacks the form of its argument, and of an argument without a word
abbrev pub other_form : Argument → Text → Text
other_form a word = codes "error: invalid "
    ++ (a.name ++ (codes " '" ++ (shown word ++ (codes "': expected " ++ (form_words (form_of a.role) ++ 10 ∷ [])))))

abbrev pub without_value : Argument → Text
without_value a = codes "error: missing " ++ (a.name ++ 10 ∷ [])

-- the first of these words that lacks the form
abbrev pub first_other : {X : Type 0} → (Text → Option X) → List Text → Option Text
first_other form [] = None
first_other form (word ∷ words) = if is_some (form word) then first_other form words else Some word

abbrev pub other_in : {X : Type 0} → (Text → Option X) → Amount Text → Option Text
other_in form (one word) = first_other form (word ∷ [])
other_in form (several words) = first_other form words
other_in form (perhaps None) = None
other_in form (perhaps (Some word)) = first_other form (word ∷ [])
other_in form (flag is_set) = None

-- the first word of an argument that lacks this form
abbrev pub other_word : Form → Amount Text → Option Text
other_word forms.Plain words = None
other_word forms.Uuid words = other_in parsed words
other_word forms.Arch words = other_in arch_of words
other_word forms.Digest words = other_in digest_of words
other_word forms.Number words = other_in address_of words

-- the text of the refusal of an argument's words, if one lacks the form
abbrev pub form_refusal : Argument → Amount Text → Option Text
form_refusal a words = option_map (other_form a) (other_word (form_of a.role) words)

-- the text of the refusal of an argument without its values
unfoldable pub refusal_at : Argument → List Row → Option Text
refusal_at a rows = option_map_or (form_refusal a) (words_by a.count a.name rows) (Some (without_value a))

-- the text of the refusal of the first such argument
abbrev pub refusal_among : List Argument → List Row → Option Text
refusal_among [] rows = None
refusal_among (a ∷ rest) rows = option_or (refusal_at a rows) (refusal_among rest rows)

abbrev pub unknown_command : Text → Text
unknown_command called = codes "error: invalid command '" ++ (called ++ 39 ∷ 10 ∷ [])

-- the text of the refusal of a command with this name, if there is none, or an argument lacks its values
abbrev pub refusal_in : Text × List Row → Option Text
refusal_in p = option_map_or (λ s. refusal_among s.arguments p.1) (signature_named p.0) (Some (unknown_command p.0))

abbrev pub out_is_input : Text → Text
out_is_input out = codes "error: invalid OUT '" ++ (shown out
    ++ (codes "': expected a path that is no input" ++ 10 ∷ []))

-- the text of the refusal of a line, if its OUT is an input
abbrev pub out_refusal : Line → Option Text
out_refusal line = if overwrites_input line then option_map out_is_input (out_of line) else None

-- the text of the refusal of words that `clap` accepts, by the command that they name: for the first argument without
-- its values, and only if there is none, for OUT
abbrev pub refusal_of : Option (Text × List Row) → Option Text
refusal_of None = Some (codes "error: missing command" ++ 10 ∷ [])
refusal_of (Some p) = option_or (refusal_in p) (option_and_then out_refusal (line_in p))

-- a refusal with this text, if there is one, or memory ran out
abbrev pub IsRefusedBy : Option Text → LineFault → Type 0
IsRefusedBy told OutOfMemory = ⊤
IsRefusedBy told (Help _) = ⊥
IsRefusedBy None (Refused _) = ⊥
IsRefusedBy (Some text) (Refused told) = string_bytes told ≡ text

-- The result is this line, if there is one, and otherwise a refusal. Memory may run out in either case.
pub record ReadsLine (line : Option Line) (result : Result LineOfProgram LineFault) : Type 0 where
  pub ok : IfOk result (λ read. Some (line_view read) ≡ line)
  pub err : IsSome line → IfErr result (λ e. e ≡ OutOfMemory)
  pub refusal : IfErr result IsRefusalUnlessMemory
