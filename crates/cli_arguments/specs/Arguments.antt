-- Arguments of commands, and their values.
use Rattle.std.specs.Prelude.{ℕ, Bool, true, false, ◌&&◌, List, [], ◌∷◌, Option}
use Rattle.clap.specs.Words.{Text}
use Rattle.archive_core.specs.declared.keys.{ArchKey.ArchKey, Digest.Digest}
use Rattle.cli_arguments.specs.declared.commands.{Form.Form, Kind.Kind, Role.Role}
use Rattle.cli_arguments.specs.declared.commands.Form.TheVariants as forms
use Rattle.cli_arguments.specs.declared.commands.Kind.TheVariants as kinds
use Rattle.cli_arguments.specs.declared.commands.Role.TheVariants as roles

-- the number of words of an argument in a line: one word; the last words; the word after an option, at most once; a
-- word after each option of a name, any number of times; or an option without a word, at most once
pub data Count : Type 0 where
  Once : Count
  Several : Count
  Perhaps : (option : Text) → Count
  Often : (option : Text) → Count
  Flag : (option : Text) → Count

pub record Argument : Type 0 where
  pub name : Text
  pub count : Count
  pub role : Role

abbrev pub argument : Text → Count → Role → Argument
argument name count role = record { name = name; count = count; role = role }

-- it is the path of an input, or OUT's
abbrev pub reads : Role → Bool
reads (roles.Reads kind) = true
reads _ = false

abbrev pub writes : Role → Bool
writes roles.Writes = true
writes _ = false

-- it is the path of an input of this kind
abbrev pub is_kind : Kind → Kind → Bool
is_kind kinds.Archive kinds.Archive = true
is_kind kinds.Index kinds.Index = true
is_kind kinds.File kinds.File = true
is_kind kinds.Ops kinds.Ops = true
is_kind kinds.Summary kinds.Summary = true
is_kind kinds.Script kinds.Script = true
is_kind kinds.Frames kinds.Frames = true
is_kind _ _ = false

abbrev pub reads_kind : Kind → Role → Bool
reads_kind kind (roles.Reads other) = is_kind kind other
reads_kind kind _ = false

-- a path is any text
abbrev pub form_of : Role → Form
form_of (roles.Reads kind) = forms.Plain
form_of roles.Writes = forms.Plain
form_of (roles.Says form) = form

-- the values of an argument: one; several, which may be none after options; one that may be omitted; or, without a
-- word, whether its flag is present
pub data Amount (X : Type 0) : Type 0 where
  one : X → Amount X
  several : List X → Amount X
  perhaps : Option X → Amount X
  flag : Bool → Amount X

-- the values of an argument, by the form of its words
pub data Values : Type 0 where
  texts : Amount Text → Values
  uuids : Amount (List ℕ) → Values
  archs : Amount ArchKey → Values
  digests : Amount Digest → Values
  numbers : Amount ℕ → Values

-- one word that is its own value
abbrev pub text : Text → Values
text word = texts (one word)

-- the values have the number that the argument requires
abbrev pub is_counted : {X : Type 0} → Count → Amount X → Bool
is_counted Once (one x) = true
is_counted Several (several (x ∷ xs)) = true
is_counted (Perhaps option) (perhaps x) = true
is_counted (Often option) (several xs) = true
is_counted (Flag option) (flag is_set) = true
is_counted _ _ = false

-- the values have this form and number
abbrev pub is_formed : Form → Count → Values → Bool
is_formed forms.Plain count (texts xs) = is_counted count xs
is_formed forms.Uuid count (uuids xs) = is_counted count xs
is_formed forms.Arch count (archs xs) = is_counted count xs
is_formed forms.Digest count (digests xs) = is_counted count xs
is_formed forms.Number count (numbers xs) = is_counted count xs
is_formed _ _ _ = false

-- each of these arguments has its values
abbrev pub are_values_of : List Argument → List Values → Bool
are_values_of [] [] = true
are_values_of (a ∷ rest) (v ∷ vs) = is_formed (form_of a.role) a.count v && are_values_of rest vs
are_values_of _ _ = false
