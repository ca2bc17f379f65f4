-- The flaw of a line without a frame.
use Rattle.std.specs.Prelude.{ℕ, List, [], ◌∷◌, Option, Some, None}
use Rattle.uuid.specs.Text.{parsed}
use Rattle.archive_core.specs.declared.keys.ArchKey.{ArchKey}
use Rattle.text_values.specs.Flaws.{line_flaw}
use Rattle.text_values.specs.Lines.{Field, Line, fields}
use Rattle.text_values.specs.Words.{arch_of}
use Rattle.text_values.specs.declared.flaws.LineFlaw.{LineFlaw}
use Rattle.text_input_files.specs.Frames.{load_of}
use Rattle.text_input_files.specs.declared.frame_flaws.FrameFlaw.{FrameFlaw}
use Rattle.text_input_files.specs.declared.frame_flaws.FrameFlaw.TheVariants as flaw

-- the first of the fields UUID, ARCH and LOAD that is not valid; if all three are valid it is ADDRESS
abbrev pub field_flaw : Option (List ℕ) → Option ArchKey → Option (Option ℕ) → FrameFlaw
field_flaw None _ _ = flaw.Uuid
field_flaw (Some _) None _ = flaw.Arch
field_flaw (Some _) (Some _) None = flaw.Load
field_flaw (Some _) (Some _) (Some _) = flaw.Address

-- if there are not four fields, their number is wrong
abbrev pub fields_flaw : List Field → FrameFlaw
fields_flaw (uuid ∷ arch ∷ load ∷ address ∷ []) = field_flaw (parsed uuid) (arch_of arch) (load_of load)
fields_flaw _ = flaw.FieldCount

-- the flaw of a whole line, or else that of its fields
abbrev pub flaw_or : Option LineFlaw → FrameFlaw → FrameFlaw
flaw_or (Some of_line) _ = flaw.Line of_line
flaw_or None of_fields = of_fields

abbrev pub frame_flaw : Line → FrameFlaw
frame_flaw line = flaw_or (line_flaw line) (fields_flaw (fields line))
