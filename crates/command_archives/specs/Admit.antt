-- The archive and the report that `admit` makes from an archive and files.
use Rattle.std.specs.Prelude.{◌≡◌, ℕ, ◌+◌, List, [], ◌∷◌, ◌++◌}
use Rattle.std.specs.List.{AllByRecursion, AllZip, flat_map}
use Rattle.archive_core.specs.Content.{Operations, IsContent}
use Rattle.archive_image_admission.specs.File.{parts, admissible, IsAcceptedFile}
use Rattle.archive_image_admission.specs.Take.{admitted, taken_rows}
use Rattle.archive_image_admission.specs.declared.taken.Taken.{Taken}
use Rattle.text_reports.specs.Report.{admit_lines}
use Rattle.command_common.specs.declared.faults.InputName.TheVariants.{File}
use Rattle.text_reports.specs.declared.rows.AdmitRow.{AdmitRow}
use Rattle.command_common.specs.Ends.{Command, MakesArchive, Streamed, writes_in_turn}
use Rattle.command_common.specs.Inputs.{Reader, Holds, Unfailed, EachUnfailed, EachKnown, IsAccepted, IsKnown}
use Rattle.command_common.specs.Inputs.{HoldsArchive, IsFileRefused, IsFirstRefused, IsRefusedInTurn, IsWantedInTurn}
use Rattle.command_common.specs.Outputs.{Writer}
use Rattle.command_archives.specs.Begun.{begins_after}

-- the images among the parts of files, in order
abbrev pub images_of : List (List ℕ) → List (List ℕ)
images_of files = flat_map admissible files

-- the rows of the file with this number on the command line, from part number `slice` on
unfoldable pub file_rows : ℕ → ℕ → List Taken → List AdmitRow
file_rows index slice [] = []
file_rows index slice (taken ∷ rest) =
    record { file = index; slice = slice; taken = taken } ∷ file_rows index (slice + 1) rest

-- the rows of files from this number on, each file over the content that includes the earlier ones
unfoldable pub admit_rows : Operations → ℕ → List (List ℕ) → List AdmitRow
admit_rows o index [] = []
admit_rows o index (file ∷ files) =
    file_rows index 0 (taken_rows o (parts file)) ++ admit_rows (admitted o (admissible file)) (index + 1) files

-- IN is the text of a content and the files are accepted; `content` adds their images to it, and `lines` are the lines
-- of their rows.
pub record MakesAdmitted {R S : Type 0} (input : Reader R) (files : List (Reader S)) (content : Operations)
    (lines : List ℕ) : Type 0 where
  pub before : Operations
  pub texts : List (List ℕ)
  pub is_content : IsContent before
  pub archive : HoldsArchive input before
  pub files_are : AllZip Holds files texts
  pub accepted : AllByRecursion IsAcceptedFile texts
  pub content_is : content ≡ admitted before (images_of texts)
  pub lines_are : lines ≡ admit_lines (admit_rows before 0 texts)

-- `admit`, over these inputs
abbrev pub admit : {R S : Type 0} → Reader R → List (Reader S) → Command
admit input files = record {
  Makes = MakesArchive (MakesAdmitted input files);
  Refuses = IsRefusedInTurn input (IsFirstRefused File IsAccepted IsFileRefused files);
  Unfailed = Unfailed input × EachUnfailed files;
}

-- the same while IN is read; the files are read before IN
abbrev pub admit_as_it_comes : {R S : Type 0} → Reader R → List (Reader S) → Writer → Streamed
admit_as_it_comes input files draft =
    begins_after input (AllByRecursion IsAccepted files × EachUnfailed files) (λ given. admit given files)
    (EachKnown files) draft
    (writes_in_turn (admit input files) (IsWantedInTurn input (IsFirstRefused File IsAccepted IsFileRefused files))
    (IsKnown input × EachKnown files) draft)
