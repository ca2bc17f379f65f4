-- The slices of files, each once, and the rows about them: definitions for private functions. No public contract uses
-- them.
use Rattle.std.specs.Prelude.{◌≡◌, ℕ, List, [], ◌∷◌, ◌++◌, Bool, true, false, Option, Some, None, Result, Ok, Err, map}
use Rattle.std.specs.Prelude.{length}
use Rattle.std.specs.Prelude.{if◌then◌else◌}
use Rattle.std.specs.Prelude.{slice_get}
use Rattle.std.specs.List.{AllZip, flat_map}
use Rattle.std.specs.FinSet as set
use Rattle.join_core.specs.Listing.{listing}
use Rattle.archive_core.specs.Content.{Operations}
use Rattle.archive_core.specs.Record.{admission_record}
use Rattle.archive_image_admission.specs.File.{parts, slice_in}
use Rattle.archive_image_admission.specs.Take.{admitted, taken_of}
use Rattle.archive_image_admission.specs.declared.taken.Taken.{Taken}
use Rattle.archive_image_admission.specs.declared.taken.Taken.TheVariants.{Added, Known, Skipped}
use Rattle.byte_lazy_inputs.specs.declared.openings.Opening.{Opening}
use Rattle.command_common.specs.declared.faults.CommandFault.{CommandFault}
use Rattle.command_common.specs.declared.faults.Status.{Status}
use Rattle.command_common.specs.declared.faults.Status.TheVariants.{Done, SomeRefused}
use Rattle.command_common.specs.declared.faults.Why.{Why}
use Rattle.command_common.specs.Inputs.{Reader}
use Rattle.command_archives.specs.FileRows.{file_lines}
use Rattle.command_archives.specs.PassedOver.{Becomes, Outcome, images_by, images_from, rows_by, rows_of}
use Rattle.command_archives.specs.declared.arriving.Arrivals.{Arrivals}
use Rattle.command_archives.specs.declared.file_rows.FileRow.{FileRow}
use Rattle.command_archives.specs.declared.file_rows.FileRow.TheVariants.{Part, PassedOver}

-- the images among the parts of a file
abbrev pub images_in : List (Option (List ℕ)) → List (List ℕ)
images_in [] = []
images_in (None ∷ slices) = images_in slices
images_in (Some slice ∷ slices) = slice ∷ images_in slices

-- their rows, each over the content that includes the earlier parts
unfoldable pub slice_rows : Operations → List (Option (List ℕ)) → List Taken
slice_rows o [] = []
slice_rows o (None ∷ slices) = Skipped ∷ slice_rows o slices
slice_rows o (Some slice ∷ slices) = taken_of o slice ∷ slice_rows (admitted o (slice ∷ [])) slices

-- the record of a part that is a slice; for another part an empty record, which is never used
abbrev pub record_in : Option (List ℕ) → List ℕ
record_in None = []
record_in (Some slice) = admission_record slice

-- the records of the parts of a file
abbrev pub records_in : List ℕ → List (List ℕ)
records_in file = map record_in (map slice_in (parts file))

-- the record of each row of a file; for a file that is passed over an empty record, which is never used
abbrev pub records_by : Outcome → List (List ℕ)
records_by (Ok bytes) = records_in bytes
records_by (Err why) = [] ∷ []

-- whether a file is passed over
abbrev pub is_passed : Outcome → Bool
is_passed (Ok bytes) = false
is_passed (Err why) = true

-- the result of a command, with the status for whether a file was passed over
abbrev pub with_status : Bool → Result Status CommandFault → Result Status CommandFault
with_status passed (Ok _) = Ok (if passed then SomeRefused else Done)
with_status passed (Err fault) = Err fault

-- the records of the rows of files
abbrev pub records_of : List Outcome → List (List ℕ)
records_of outcomes = flat_map records_by outcomes

-- whether a slice was added
abbrev pub was_added : Taken → Bool
was_added (Added key digest) = true
was_added (Known key digest) = false
was_added Skipped = false

-- whether it is the row of a slice that was added
abbrev pub adds : FileRow → Bool
adds (Part row) = was_added row.taken
adds (PassedOver file why) = false

-- the row of a part of a file, with its number and outcome, or the row of a file that is passed over
abbrev pub row_of : ℕ → Result (ℕ × Taken) Why → FileRow
row_of file (Ok part) = Part (record { file = file; slice = part.0; taken = part.1 })
row_of file (Err why) = PassedOver file why

-- a slice that was added is known if it is not new
abbrev pub updated_taken : Bool → Taken → Taken
updated_taken new (Added key digest) = if new then Added key digest else Known key digest
updated_taken new (Known key digest) = Known key digest
updated_taken new Skipped = Skipped

-- the same for its row
abbrev pub updated_row : Bool → FileRow → FileRow
updated_row new (Part row) = Part (record { file = row.file; slice = row.slice; taken = updated_taken new row.taken })
updated_row new (PassedOver file why) = PassedOver file why

-- the same for rows, by which of their records are new
unfoldable pub updated_rows : (List ℕ → Bool) → List FileRow → List (List ℕ) → List FileRow
updated_rows is_new [] records = []
updated_rows is_new (row ∷ rows) [] = row ∷ rows
updated_rows is_new (row ∷ rows) (r ∷ records) = updated_row (is_new r) row ∷ updated_rows is_new rows records

-- For arrived records, in order, the numbers of their rows. Each row that was added is the row of one of them.
pub record AreFirstRows (came : List (List ℕ)) (first_rows : List ℕ) (rows : List FileRow) (records : List (List ℕ))
    : Type 0 where
  pub long : length records ≡ length rows
  pub beside : AllZip (λ (number : ℕ) (r : List ℕ). slice_get records number ≡ Some r) first_rows came
  pub each : (number : ℕ) (row : FileRow) → slice_get rows number ≡ Some row → adds row ≡ true
      → (i : ℕ) × (slice_get first_rows i ≡ Some number)

-- The file with this number and outcome was added to the arrivals: its images and its rows, over the earlier content.
pub record Brings (old new : Arrivals) (index : ℕ) (outcome : Outcome) : Type 0 where
  pub came : new.came ≡ admitted old.came (images_by outcome)
  pub rows : new.rows.items ≡ old.rows.items ++ rows_by old.came index outcome
  pub are_first : (records : List (List ℕ))
      → AreFirstRows (listing old.came) old.first_rows.items old.rows.items records
      → AreFirstRows (listing new.came) new.first_rows.items new.rows.items (records ++ records_by outcome)

-- The files have these outcomes. `came` has their images, `rows` are their rows over an empty content, and `first_rows`
-- locate the records of the images among those of the rows.
pub record HasCome {S : Type 0} (opening : S → Opening) (files : List (Reader S)) (outcomes : List Outcome)
    (came : Operations) (first_rows : List ℕ) (rows : List FileRow) : Type 0 where
  pub become : AllZip (Becomes opening) files outcomes
  pub content : came ≡ admitted set.empty (images_from outcomes)
  pub rows_are : rows ≡ rows_of set.empty 0 outcomes
  pub are_first : AreFirstRows (listing came) first_rows rows (records_of outcomes)

-- the lines of rows, updated by which of their records are new
abbrev pub lines_again : List FileRow → List (List ℕ) → (List ℕ → Bool) → List ℕ
lines_again rows records is_new = file_lines (updated_rows is_new rows records)
