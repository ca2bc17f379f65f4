-- The content of an archive after a file is admitted, and the rows that report it.
use Rattle.std.specs.Prelude.{◌≡◌, ◌≤◌, ℕ, List, [], ◌∷◌, length, map, take, if◌then◌else◌}
use Rattle.sha2.specs.Sha256.{sha256}
use Rattle.archive_core.specs.Valid.{key_of}
use Rattle.archive_core.specs.Record.{admission_record}
use Rattle.archive_core.specs.Content.{Operations, with_records, changes}
use Rattle.archive_image_admission.specs.File.{is_admissible, admissible}
use Rattle.archive_image_admission.specs.declared.taken.Taken.{Taken}
use Rattle.archive_image_admission.specs.declared.taken.Taken.TheVariants.{Added, Known, Skipped}

-- the content after images were admitted, one after another
abbrev pub admitted : Operations → List (List ℕ) → Operations
admitted o images = with_records o (map admission_record images)

-- the result of an image: it is added if its admission changes the content, otherwise it is known, since it is present
-- or a retirement covers it
unfoldable pub taken_of : Operations → List ℕ → Taken
taken_of o image =
    if changes o (admission_record image) then Added (key_of image) (record { 0 = sha256 image })
    else Known (key_of image) (record { 0 = sha256 image })

-- a row for each part, in their order, each on the content after the parts before it; laws.rows_in_order describes the
-- rows
unfoldable pub taken_rows : Operations → List (List ℕ) → List Taken
taken_rows o [] = []
taken_rows o (part ∷ parts) =
    if is_admissible part then taken_of o part ∷ taken_rows (admitted o (part ∷ [])) parts
    else Skipped ∷ taken_rows o parts

-- exactly the first of the file's admissible parts, up to some number, were admitted
pub record HoldsFirstParts (file : List ℕ) (old new : Operations) : Type 0 where
  pub count : ℕ
  pub some : count ≤ length (admissible file)
  pub content : new ≡ admitted old (take count (admissible file))
