-- The slice of a content that is wanted under a key, and its report.
use Rattle.std.specs.Prelude.{◌≡◌, ◌≢◌, ℕ, List, [], ◌∷◌, ◌++◌, codes, length, map, Option, Some, None}
use Rattle.std.specs.Fmt.{decimal}
use Rattle.sha2.specs.Sha256.{sha256}
use Rattle.archive_core.specs.Content.{Operations, IsLive}
use Rattle.archive_core.specs.Find.{AreAnswering, row_of}
use Rattle.archive_core.specs.Valid.{key_of}
use Rattle.archive_core.specs.declared.find.FindRow.{FindRow}
use Rattle.archive_core.specs.declared.keys.Digest.{Digest}
use Rattle.archive_core.specs.declared.keys.SliceKey.{SliceKey}
use Rattle.archive_core.specs.declared.operations.Operation.TheVariants.{Admit}
use Rattle.text_values.specs.Words.{digest_text}
use Rattle.text_reports.specs.Finds.{find_lines}
use Rattle.text_reports.specs.Report.{line}
use Rattle.text_reports.specs.Rows.{key_text}

-- the slice is the wanted one under the key: the only one that answers; or a held one with the digest
abbrev pub IsWanted : Operations → SliceKey → Option Digest → List ℕ → Type 0
IsWanted o key None slice = AreAnswering o key (slice ∷ [])
IsWanted o key (Some digest) slice = IsLive o key slice × (sha256 slice ≡ digest.0)

-- no slice is: these answer, and there are none or several; or no held one has the digest, and there are none
abbrev pub AreUndecided : Operations → SliceKey → Option Digest → List (List ℕ) → Type 0
AreUndecided o key None slices = AreAnswering o key slices × (length slices ≢ 1)
AreUndecided o key (Some digest) slices =
    (slices ≡ []) × ((slice : List ℕ) → IsLive o key slice → sha256 slice ≡ digest.0 → ⊥)

-- the row of a slice, as `find` returns it
abbrev pub slice_row : List ℕ → FindRow
slice_row slice = row_of (Admit slice)

-- the lines of slices, as `find` prints them
abbrev pub slices_text : List (List ℕ) → List ℕ
slices_text slices = find_lines (map slice_row slices)

-- the line of a slice that was written: its key, its digest, and its length in bytes
abbrev pub line_of : SliceKey → Digest → ℕ → List ℕ
line_of key digest size = line (codes "slice " ++ key_text key ++ codes " " ++ digest_text digest ++ codes ", "
    ++ decimal size ++ codes " bytes")

-- the same for these bytes under a key
abbrev pub written_line : SliceKey → List ℕ → List ℕ
written_line key slice = line_of key (record { 0 = sha256 slice }) (length slice)

-- the same under the slice's own key
abbrev pub slice_line : List ℕ → List ℕ
slice_line slice = written_line (key_of slice) slice
