-- The numbers of the parts of a table, in the order of their first use.
use Rattle.std.specs.Prelude.{ℕ, zero, suc, List, [], ◌∷◌, ◌<◌, ◌==◌, flat_map, if◌then◌else◌, length, reverse}
use Rattle.std.specs.Prelude.{slice_index}
use Rattle.table_source_frames_build.specs.FirstUses.{some_number}
use Rattle.table_source_frames_build.specs.Kept.{KeptRecord, file_key_at, scope_key_at, scope_numbers_of}
use Rattle.table_source_frames_build.specs.Numbering.{IsNumber}
use Rattle.table_source_frames_build.specs.declared.keys.FileKey.{FileKey}
use Rattle.table_source_frames_build.specs.declared.step.Step.{Step}

-- the scopes that steps use, the outermost of each step first
abbrev pub scope_uses : KeptRecord → List Step → List ℕ
scope_uses k steps = flat_map (λ (s : Step). reverse (scope_numbers_of k s.location)) steps

-- the files that scopes use
abbrev pub file_uses : KeptRecord → List ℕ → List ℕ
file_uses k scopes = flat_map (λ n. some_number (scope_key_at k n).file) scopes

-- the number of a text that has no place among strings; none of 0
abbrev pub unplaced : List ℕ → ℕ → List ℕ
unplaced places zero = []
unplaced places (suc index) = if slice_index places index == 0 then suc index ∷ [] else []

-- the texts of the names of scopes, without those that have places
abbrev pub name_uses : KeptRecord → List ℕ → List ℕ → List ℕ
name_uses k places scopes = flat_map (λ n. unplaced places (scope_key_at k n).name) scopes

-- the texts of a path
abbrev pub path_numbers : FileKey → List ℕ
path_numbers key = key.base ∷ key.directory ∷ key.name ∷ []

-- the texts of files, without those that have places
abbrev pub path_uses : KeptRecord → List ℕ → List ℕ → List ℕ
path_uses k places files = flat_map (λ n. flat_map (unplaced places) (path_numbers (file_key_at k n))) files

-- each number is that of one of `count` elements
abbrev pub AreNumbers : ℕ → List ℕ → Type 0
AreNumbers count numbers = (i : ℕ) → i < length numbers → IsNumber count (slice_index numbers i)
