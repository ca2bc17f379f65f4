-- Queries by key, which are answered key by key.
use Rattle.std.specs.Prelude.{ℕ, List, [], ◌∷◌, Option, Some, None}
use Rattle.std.specs.Ordering.{nat_cmp}
use Rattle.std.specs.Cmp.Lexicographic.{slice_cmp}
use Rattle.std.specs.List.Sorted.{IsSortedByKey}
use Rattle.archive_core.specs.declared.keys.SliceKey.{SliceKey}
use Rattle.archive_core.specs.Key.{key_bytes}
use Rattle.archive_core.specs.Content.{Operations}
use Rattle.archive_core.specs.Find.{AreAnswering}

-- the keys are in the order of their bytes, and may be repeated
abbrev pub AreInOrder : List SliceKey → Type 0
AreInOrder keys = IsSortedByKey key_bytes (slice_cmp nat_cmp) keys

-- the first of the keys, if there is one
abbrev pub first_key : List SliceKey → Option SliceKey
first_key [] = None
first_key (key ∷ keys) = Some key

-- the slices that answer for the key are the same in both contents
abbrev pub AnswersAs : SliceKey → Operations → Operations → Type 0
AnswersAs key o p = (slices : List (List ℕ)) → AreAnswering o key slices → AreAnswering p key slices
