-- The results of a plain archive's scan of its operations: the terms of inner functions. No contract of a public
-- function has them.
use Rattle.std.specs.Prelude.{◌≡◌, ◌≤◌, ℕ, Bool, List, [], ◌∷◌, Option, Some, None}
use Rattle.std.specs.Prelude.{length, filter_map, ◌&&◌, if◌then◌else◌}
use Rattle.std.specs.Str.{bytes_eq}
use Rattle.archive_core.specs.Valid.{key_of}
use Rattle.archive_core.specs.Find.{key_in, is_key, is_kind}
use Rattle.archive_core.specs.declared.keys.SliceKey.{SliceKey}
use Rattle.archive_core.specs.declared.operations.Operation.{Operation}
use Rattle.archive_core.specs.declared.operations.Operation.TheVariants.{Admit, Retire}
use Rattle.archive_index.specs.declared.asked.Answering.{Answering}
use Rattle.archive_index.specs.declared.asked.Answering.TheVariants.{Nothing, One, Several}

-- a search finds the operations with its UUID: an archive holds no retired slice
abbrev pub is_found_under : List ℕ → Operation → Bool
is_found_under uuid operation = bytes_eq (key_in operation).uuid uuid

-- a slice that is held is live; it has the key, and is of the kind
unfoldable pub is_held_kind : SliceKey → Bool → List ℕ → Bool
is_held_kind key dsym slice = is_key (key_of slice) key && is_kind dsym slice

-- the slice of an operation, if it is such a slice
abbrev pub held_in : SliceKey → Bool → Operation → Option (List ℕ)
held_in key dsym (Admit slice) = if is_held_kind key dsym slice then Some slice else None
held_in key dsym (Retire other digest) = None

-- the live slices with a key and of a kind, in the order of their operations
unfoldable pub held_among : SliceKey → Bool → List Operation → List (List ℕ)
held_among key dsym operations = filter_map (held_in key dsym) operations

-- the result for slices: there is none, the only one, or there are several
abbrev pub IsAnsweringOf : Answering → List (List ℕ) → Type 0
IsAnsweringOf Nothing slices = slices ≡ []
IsAnsweringOf (One slice) slices = slices ≡ slice ∷ []
IsAnsweringOf Several slices = 2 ≤ length slices
