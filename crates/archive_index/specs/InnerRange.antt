-- The operations of one kind with one key, or with one UUID, are adjacent: their records have the same prefix.
use Rattle.std.specs.Prelude.{ℕ, Bool, List, ◌∷◌}
use Rattle.std.specs.Ordering.{nat_cmp, is_eq}
use Rattle.std.specs.Cmp.Lexicographic.{slice_cmp}
use Rattle.archive_core.specs.Key.{key_bytes}
use Rattle.archive_core.specs.Valid.{key_of}
use Rattle.archive_core.specs.declared.keys.SliceKey.{SliceKey}
use Rattle.archive_core.specs.declared.operations.Operation.{Operation}
use Rattle.archive_core.specs.declared.operations.Operation.TheVariants.{Admit, Retire}
use Rattle.archive_index.specs.declared.range.RecordKind.{RecordKind}
use Rattle.archive_index.specs.declared.range.RecordKind.TheVariants.{Retirement, Admission}
use Rattle.archive_index.specs.declared.range.Scope.{Scope}
use Rattle.archive_index.specs.declared.range.Scope.TheVariants.{OfKey, OfUuid}

-- the bytes of a scope: those of a key, or of a UUID
abbrev pub scope_bytes : Scope → List ℕ
scope_bytes (OfKey key) = key_bytes key
scope_bytes (OfUuid uuid) = uuid

-- the bytes of a key to compare with those of a scope: all, or its UUID
abbrev pub bytes_within : Scope → SliceKey → List ℕ
bytes_within (OfKey _) key = key_bytes key
bytes_within (OfUuid _) key = key.uuid

-- the prefix of the records of a kind within a scope: the tag, and the key or its UUID
abbrev pub scope_prefix : RecordKind → Scope → List ℕ
scope_prefix Retirement scope = 1 ∷ scope_bytes scope
scope_prefix Admission scope = 2 ∷ scope_bytes scope

-- the prefix of an operation's record, as long as that of the scope
abbrev pub prefix_of : Scope → Operation → List ℕ
prefix_of scope (Admit slice) = 2 ∷ bytes_within scope (key_of slice)
prefix_of scope (Retire key digest) = 1 ∷ bytes_within scope key

-- whether an operation is of a kind and within a scope
abbrev pub is_within : RecordKind → Scope → Operation → Bool
is_within kind scope operation = is_eq (slice_cmp nat_cmp (prefix_of scope operation) (scope_prefix kind scope))

-- whether an operation is of a kind and has a key
abbrev pub is_under_key : RecordKind → SliceKey → Operation → Bool
is_under_key kind key = is_within kind (OfKey key)

-- whether an operation is of a kind and has a UUID
abbrev pub is_under_uuid : RecordKind → List ℕ → Operation → Bool
is_under_uuid kind uuid = is_within kind (OfUuid uuid)
