-- Operations, and their records: the byte strings that encode them.
use Rattle.std.specs.Prelude.{◌≡◌, ℕ, List, ◌∷◌, ◌++◌, length, ◌⊎◌}
use Rattle.std.specs.Int.{w64, to_be_bytes}
use Rattle.archive_core.specs.Key.{IsKey, key_bytes}
use Rattle.archive_core.specs.Valid.{key_of, IsValid}
use Rattle.archive_core.specs.declared.keys.SliceKey.{SliceKey}
use Rattle.archive_core.specs.declared.operations.Operation.{Operation}
use Rattle.archive_core.specs.declared.operations.Operation.TheVariants.{Admit, Retire}
use Rattle.archive_core.specs.declared.operations.Record.{Record}
use Rattle.archive_core.specs.declared.operations.Record.TheVariants.{Admit as Borrowed_Admit}
use Rattle.archive_core.specs.declared.operations.Record.TheVariants.{Retire as Borrowed_Retire}

-- an admission's record after its tag: the key, the length in 8 bytes, the slice
unfoldable pub admission : List ℕ → List ℕ
admission slice = key_bytes (key_of slice) ++ (to_be_bytes w64 (length slice) ++ slice)

-- the record of an admission: tag 2
abbrev pub admission_record : List ℕ → List ℕ
admission_record slice = 2 ∷ admission slice

-- the record of a retirement: tag 1, the key, the digest of the slices that it covers
abbrev pub retirement_record : SliceKey → List ℕ → List ℕ
retirement_record key digest = 1 ∷ (key_bytes key ++ digest)

-- the bytes are the record of an admission
pub record Admits (bytes : List ℕ) : Type 0 where
  pub slice : List ℕ
  pub valid : IsValid slice
  pub is : bytes ≡ admission_record slice

-- the bytes are the record of a retirement
pub record Retires (bytes : List ℕ) : Type 0 where
  pub key : SliceKey
  pub digest : List ℕ
  pub is_key : IsKey key
  pub long : length digest ≡ 32
  pub is : bytes ≡ retirement_record key digest

-- the bytes are the record of an operation
abbrev pub IsRecord : List ℕ → Type 0
IsRecord bytes = Admits bytes ⊎ Retires bytes

-- an operation with valid fields: a valid slice, or a key and a digest of 32 bytes
abbrev pub IsOperation : Operation → Type 0
IsOperation (Admit slice) = IsValid slice
IsOperation (Retire key digest) = IsKey key × (length digest.0 ≡ 32)

-- the record of an operation
abbrev pub record_bytes : Operation → List ℕ
record_bytes (Admit slice) = admission_record slice
record_bytes (Retire key digest) = retirement_record key digest.0

-- the operation that a borrowed record contains
abbrev pub operation_borrowed : Record → Operation
operation_borrowed (Borrowed_Admit slice) = Admit slice
operation_borrowed (Borrowed_Retire key digest) = Retire key digest

-- the bytes of a borrowed record
abbrev pub borrowed_bytes : Record → List ℕ
borrowed_bytes operation = record_bytes (operation_borrowed operation)
