-- Records that are gathered one after another at the offsets in an index: the terms of the inner functions. No contract
-- of a public function has them.
use Rattle.std.specs.Prelude.{◌≡◌, ◌<◌, ℕ, Bool, true, List, [], ◌∷◌, ◌++◌, length, take, filter, slice_get}
use Rattle.std.specs.Prelude.{slice_index_or, Option, Some, None, IfSome}
use Rattle.std.specs.List.{AllZip}
use Rattle.index_format.specs.declared.fault.PlaceFault.{PlaceFault}
use Rattle.index_format.specs.declared.fault.PlaceFault.TheVariants.{Stale, Device, OutOfMemory}
use Rattle.archive_core.specs.Content.{is_admission}
use Rattle.index_format.specs.Entry.{length_in, offset_in}
use Rattle.index_format.specs.Places.{IsNamedBy}

-- the record of this entry follows those that were gathered before
pub record IsGathered (whole : Option (List ℕ)) (entry : List ℕ) (old new : List (List ℕ)) : Type 0 where
  pub record_bytes : List ℕ
  pub named : IfSome whole (λ text. IsNamedBy text entry record_bytes)
  pub behind : new ≡ old ++ (record_bytes ∷ [])

-- the records of those of the first n entries that pass, one each and in their order, follow those that were gathered
-- before
pub record AreGathered (whole : Option (List ℕ)) (passes : List ℕ → Bool) (entries : List (List ℕ)) (n : ℕ)
    (old new : List (List ℕ)) : Type 0 where
  pub records : List (List ℕ)
  pub named : IfSome whole (λ text. AllZip (IsNamedBy text) (filter passes (take n entries)) records)
  pub behind : new ≡ old ++ records

-- the entry is that of an admission whose record begins at this offset, and a read of the record's bytes failed
abbrev pub FailsOf : (ℕ → ℕ → Type 0) → List ℕ → ℕ → Type 0
FailsOf Fails entry offset =
    (is_admission entry ≡ true) × (offset ≡ offset_in entry) × Fails offset (length_in entry)

-- the entry with this number names no record of the text
abbrev pub IsUnnamed : ℕ → List ℕ → List ℕ → PlaceFault → Type 0
IsUnnamed number entry text (Stale told) = (told ≡ Some number) × ((r : List ℕ) → IsNamedBy text entry r → ⊥)
IsUnnamed number entry text (Device offset) = Unit {0}
IsUnnamed number entry text OutOfMemory = Unit {0}

-- this entry, which passes, names no record at its offset, and it is the first such entry
abbrev pub IsStaleAmong : (List ℕ → Bool) → List (List ℕ) → List ℕ → PlaceFault → Type 0
IsStaleAmong passes entries text (Stale None) = ⊥
IsStaleAmong passes entries text (Stale (Some k)) =
    (k < length entries) × (passes (slice_index_or entries k []) ≡ true)
    × ((r : List ℕ) → IsNamedBy text (slice_index_or entries k []) r → ⊥)
    × ((j : ℕ) → j < k → passes (slice_index_or entries j []) ≡ true
    → (r : List ℕ) × IsNamedBy text (slice_index_or entries j []) r)
IsStaleAmong passes entries text (Device offset) = Unit {0}
IsStaleAmong passes entries text OutOfMemory = Unit {0}

-- the fault of an entry that has one of these numbers, by its place among them
abbrev pub numbered_fault : List ℕ → PlaceFault → PlaceFault
numbered_fault numbers (Stale (Some at)) = Stale (slice_get numbers at)
numbered_fault numbers (Stale None) = Stale None
numbered_fault numbers (Device offset) = Device offset
numbered_fault numbers OutOfMemory = OutOfMemory
