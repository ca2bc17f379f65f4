-- The answer of a search for a UUID: its retirements and its live slices.
use Rattle.std.specs.Prelude.{◌≡◌, ◌↔◌, ℕ, Bool, true, false, not, List, ◌==◌, ◌&&◌, if◌then◌else◌, map, count_by}
use Rattle.std.specs.Prelude.{Contains}
use Rattle.std.specs.Ordering.{nat_cmp, on, then_cmp}
use Rattle.std.specs.declared.cmp.Ordering.{Ordering}
use Rattle.std.specs.Cmp.Lexicographic.{slice_cmp}
use Rattle.std.specs.List.Sorted.{IsStrictlySortedBy}
use Rattle.std.specs.Str.{bytes_eq}
use Rattle.std.specs.FinSet as set
use Rattle.sha2.specs.Sha256.{sha256}
use Rattle.macho_image.specs.Contents.{is_dsym_image}
use Rattle.archive_core.specs.Valid.{key_of}
use Rattle.archive_core.specs.Record.{record_bytes, admission_record, retirement_record, IsOperation}
use Rattle.archive_core.specs.Content.{Operations, IsLive, IsAnswering}
use Rattle.archive_core.specs.declared.keys.ArchKey.{ArchKey}
use Rattle.archive_core.specs.declared.keys.Digest.{Digest}
use Rattle.archive_core.specs.declared.keys.SliceKey.{SliceKey}
use Rattle.archive_core.specs.declared.find.FindRow.{FindRow}
use Rattle.archive_core.specs.declared.find.FindState.{FindState}
use Rattle.archive_core.specs.declared.find.FindState.TheVariants.{Retired, Image, Dsym}
use Rattle.archive_core.specs.declared.operations.Operation.{Operation}
use Rattle.archive_core.specs.declared.operations.Operation.TheVariants.{Admit, Retire}

-- the key of an operation
abbrev pub key_in : Operation → SliceKey
key_in (Admit slice) = key_of slice
key_in (Retire key digest) = key

-- architectures by cputype, then by cpusubtype
abbrev pub arch_cmp : ArchKey → ArchKey → Ordering
arch_cmp = then_cmp (on (λ arch. arch.cputype) nat_cmp) (on (λ arch. arch.cpusubtype) nat_cmp)

-- operations by architecture, then by record
abbrev pub find_cmp : Operation → Operation → Ordering
find_cmp = then_cmp (on (λ operation. (key_in operation).arch) arch_cmp) (on record_bytes (slice_cmp nat_cmp))

-- a retirement of the UUID in the content, or the admission of a live slice of the UUID
abbrev pub IsFoundUnder : Operations → List ℕ → Operation → Type 0
IsFoundUnder o uuid (Admit slice) = ((key_of slice).uuid ≡ uuid) × IsLive o (key_of slice) slice
IsFoundUnder o uuid (Retire key digest) = (key.uuid ≡ uuid) × (set.contains o (retirement_record key digest.0) ≡ true)

-- a live slice is a companion if its filetype is MH_DSYM, otherwise an image
abbrev pub state_of : List ℕ → FindState
state_of slice = if is_dsym_image slice then Dsym else Image

-- the SHA-256 of the slice that an operation admits, or the digest of a retirement
abbrev pub digest_in : Operation → Digest
digest_in (Admit slice) = record { 0 = sha256 slice }
digest_in (Retire key digest) = digest

-- the state in the row of an operation
abbrev pub state_in : Operation → FindState
state_in (Admit slice) = state_of slice
state_in (Retire key digest) = Retired

-- the row of an operation
abbrev pub row_of : Operation → FindRow
row_of operation = record { key = key_in operation; digest = digest_in operation; state = state_in operation }

-- the result of a search: one row for each retirement and each live slice of the UUID, by architecture, then by record
pub record IsFinds (o : Operations) (uuid : List ℕ) (rows : List FindRow) : Type 0 where
  pub operations : List Operation
  pub ascending : IsStrictlySortedBy find_cmp operations
  pub exactly : (a : Operation) → Contains operations a ↔ (IsOperation a × IsFoundUnder o uuid a)
  pub rows_are : rows ≡ map row_of operations

-- the state of a live companion
abbrev pub is_dsym : FindState → Bool
is_dsym Retired = false
is_dsym Image = false
is_dsym Dsym = true

-- the state of any other live slice
abbrev pub is_image : FindState → Bool
is_image Retired = false
is_image Image = true
is_image Dsym = false

-- whether two architectures are equal
abbrev pub is_arch : ArchKey → ArchKey → Bool
is_arch a b = (a.cputype == b.cputype) && (a.cpusubtype == b.cpusubtype)

-- whether two keys are equal
abbrev pub is_key : SliceKey → SliceKey → Bool
is_key a b = bytes_eq a.uuid b.uuid && is_arch a.arch b.arch

-- whether a slice is a companion, or, without the flag, is not one
abbrev pub is_kind : Bool → List ℕ → Bool
is_kind dsym slice = if dsym then is_dsym_image slice else not (is_dsym_image slice)

-- a row of a live companion with the architecture
abbrev pub is_dsym_row : ArchKey → FindRow → Bool
is_dsym_row arch row = is_arch row.key.arch arch && is_dsym row.state

-- a row of another live slice with the architecture
abbrev pub is_image_row : ArchKey → FindRow → Bool
is_image_row arch row = is_arch row.key.arch arch && is_image row.state

-- the number of rows with an architecture whose slices answer: its companions, or its images if there are none
abbrev pub answering_count : List FindRow → ArchKey → ℕ
answering_count rows arch = if count_by (is_dsym_row arch) rows == 0 then count_by (is_image_row arch) rows
    else count_by (is_dsym_row arch) rows

-- the answering slices of a key, strictly ascending by their records
pub record AreAnswering (o : Operations) (key : SliceKey) (slices : List (List ℕ)) : Type 0 where
  pub ascending : IsStrictlySortedBy (on admission_record (slice_cmp nat_cmp)) slices
  pub exactly : (slice : List ℕ) → Contains slices slice ↔ IsAnswering o key slice
