-- The answer of a search for a name: the rows of symbols with that name in live slices.
use Rattle.std.specs.Prelude.{◌≡◌, ◌↔◌, ℕ, List, map, Contains}
use Rattle.std.specs.Ordering.{nat_cmp, on, then_cmp}
use Rattle.std.specs.declared.cmp.Ordering.{Ordering}
use Rattle.std.specs.Cmp.Lexicographic.{slice_cmp}
use Rattle.std.specs.List.Sorted.{IsStrictlySortedBy}
use Rattle.sha2.specs.Sha256.{sha256}
use Rattle.macho_symbols.specs.Found.{FoundRecord, named}
use Rattle.archive_core.specs.Valid.{key_of, IsValid}
use Rattle.archive_core.specs.Content.{Operations, IsLive}
use Rattle.archive_core.specs.Find.{arch_cmp}
use Rattle.archive_core.specs.declared.keys.SliceKey.{SliceKey}
use Rattle.archive_core.specs.declared.names.NameRow.{NameRow}
use Rattle.archive_core.specs.declared.names.OwnedNameRow.{OwnedNameRow}

-- a symbol of a slice: the key and the SHA-256 of the slice, the symbol's address, the number of its section, and the
-- section's names
pub record NameRecord : Type 0 where
  pub key : SliceKey
  pub digest : List ℕ
  pub address : ℕ
  pub sect : ℕ
  pub segment : List ℕ
  pub section : List ℕ

-- keys by UUID, then by architecture
abbrev pub key_cmp : SliceKey → SliceKey → Ordering
key_cmp = then_cmp (on (λ key. key.uuid) (slice_cmp nat_cmp)) (on (λ key. key.arch) arch_cmp)

-- rows by the address of the symbol, then by its section
abbrev pub place_cmp : NameRecord → NameRecord → Ordering
place_cmp = then_cmp (on (λ row. row.address) nat_cmp)
    (then_cmp (on (λ row. row.sect) nat_cmp)
    (then_cmp (on (λ row. row.segment) (slice_cmp nat_cmp)) (on (λ row. row.section) (slice_cmp nat_cmp))))

-- rows by key, then by digest, then by the symbol's address and section
abbrev pub name_cmp : NameRecord → NameRecord → Ordering
name_cmp = then_cmp (then_cmp (on (λ row. row.key) key_cmp) (on (λ row. row.digest) (slice_cmp nat_cmp))) place_cmp

-- the row of a symbol that was found in a slice
abbrev pub name_row : List ℕ → FoundRecord → NameRecord
name_row slice found = record {
  key = key_of slice;
  digest = sha256 slice;
  address = found.address;
  sect = found.sect;
  segment = found.segment;
  section = found.section;
}

-- the rows of a name in a slice, in the order of its symbol table
abbrev pub names_in : List ℕ → List ℕ → List NameRecord
names_in name slice = map (name_row slice) (named slice name)

-- the row of a candidate with the name in a live slice
pub record IsNameRow (o : Operations) (name : List ℕ) (row : NameRecord) : Type 0 where
  pub slice : List ℕ
  pub valid : IsValid slice
  pub live : IsLive o (key_of slice) slice
  pub found : FoundRecord
  pub candidate : Contains (named slice name) found
  pub row_is : row ≡ name_row slice found

-- the result of a search for a name: the rows of all candidates with the name in live slices, each once, ascending
pub record IsNames (o : Operations) (name : List ℕ) (rows : List NameRecord) : Type 0 where
  pub ascending : IsStrictlySortedBy name_cmp rows
  pub exactly : (row : NameRecord) → Contains rows row ↔ IsNameRow o name row

-- a row, without the memory of its names
abbrev pub name_view : NameRow → NameRecord
name_view row = record {
  key = row.key;
  digest = row.digest.0;
  address = row.address;
  sect = row.sect;
  segment = row.segment.now;
  section = row.section.now;
}

-- a row that owns its names, without their memory
abbrev pub owned_name_view : OwnedNameRow → NameRecord
owned_name_view row = record {
  key = row.key;
  digest = row.digest.0;
  address = row.address;
  sect = row.sect;
  segment = row.segment.items;
  section = row.section.items;
}
