-- Entries of an index: the kind of a record, its offset in its archive, and the offset of the table of its slice.
use Rattle.std.specs.Prelude.{◌≡◌, ℕ, zero, suc, ◌+◌, List, [], ◌∷◌, ◌++◌, length, map, take, drop, slice_index}
use Rattle.std.specs.Prelude.{All, Bool, true, ◌&&◌, ◌||◌, ◌==◌, nat_le, if◌then◌else◌}
use Rattle.std.specs.Int.{w64, to_be_bytes, from_be_bytes}
use Rattle.std.specs.List.Sorted.{IsStrictlySortedBy}
use Rattle.std.specs.Ordering.{nat_cmp}
use Rattle.std.specs.Cmp.Lexicographic.{slice_cmp}
use Rattle.std.specs.Str.{bytes_eq}
use Rattle.table_checked_pages.specs.Pages.{Claim, digests_size, root_of}
use Rattle.table_checked_pages.specs.Views.{claim_view}
use Rattle.macho_image.specs.Contents.{is_dsym_image}
use Rattle.archive_core.specs.Key.{IsKey, key_bytes}
use Rattle.archive_core.specs.Record.{record_bytes, IsOperation}
use Rattle.archive_core.specs.Content.{is_admission}
use Rattle.archive_core.specs.Summary.{entry}
use Rattle.archive_core.specs.Find.{key_in, row_of}
use Rattle.archive_core.specs.declared.find.FindRow.{FindRow}
use Rattle.archive_core.specs.declared.find.FindState.{FindState}
use Rattle.archive_core.specs.declared.find.FindState.TheVariants.{Retired, Image, Dsym}
use Rattle.archive_core.specs.declared.operations.Operation.{Operation}
use Rattle.archive_records.specs.Layout.{largest_slice}
use Rattle.index_format.specs.declared.entry.IndexEntry.{IndexEntry}

-- the row of the operation with this record
pub record IsRowOf (bytes : List ℕ) (row : FindRow) : Type 0 where
  pub operation : Operation
  pub is_operation : IsOperation operation
  pub is_key : IsKey (key_in operation)
  pub bytes_are : record_bytes operation ≡ bytes
  pub row_is : row ≡ row_of operation

-- whether a record is the admission of a companion, as a byte
abbrev pub kind_byte : List ℕ → ℕ
kind_byte r = if is_admission r && is_dsym_image (drop 33 r) then 1 else 0

-- the entry of a record at this offset: its entry in a summary, the kind, the offset and the length
unfoldable pub placed_entry : ℕ → List ℕ → List ℕ
placed_entry offset r = entry r ++ (kind_byte r ∷ (to_be_bytes w64 offset ++ to_be_bytes w64 (length r)))

-- the tag of an entry: 1 for a retirement, 2 for an admission
abbrev pub tag_byte : FindState → ℕ
tag_byte Retired = 1
tag_byte Image = 2
tag_byte Dsym = 2

-- the kind of an entry: 1 for a companion, otherwise 0
abbrev pub dsym_byte : FindState → ℕ
dsym_byte Retired = 0
dsym_byte Image = 0
dsym_byte Dsym = 1

-- the bytes of an entry before its claim
unfoldable pub placed_bytes : IndexEntry → List ℕ
placed_bytes e =
    (tag_byte e.row.state ∷ (key_bytes e.row.key ++ e.row.digest.0))
    ++ (dsym_byte e.row.state ∷ (to_be_bytes w64 e.offset ++ to_be_bytes w64 e.length))

-- the tag is that of a retirement or of an admission
abbrev pub has_tag : List ℕ → Bool
has_tag e = (slice_index e 0 == 1) || (slice_index e 0 == 2)

-- the kind is 0, or for an admission 1
abbrev pub has_kind : List ℕ → Bool
has_kind e = (slice_index e 57 == 0) || ((slice_index e 57 == 1) && (slice_index e 0 == 2))

-- the offset of the record
abbrev pub offset_in : List ℕ → ℕ
offset_in e = from_be_bytes w64 (take 8 (drop 58 e))

-- the length of the record
abbrev pub length_in : List ℕ → ℕ
length_in e = from_be_bytes w64 (take 8 (drop 66 e))

-- the length is possible for such a record: 57 for a retirement, and for an admission 33 plus the length of a slice
abbrev pub has_length : List ℕ → Bool
has_length e = if slice_index e 0 == 2 then nat_le 33 (length_in e) && nat_le (length_in e) (33 + largest_slice)
    else length_in e == 57

-- the bytes are an entry of an index before its claim
pub record IsPlacedEntry (e : List ℕ) : Type 0 where
  pub long : length e ≡ 74
  pub tag : has_tag e ≡ true
  pub kind : has_kind e ≡ true
  pub length_is : has_length e ≡ true

-- this number of zeros
unfoldable pub zeros : ℕ → List ℕ
zeros zero = []
zeros (suc n) = 0 ∷ zeros n

-- the bytes of a claim in an entry: the offset, the size and the root
unfoldable pub claim_bytes : Claim → List ℕ
claim_bytes c = to_be_bytes w64 c.offset ++ (to_be_bytes w64 c.size ++ c.root)

-- the claim of bytes that are stored from this offset
abbrev pub claim_at : ℕ → List ℕ → Claim
claim_at at bytes = record { offset = at; size = length bytes; root = root_of bytes }

-- the claim in the entry of a retirement: all zeros
abbrev pub no_claim : Claim
no_claim = record { offset = 0; size = 0; root = zeros 32 }

-- the bytes of an entry
unfoldable pub entry_bytes : IndexEntry → List ℕ
entry_bytes e = placed_bytes e ++ claim_bytes (claim_view e.claim)

-- the claim in an entry
abbrev pub claim_in : List ℕ → Claim
claim_in e = record {
  offset = from_be_bytes w64 (take 8 (drop 74 e));
  size = from_be_bytes w64 (take 8 (drop 82 e));
  root = drop 90 e;
}

-- the number of bytes that are stored for a claim
abbrev pub stored_size : Claim → ℕ
stored_size c = digests_size c.size + c.size

-- the claim is zero, or it is in an admission and its table ends before this offset
abbrev pub has_claim : ℕ → List ℕ → Bool
has_claim end e =
    if is_admission e then nat_le ((claim_in e).offset + stored_size (claim_in e)) end
    else bytes_eq (drop 74 e) (zeros 48)

-- The fields of an entry are those in its bytes, and its bytes before the claim are a placed entry.
pub record HasItsFields (e : IndexEntry) : Type 0 where
  pub long : length (entry_bytes e) ≡ 122
  pub offset_is : offset_in (entry_bytes e) ≡ e.offset
  pub length_is : length_in (entry_bytes e) ≡ e.length
  pub claim_is : claim_in (entry_bytes e) ≡ claim_view e.claim
  pub placed : IsPlacedEntry (placed_bytes e)

-- Each of these entries has its fields, and they ascend strictly in byte order, with their claims and without them.
pub record AreOrderedEntries (entries : List IndexEntry) : Type 0 where
  pub fields : All HasItsFields entries
  pub ascending : IsStrictlySortedBy (slice_cmp nat_cmp) (map entry_bytes entries)
  pub placed_ascending : IsStrictlySortedBy (slice_cmp nat_cmp) (map (take 74) (map entry_bytes entries))
