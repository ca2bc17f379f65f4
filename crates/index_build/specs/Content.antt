-- The index of a content.
use Rattle.std.specs.Prelude.{◌≡◌, ◌+◌, ◌-◌, ℕ, true, false, List, [], ◌∷◌, length, take, drop, flat_map, Contains}
use Rattle.std.specs.Prelude.{◌++◌, if◌then◌else◌}
use Rattle.std.specs.List.{AllZip}
use Rattle.std.specs.FinSet as set
use Rattle.join_core.specs.Listing.{listing}
use Rattle.table_checked_pages.specs.Pages.{AreStored, Claim, stored}
use Rattle.table_source_frames.specs.SliceTable.{IsSliceTable}
use Rattle.table_symbols.specs.Steps.{AreBytes}
use Rattle.archive_core.specs.Content.{Operations, is_admission}
use Rattle.archive_core.specs.Record.{admission_record}
use Rattle.archive_core.specs.Summary.{Entries, entry}
use Rattle.index_format.specs.Entry.{placed_entry}
use Rattle.index_format.specs.Text.{index_magic}
use Rattle.index_format.specs.Entry.{claim_at, claim_bytes, claim_in, no_claim}
use Rattle.index_format.specs.Text.{index_text}

-- the claim of a record's table that is stored from this offset; a retirement has none
unfoldable pub claim_of : ℕ → List ℕ → List ℕ → Claim
claim_of at r table = if is_admission r then claim_at at table else no_claim

-- the entry of a record at this offset, with its table stored from the other one
unfoldable pub table_entry : ℕ → ℕ → List ℕ → List ℕ → List ℕ
table_entry offset at r table = placed_entry offset r ++ claim_bytes (claim_of at r table)

-- the table of a record: that of its slice, or nothing for a retirement
pub record IsTableOf (r table : List ℕ) : Type 0 where
  pub admitted : is_admission r ≡ true → IsSliceTable (drop 33 r) table
  pub retired : is_admission r ≡ false → table ≡ []

-- the entries of records and tables that follow one another, from these offsets
abbrev pub table_entries : ℕ → ℕ → List (List ℕ) → List (List ℕ) → List (List ℕ)
table_entries offset at [] tables = []
table_entries offset at (r ∷ rs) [] = []
table_entries offset at (r ∷ rs) (t ∷ ts) =
    table_entry offset at r t ∷ table_entries (offset + length r) (at + length (stored t)) rs ts

-- the same in byte order, with records and tables after the magic of their file
unfoldable pub entries_of : List (List ℕ) → List (List ℕ) → List (List ℕ)
entries_of records tables =
    let entries : Entries = set.from_list (table_entries 8 8 records tables) in listing entries

-- the stored tables of records; a retirement has none
abbrev pub tables_text : List (List ℕ) → List ℕ
tables_text tables = flat_map stored tables

-- the front of an index with these tables
abbrev pub front_of : List (List ℕ) → List ℕ
front_of tables = index_magic ++ tables_text tables

-- the slices of a content are bytes
abbrev pub HasByteSlices : Operations → Type 0
HasByteSlices o = (slice : List ℕ) → set.contains o (admission_record slice) ≡ true → AreBytes slice

-- The text is the index of a content: the tables of its records, in the order of these, and their entries.
pub record IsIndexOf (o : Operations) (text : List ℕ) : Type 0 where
  pub tables : List (List ℕ)
  pub each : AllZip IsTableOf (listing o) tables
  pub text_is : text ≡ index_text (tables_text tables) (entries_of (listing o) tables)

-- One of these entries is that of a record, and the table of its slice is stored in the text where the entry says.
pub record HasTable (text : List ℕ) (entries : List (List ℕ)) (r : List ℕ) : Type 0 where
  pub e : List ℕ
  pub among : Contains entries e
  pub entry_is : take 57 e ≡ entry r
  pub table : List ℕ
  pub is_table : IsSliceTable (drop 33 r) table
  pub stored : AreStored text (claim_in e) table

-- two texts end with the same end record
abbrev pub EndAlike : List ℕ → List ℕ → Type 0
EndAlike text other = drop (length text - 57) text ≡ drop (length other - 57) other
