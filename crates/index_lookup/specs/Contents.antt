-- The slices of entries.
use Rattle.std.specs.Prelude.{◌≡◌, ℕ, List, take, drop}
use Rattle.sha2.specs.Sha256.{sha256}
use Rattle.table_checked_pages.specs.Pages.{AreStored}
use Rattle.table_symbols.specs.Steps.{AreBytes}
use Rattle.table_source_frames.specs.SliceTable.{IsSliceTable}
use Rattle.index_format.specs.Entry.{claim_in}

-- the slice of an entry: the entry has its SHA-256, and its table is stored in the text where the entry says
pub record IsSliceOf (text slice e : List ℕ) : Type 0 where
  pub bytes : AreBytes slice
  pub digest_is : take 32 (drop 25 e) ≡ sha256 slice
  pub table : List ℕ
  pub is_table : IsSliceTable slice table
  pub stored : AreStored text (claim_in e) table
