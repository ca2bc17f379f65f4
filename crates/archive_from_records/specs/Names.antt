-- The rows of two names that were found in archives, which are read one after another.
use Rattle.std.specs.Prelude.{◌≡◌, ◌↔◌, ◌⊎◌, ℕ, List, true, false, map, Contains}
use Rattle.std.specs.FinSet as set
use Rattle.archive_core.specs.Content.{Operations, is_admission}
use Rattle.archive_core.specs.Names.{IsNameRow, NameRecord, owned_name_view}
use Rattle.archive_records.specs.Entry.{entry_bytes}
use Rattle.archive_from_records.specs.declared.names.NamesFound.{NamesFound}

-- One more content was read: its rows of both names were added to those before, in any order and with any repeats, and
-- so were the entries of its retirements, which are their records.
pub record AddsNames (o : Operations) (name other : List ℕ) (old new : NamesFound) : Type 0 where
  pub rows : (row : NameRecord) → Contains (map owned_name_view new.told.rows.items) row
      ↔ (Contains (map owned_name_view old.told.rows.items) row ⊎ IsNameRow o name row)
  pub others : (row : NameRecord) → Contains (map owned_name_view new.told.others.items) row
      ↔ (Contains (map owned_name_view old.told.others.items) row ⊎ IsNameRow o other row)
  pub retired : (r : List ℕ) → Contains (map entry_bytes new.retired.items) r
      ↔ (Contains (map entry_bytes old.retired.items) r ⊎ ((set.contains o r ≡ true) × (is_admission r ≡ false)))
