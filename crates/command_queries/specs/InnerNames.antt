-- The rows of two names in several archives: definitions for private functions. No public contract uses them.
use Rattle.std.specs.Prelude.{◌≡◌, ◌↔◌, ◌⊎◌, ℕ, List, true, false, map, Contains}
use Rattle.std.specs.List.{AllByRecursion, AllZip}
use Rattle.std.specs.FinSet as set
use Rattle.archive_core.specs.Content.{Operations, IsContent, is_admission}
use Rattle.archive_core.specs.Names.{IsNameRow, NameRecord, owned_name_view}
use Rattle.archive_records.specs.Entry.{entry_bytes}
use Rattle.archive_from_records.specs.declared.names.NamesFound.{NamesFound}
use Rattle.command_common.specs.Inputs.{Reader, HoldsArchive}

-- one of these contents has this row for the name
abbrev pub HasNameRow : List Operations → List ℕ → NameRecord → Type 0
HasNameRow contents name row = (o : Operations) × Contains contents o × IsNameRow o name row

-- one of these contents has the record of a retirement
abbrev pub HasRetirement : List Operations → List ℕ → Type 0
HasRetirement contents r =
    (o : Operations) × Contains contents o × (set.contains o r ≡ true) × (is_admission r ≡ false)

-- These archives are the texts of contents, whose rows of both names and whose retirements were added.
pub record HaveAdded {R : Type 0} (archives : List (Reader R)) (name other : List ℕ) (old new : NamesFound)
    : Type 0 where
  pub contents : List Operations
  pub are_contents : AllByRecursion IsContent contents
  pub archives_are : AllZip HoldsArchive archives contents
  pub rows : (row : NameRecord) → Contains (map owned_name_view new.told.rows.items) row
      ↔ (Contains (map owned_name_view old.told.rows.items) row ⊎ HasNameRow contents name row)
  pub others : (row : NameRecord) → Contains (map owned_name_view new.told.others.items) row
      ↔ (Contains (map owned_name_view old.told.others.items) row ⊎ HasNameRow contents other row)
  pub retired : (r : List ℕ) → Contains (map entry_bytes new.retired.items) r
      ↔ (Contains (map entry_bytes old.retired.items) r ⊎ HasRetirement contents r)
