-- Rows and summaries of archives, from their indexes.
use Rattle.std.specs.Prelude.{◌≡◌, ℕ, List, [], ◌∷◌, map, take}
use Rattle.std.specs.FinSet as set
use Rattle.join_core.specs.Listing.{listing}
use Rattle.archive_core.specs.Content.{Operations}
use Rattle.archive_core.specs.Find.{IsFinds}
use Rattle.archive_core.specs.Summary.{Entries}
use Rattle.archive_core.specs.declared.find.FindRow.{FindRow}
use Rattle.command_common.specs.Asked.{Asked, of_first}
use Rattle.command_common.specs.Inputs.{Reader, Unfailed}
use Rattle.index_format.specs.Text.{placed_in}
use Rattle.command_given_indexes.specs.Indexes.{IsIndexOf, IsRefusedByIndex, IsRefusedByPart}
use Rattle.command_given_indexes.specs.Rows.{AreIndexRows}
use Rattle.command_given_indexes.specs.Together.{IsReadWith}
use Rattle.command_given_indexes.specs.Several.{AreRefusedTogether, AreUnfailedTogether, HoldTogether}

-- ---- by the entries of one index, and the length of its archive

-- INDEX has entries that satisfy `IsTrue`, and ARCHIVE has the length stated there.
pub record HasEntries {R S : Type 0} (index : Reader R) (archive : Reader S) (IsTrue : Entries → Type 0) : Type 0 where
  pub entries : Entries
  pub index_of : IsIndexOf index archive entries
  pub is_true : IsTrue entries

-- the question to the entries of an index
abbrev pub asked_of_entries : {R S T : Type 0} → Reader R → Reader S → (Entries → T → Type 0) → Asked T
asked_of_entries index archive IsTrue = record {
  Has = λ value. HasEntries index archive (λ entries. IsTrue entries value);
  Refuses = IsRefusedByIndex 0 index archive;
  Unfailed = Unfailed index × Unfailed archive;
}

-- all rows of an index
abbrev pub rows_listed : {R S : Type 0} → Reader R → Reader S → Asked (List FindRow)
rows_listed index archive = asked_of_entries index archive (λ entries rows. AreIndexRows [] (listing entries) rows)

-- the summary of an index: its entries without their kinds and offsets
abbrev pub summary_in : Entries → Entries
summary_in entries = set.from_list (map (take 57) (listing entries))

-- the question for that summary
abbrev pub summary_told : {R S : Type 0} → Reader R → Reader S → Asked Entries
summary_told index archive = asked_of_entries index archive (λ entries summary. summary ≡ summary_in entries)

-- the question to the first index and the first archive
abbrev pub of_first_pair : {I P T : Type 0} → (Reader I → Reader P → Asked T) → List (Reader I) → List (Reader P)
    → Asked T
of_first_pair asked indexes archives =
    of_first (λ index _. of_first (λ archive _. asked index archive) archives) indexes

-- ---- by the entries under a UUID, and the length of the archive

-- Of the entries of INDEX those under a UUID were read, and these are their rows; ARCHIVE has the length stated there.
pub record HasRows {R S : Type 0} (uuid : List ℕ) (index : Reader R) (archive : Reader S) (rows : List FindRow)
    : Type 0 where
  pub all : List (List ℕ)
  pub read : IsReadWith (uuid ∷ []) index archive all
  pub rows_are : AreIndexRows uuid (placed_in all) rows

-- the rows of the entries under a UUID
abbrev pub rows_at : {R S : Type 0} → Reader R → Reader S → List ℕ → Asked (List FindRow)
rows_at index archive uuid = record {
  Has = λ rows. HasRows uuid index archive rows;
  Refuses = IsRefusedByPart (uuid ∷ []) 0 index archive;
  Unfailed = Unfailed index × Unfailed archive;
}

-- ---- by the slices that indexes name

-- the rows under a UUID of the slices that the indexes of archives name there
abbrev pub rows_joined : {I P : Type 0} → List (Reader I) → List (Reader P) → List ℕ → Asked (List FindRow)
rows_joined indexes archives uuid = record {
  Has = λ rows. (content : Operations) × HoldTogether (uuid ∷ []) (uuid ∷ []) indexes archives content × IsFinds content uuid rows;
  Refuses = AreRefusedTogether (uuid ∷ []) (uuid ∷ []) indexes archives;
  Unfailed = AreUnfailedTogether indexes archives;
}

-- the rows under a UUID: for one archive by entries alone, for several by the slices that their indexes name
abbrev pub rows_by : {I P : Type 0} → List (Reader I) → List (Reader P) → List ℕ → Asked (List FindRow)
rows_by (index ∷ []) (archive ∷ []) uuid = rows_at index archive uuid
rows_by indexes archives uuid = rows_joined indexes archives uuid
