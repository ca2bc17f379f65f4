use Rattle.std.proofs.Common.{[], subst}
use Rattle.join_core.specs.Listing.{listing}
use Rattle.archive_core.specs.Summary.{Entries}
use Rattle.command_given_indexes.specs.Rows.{AreIndexRows}
use Rattle.laws_index.proofs.Accepted.{entries_are, have_keys}
use Rattle.laws_index.proofs.IndexRows.{list_of_index}
use Rattle.laws_index.proofs.command_laws.listed_by_index.Goals as goal

pub returns : goal.returns
returns g c = λ input archive o status text (index, given, file) makes.
    let told = makes.have in
    let is = entries_are input o told.entries (index, given, file) told.index_of.index_is in
    record {
      rows = makes.rows;
      have = list_of_index o makes.rows file.content (have_keys o index file) file.archive_fits
          (subst (λ (s : Entries). AreIndexRows [] (listing s) makes.rows) is told.is_true);
      status_is = makes.status_is;
      text_is = makes.text_is;
    }
