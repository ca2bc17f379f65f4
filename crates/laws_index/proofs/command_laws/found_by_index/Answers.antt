use Rattle.std.proofs.Common.{[], ◌∷◌, arith, refl}
use Rattle.laws_index.proofs.Accepted.{have_keys}
use Rattle.laws_index.proofs.ByIndex.{rows_whole}
use Rattle.laws_index.proofs.IndexRows.{found_of_index}
use Rattle.laws_index.proofs.Parts.{uuid_under}
use Rattle.laws_index.proofs.command_laws.found_by_index.Goals as goal

pub returns : goal.returns
returns g c = λ input archive o uuid status text long (index, given, file) makes.
    let told = makes.have in
    record {
      rows = makes.rows;
      have = found_of_index o uuid makes.rows long file.content (have_keys o index file) file.archive_fits
          (rows_whole (uuid ∷ []) uuid input archive o told.all makes.rows (omega arith) (uuid_under (uuid ∷ []) uuid (0, omega arith, refl))
          (index, given, file) told.read told.rows_are);
      status_is = makes.status_is;
      text_is = makes.text_is;
    }
