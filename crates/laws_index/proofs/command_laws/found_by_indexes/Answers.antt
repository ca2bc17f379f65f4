use Rattle.std.proofs.Common.{[], ◌∷◌, refl, arith}
use Rattle.archive_core.proofs.Picked.{finds_alike}
use Rattle.laws_index.specs.Indexes.{all_joined}
use Rattle.laws_index.proofs.ByIndex.{held_alike}
use Rattle.laws_index.proofs.Parts.{uuid_under}
use Rattle.laws_index.proofs.command_laws.found_by_indexes.Goals as goal

pub returns : goal.returns
returns g c = λ inputs archives os uuid status text long are makes.
    let (content, held, finds) = makes.have in
    record {
      rows = makes.rows;
      have = finds_alike content (all_joined os) uuid makes.rows
          (held_alike (uuid ∷ []) (uuid ∷ []) inputs archives os content ((omega arith, uuid_under (uuid ∷ []) uuid (0, omega arith, refl)), tt)
          are held uuid (0, omega arith, refl)) finds;
      status_is = makes.status_is;
      text_is = makes.text_is;
    }
