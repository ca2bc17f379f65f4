use Rattle.index_format.specs.Text.{placed_of}
use Rattle.command_given_indexes.proofs.indexes.rows_listed_at.Goals as goal

pub returns : goal.returns
returns g c = record {
  is = record {
    entries = placed_of c.in_ok-entries.entries;
    index_of = c.in_ok-entries.ensures.is;
    is_true = c.in_ok-rows_listed.ensures;
  };
  unfailed = c.in_ok-entries.ensures.unfailed;
}
