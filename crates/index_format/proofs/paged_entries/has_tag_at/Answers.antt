use Rattle.std.proofs.Common.{List, ℕ, ap, ◌==◌}
use Rattle.std.specs.Prelude.{slice_index_or}
use Rattle.index_format.proofs.paged_entries.has_tag_at.Goals as goal

pub returns-clause-read : goal.returns-clause-read
returns-clause-read g c = record {
  says = λ text known all entries count pages fill within.
      ap (λ (bytes : List ℕ). slice_index_or bytes 0 0 == c.args.tag)
      (c.in_ok-entry.ensures.read.says text known all entries count pages fill within);
  keeps = c.in_ok-entry.ensures.read.keeps;
  counts = c.in_ok-entry.ensures.read.counts;
}
