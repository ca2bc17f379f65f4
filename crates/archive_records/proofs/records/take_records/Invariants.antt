use Rattle.std.proofs.Common.{◌≡◌, ◌-◌, ◌^◌, List, ℕ, Option, []}
use Rattle.archive_records.specs.Reader.{HasRead, Gathers}
use Rattle.archive_records.proofs.records.take_records.Given as goal

abbrev pub invariant-taking : goal.invariant-taking
invariant-taking g l = record {
  gathers : (a : Option (List ℕ)) → HasRead l.initial.reader.file a (g.R.Source.left l.initial.r) [] l.initial.reader
      → Gathers l.initial.reader.file (λ records taker. (question : g.row.T-Question.Denot)
      → g.T.FromRecords.makes question [] l.initial.taker → g.T.FromRecords.makes question records taker) a
      (g.R.Source.left l.r) l.taker l.reader;
  file : l.reader.file ≡ l.initial.reader.file;
  unfailed : g.R.Source.failures l.r ≡ g.R.Source.failures l.initial.r;
}

abbrev pub decreases-taking : goal.decreases-taking
decreases-taking g l = 2 ^ 63 - l.reader.count
