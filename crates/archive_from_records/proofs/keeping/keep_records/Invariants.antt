use Rattle.std.proofs.Common.{◌≡◌, ◌-◌, ◌^◌, List, ℕ, Option, []}
use Rattle.archive_records.specs.Reader.{HasRead, Gathers, after_taken}
use Rattle.archive_from_records.specs.InnerKeeping.{with_last}
use Rattle.archive_from_records.proofs.keeping.keep_records.Given as goal

abbrev pub invariant-records : goal.invariant-records
invariant-records g l = record {
  gathers : (a : Option (List ℕ)) → HasRead l.initial.reader.file a (g.R.Source.left l.initial.r) [] l.initial.reader
      → Gathers l.initial.reader.file (λ records now. g.K.Keeper.has_kept l.initial.keeping.keeper records
      (with_last (g.A.Join.content now.kept.archive) now.kept.last) now.keeper) a (g.R.Source.left l.r) l.keeping
      (after_taken l.keeping.kept.last l.reader);
  file : l.reader.file ≡ l.initial.reader.file;
  unfailed : g.R.Source.failures l.r ≡ g.R.Source.failures l.initial.r;
}

abbrev pub decreases-records : goal.decreases-records
decreases-records g l = 2 ^ 63 - l.reader.count
