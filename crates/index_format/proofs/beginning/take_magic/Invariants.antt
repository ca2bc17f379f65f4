use Rattle.std.proofs.Common.{◌≡◌, ◌≤◌, ◌-◌, length, take}
use Rattle.std.specs.Io.KnownBytes.{Consumes}
use Rattle.index_format.proofs.beginning.take_magic.Given as goal

abbrev pub invariant-taking : goal.invariant-taking
invariant-taking g l = record {
  within : l.came ≤ 8;
  long : length l.magic ≡ 8;
  taken : Consumes (g.R.Source.left l.initial.r) (g.R.Source.left l.r) (take l.came l.magic);
  unfailed : g.R.Source.failures l.r ≡ g.R.Source.failures l.initial.r;
}

abbrev pub decreases-taking : goal.decreases-taking
decreases-taking g l = 8 - l.came
