use Rattle.std.proofs.Common.{◌≡◌, ◌≤◌, ◌-◌, length, Contains}
use Rattle.std.specs.Prelude.{IfSome}
use Rattle.macho_symbols.specs.InnerCandidates.{AreFirstsOf, AreUpTo}
use Rattle.macho_symbols.proofs.sweep.note_up_to.Given as goal

abbrev pub invariant-noting : goal.invariant-noting
invariant-noting l = record {
  within : l.index ≤ length l.candidates;
  firsts : AreFirstsOf l.names l.candidates l.index l.firsts;
  below : AreUpTo l.candidates l.fn.from l.address → AreUpTo l.candidates l.index l.address;
  best : IfSome l.best (λ best. Contains l.candidates best × (best.value ≡ l.address));
}

abbrev pub decreases-noting : goal.decreases-noting
decreases-noting l = length l.candidates - l.index
