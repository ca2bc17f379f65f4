use Rattle.std.proofs.Common.{◌≡◌, ◌≤◌, ◌<◌, ℕ, List, length, map, take, slice_index}
use Rattle.std.specs.Prelude.{All}
use Rattle.macho_symbols.specs.Steps.{SaysNearest}
use Rattle.macho_symbols.specs.InnerCandidates.{AreFirstsOf, AreSwept, AreUpTo}
use Rattle.macho_symbols.proofs.sweep.rows_of.Given as goal

abbrev pub invariant-turns : goal.invariant-turns
invariant-turns l = record {
  within : l.noted ≤ length l.candidates;
  firsts : AreFirstsOf l.names l.candidates l.noted l.firsts;
  below : (image : List ℕ) → AreSwept image l.names l.sections l.candidates l.turns → l.start-index < length l.turns
      → AreUpTo l.candidates l.noted (slice_index l.turns l.start-index);
  starts : map (λ r. r.start) l.rows.items ≡ take l.start-index l.turns;
  each : (image : List ℕ) → AreSwept image l.names l.sections l.candidates l.turns → All (λ r. SaysNearest image r.start r) l.rows.items;
}
