use Rattle.std.proofs.Common.{ℕ, ◌≡◌, ◌<◌, ◌≤◌, ◌+◌, ◌-◌, ◌∷◌, [], List, Some, length, slice_get, true}
use Rattle.dwarf_ranges.specs.Lists.{in_ranges}
use Rattle.dwarf_functions.specs.Taking.{AreOf, HasSame, IsTaking, Takes}
use Rattle.dwarf_functions.specs.UnitFunctions.{FunctionRecord}
use Rattle.dwarf_asked_addresses.specs.Waiting.{Waits}
use Rattle.dwarf_functions.proofs.taking.Taking.take_range.Given as goal

abbrev pub invariant-starts : goal.invariant-starts
invariant-starts l = record {
  taking : IsTaking l.self;
  same : HasSame l.fn.self l.self;
  from : l.first ≤ l.at;
  within : l.at < length l.fn.self.starts.items + 1;
  here : Waits l.self.waiting.next.items l.at;
  takes : (of : List FunctionRecord) (f : FunctionRecord)
      → AreOf of l.fn.self.making.all.now.functions.items l.fn.self.making.all.now.ranges.items → slice_get of l.index
      ≡ Some f
      → ((a : ℕ) → in_ranges a (l.fn.range ∷ []) ≡ true → in_ranges a f.ranges ≡ true) → Takes of l.index (λ i. (l.first ≤ i) × (i < l.at)) l.fn.self l.self;
}

abbrev pub decreases-starts : goal.decreases-starts
decreases-starts l = length l.fn.self.starts.items + 1 - l.at
