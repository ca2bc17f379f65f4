use Rattle.std.proofs.Common.{◌≡◌, ℕ, List, Some, slice_get, slice_index, take, true}
use Rattle.dwarf_ranges.specs.Lists.{in_ranges}
use Rattle.dwarf_functions.specs.Taking.{AreOf, HasSame, IsTaking, Takes}
use Rattle.dwarf_functions.specs.UnitFunctions.{FunctionRecord}
use Rattle.dwarf_functions.proofs.taking.Taking.take_ranges.Given as goal

abbrev pub invariant-loop-range : goal.invariant-loop-range
invariant-loop-range l = record {
  taking : IsTaking l.self;
  same : HasSame l.fn.self l.self;
  takes : (of : List FunctionRecord) (f : FunctionRecord)
      → AreOf of l.fn.self.making.all.now.functions.items l.fn.self.making.all.now.ranges.items → slice_get of l.index
      ≡ Some f
      → ((a : ℕ) → in_ranges a l.ranges ≡ true → in_ranges a f.ranges ≡ true)
      → Takes of l.index (λ i. in_ranges (slice_index l.fn.self.starts.items i) (take l.range-index l.ranges)
      ≡ true) l.fn.self l.self;
}
