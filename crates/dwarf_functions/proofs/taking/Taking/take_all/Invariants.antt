use Rattle.std.proofs.Common.{ℕ, ◌≡◌, ◌<◌, ◌≤◌, List, Some, length, slice_get, take}
use Rattle.std.specs.List.{flat_map}
use Rattle.dwarf_functions.specs.Taking.{AreOf, HasBefore, HasSame, IsTaking}
use Rattle.dwarf_functions.specs.UnitFunctions.{FunctionRecord}
use Rattle.dwarf_functions.specs.declared.functions.Function.{Function}
use Rattle.dwarf_functions.proofs.taking.Taking.take_all.Given as goal

abbrev pub invariant-loop-index : goal.invariant-loop-index
invariant-loop-index l = record {
  taking : IsTaking l.self;
  same : HasSame l.fn.self l.self;
  within : l.begin ≤ length l.fn.self.making.all.now.ranges.items;
  part : (f : Function) → slice_get l.fn.self.making.all.now.functions.items l.index ≡ Some f → l.begin ≤ f.ranges_end;
  begins : (of : List FunctionRecord) → AreOf of l.fn.self.making.all.now.functions.items
      l.fn.self.making.all.now.ranges.items → l.begin ≡ length (flat_map (λ r. r.ranges) (take l.index of));
  takes : (of : List FunctionRecord) → AreOf of l.fn.self.making.all.now.functions.items l.fn.self.making.all.now.ranges.items
      → ((i : ℕ) → i < length l.fn.self.starts.items → HasBefore of l.fn.self 0 i) → (i : ℕ)
      → i < length l.fn.self.starts.items → HasBefore of l.self l.index i;
}
