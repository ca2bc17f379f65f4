use Rattle.std.proofs.Common.{false, ◌≡◌, ◌∙◌, ◌-◌, List, Some, None, drop, get_or, slice_get, slice_index, take, subst, true, arith}
use Rattle.std.proofs.lemmas.Option.{slice_get-get_or}
use Rattle.dwarf_ranges.specs.Lists.{in_ranges}
use Rattle.dwarf_ranges.specs.declared.range.CodeRange.{CodeRange}
use Rattle.dwarf_functions.specs.Taking.{Takes}
use Rattle.dwarf_functions.specs.declared.functions.Function.{Function}
use Rattle.dwarf_functions.proofs.PartLemmas.{part_of}
use Rattle.dwarf_functions.proofs.RangeLemmas.{all_taken, are_same, same_count, same_trans}
use Rattle.dwarf_functions.proofs.StartLemmas.{record_of}
use Rattle.dwarf_functions.proofs.taking.Taking.take_all.Goals as goal

pub loop-index-preserved : goal.loop-index-preserved
loop-index-preserved c =
    let i = c.loop-index.invariant in
    let index = c.loop-index.index in
    let begin = c.loop-index.begin in
    let functions : List Function = c.args.self.now.making.all.now.functions.items in
    let read : List Function = c.deref-function-items.result.now in
    let ranges : List CodeRange = c.deref.result.now in
    let none : Function = record {
      name = None;
      name_number = 0;
      call = record { file = None; line = 0; column = 0 };
      is_subprogram = false;
      end = 0;
      ranges_end = 0;
    } in
    let function : Function = get_or read index none in
    let there : slice_get functions index ≡ Some function =
    subst (λ (fs : List Function). slice_get fs index ≡ Some function) c.deref-function-items.ensures.value
    (slice_get-get_or read index none c.loop-index-test.true) in
    record {
      taking = c.in_ok-take_function.ensures.taking;
      same = same_trans c.args.self.now c.loop-index.self c.take_function.new.self i.same c.take_function.ensures.same;
      within = c.requires.parts.within index function there;
      part = λ f next. c.requires.parts.rise index function f there next;
      begins = λ of are. are.ends index function there;
      takes = λ of are first k h.
          let r = record_of of functions index function are.count there in
          let now = are_same of c.args.self.now c.loop-index.self i.same are in
          let part : take (function.ranges_end - begin) (drop begin ranges) ≡ r.0.ranges =
          part_of of ranges index begin function.ranges_end r.0 (c.deref.ensures.value ∙ are.ranges_are) r.1
          (i.begins of are) (are.ends index function there) in
          let n = same_count c.args.self.now c.loop-index.self i.same in
          all_taken of index r.0 c.loop-index.self c.take_function.new.self r.1 c.take_function.ensures.same
          (subst (λ (rs : List CodeRange). Takes of index
          (λ m. in_ranges (slice_index c.loop-index.self.starts.items m) rs ≡ true) c.loop-index.self
          c.take_function.new.self) part
          (c.in_ok-take_function.ensures.takes of r.0 now r.1 part)) k (omega (arith, n, h)) (i.takes of are first k h);
    }
