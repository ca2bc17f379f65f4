use Rattle.std.proofs.Common.{◌≡◌, ℕ, ◌<◌, ◌≤◌, ◌∷◌, [], List, length, slice_index, sym, subst, refl, true, arith}
use Rattle.dwarf_ranges.specs.Lists.{in_ranges}
use Rattle.dwarf_functions.specs.Taking.{HasSame}
use Rattle.dwarf_asked_addresses.specs.Rising.{AreRising, IsCountBelow}
use Rattle.dwarf_functions.proofs.RangeLemmas.{are_same, same_count, same_trans, start_between, start_in, taking_waits, takes_next, takes_waiting, takes_weaker}
use Rattle.dwarf_functions.proofs.taking.Taking.take_range.Goals as goal

pub starts-init : goal.starts-init
starts-init c =
    let found = c.first_from-at.ensures.found in
    let same = c.first_from-at.ensures.same in
    let n = c.requires.taking.nexts in
    record {
      taking = taking_waits c.args.self.now c.first_from-at.new.self c.requires.taking same;
      same = record { starts = refl; all = refl };
      from = found.from;
      within = let w = found.within in omega (arith, w, n);
      here = same.still c.first_from-at.result found.within found.waits;
      takes = λ of f are there has. takes_waiting of c.args.index c.count_below-first.result c.first_from-at.result
          c.args.self.now c.first_from-at.new.self n found same;
    }

pub starts-preserved : goal.starts-preserved
starts-preserved c =
    let starts = c.args.self.now.starts.items in
    let rising = c.requires.taking.rising in
    let high : IsCountBelow starts c.args.range.high c.count_below-end.result =
    subst (λ (s : List ℕ). IsCountBelow s c.args.range.high c.count_below-end.result) c.deref.ensures.value
    (c.count_below-end.ensures.is (subst (λ (s : List ℕ). AreRising s) (sym c.deref.ensures.value) rising)) in
    let low : IsCountBelow starts c.args.range.low c.count_below-first.result =
    subst (λ (s : List ℕ). IsCountBelow s c.args.range.low c.count_below-first.result) c.deref-2.ensures.value
    (c.count_below-first.ensures.is (subst (λ (s : List ℕ). AreRising s) (sym c.deref-2.ensures.value) rising)) in
    let i = c.starts.invariant in
    let found = c.first_from-at-in-starts.ensures.found in
    let same = c.first_from-at-in-starts.ensures.same in
    let taking = c.in_ok-take_start.ensures.taking in
    let now : HasSame c.args.self.now c.take_start.new.self = same_trans c.args.self.now c.starts.self c.take_start.new.self i.same c.take_start.ensures.same in
    let at_in : c.starts.at < length starts = let h = high.within in let t = c.starts-test.true in omega (arith, h, t) in
    let start : slice_index c.starts.self.starts.items c.starts.at ≡ slice_index starts c.starts.at = λ j. slice_index ((i.same.starts j).items) c.starts.at in
    record {
      taking = taking_waits c.take_start.new.self c.first_from-at-in-starts.new.self taking same;
      same = record { starts = now.starts; all = now.all };
      from = let f = found.from in let l = i.from in omega (arith, f, l);
      within = let w = found.within in let n = taking.nexts in let m = same_count c.args.self.now c.take_start.new.self now in omega (arith, w, n, m);
      here = same.still c.first_from-at-in-starts.result found.within found.waits;
      takes = λ of f are there has.
          takes_next of c.args.index c.count_below-first.result c.starts.at c.first_from-at-in-starts.result
          c.args.self.now c.starts.self c.take_start.new.self c.first_from-at-in-starts.new.self
          i.from i.same c.take_start.ensures.same taking.nexts found same (i.takes of f are there has)
          (c.in_ok-take_start.ensures.takes of f (are_same of c.args.self.now c.starts.self i.same are) there
          (has (slice_index c.starts.self.starts.items c.starts.at) (subst (λ a. in_ranges a (c.args.range ∷ []) ≡ true) (sym start)
          (start_in starts c.args.range c.count_below-first.result c.count_below-end.result c.starts.at low high i.from c.starts-test.true at_in))));
    }

pub returns-clause-takes : goal.returns-clause-takes
returns-clause-takes c = λ of f are there has.
    let starts = c.args.self.now.starts.items in
    let rising = c.requires.taking.rising in
    let high : IsCountBelow starts c.args.range.high c.count_below-end.result =
    subst (λ (s : List ℕ). IsCountBelow s c.args.range.high c.count_below-end.result) c.deref.ensures.value
    (c.count_below-end.ensures.is (subst (λ (s : List ℕ). AreRising s) (sym c.deref.ensures.value) rising)) in
    let low : IsCountBelow starts c.args.range.low c.count_below-first.result =
    subst (λ (s : List ℕ). IsCountBelow s c.args.range.low c.count_below-first.result) c.deref-2.ensures.value
    (c.count_below-first.ensures.is (subst (λ (s : List ℕ). AreRising s) (sym c.deref-2.ensures.value) rising)) in
    takes_weaker of c.args.index (λ i. (c.count_below-first.result ≤ i) × (i < c.starts.at))
    (λ i. in_ranges (slice_index starts i) (c.args.range ∷ []) ≡ true) c.args.self.now c.starts.self
    (λ i h is.
    let p = start_between starts c.args.range c.count_below-first.result c.count_below-end.result i low high h is in
    (p.0, let q = p.1 in let t = c.starts-test.false in omega (arith, q, t)))
    (c.starts.invariant.takes of f are there has)
