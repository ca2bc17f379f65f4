use Rattle.std.proofs.Common.{◌≡◌, ℕ, ◌+◌, ◌⊎◌, ◌∷◌, [], List, get_or, slice_index, take, sym, subst, inl, inr, true, rules}
use Rattle.std.proofs.lemmas.List.{take_all}
use Rattle.std.proofs.lemmas.Option.{slice_get-get_or}
use Rattle.dwarf_ranges.specs.Lists.{in_ranges}
use Rattle.dwarf_ranges.specs.declared.range.CodeRange.{CodeRange}
use Rattle.dwarf_functions.specs.Taking.{Takes}
use Rattle.dwarf_functions.proofs.RangeLemmas.{are_same, in_one, in_take, same_trans, takes_trans, takes_weaker}
use Rattle.dwarf_functions.proofs.taking.Taking.take_ranges.Goals as goal

pub loop-range-preserved : goal.loop-range-preserved
loop-range-preserved c =
    let i = c.loop-range.invariant in
    let starts = c.args.self.now.starts.items in
    let ranges = c.args.ranges.now in
    let r = c.loop-range.range-index in
    let none : CodeRange = record { low = 0; high = 0 } in
    let range : CodeRange = get_or ranges r none in
    let same : (k : ℕ) → slice_index c.loop-range.self.starts.items k ≡ slice_index starts k = λ k j. slice_index ((i.same.starts j).items) k in
    record {
      taking = c.in_ok-take_range.ensures.taking;
      same = same_trans c.args.self.now c.loop-range.self c.take_range.new.self i.same c.take_range.ensures.same;
      takes = λ of f are there is.
          takes_weaker of c.args.index (λ k. (in_ranges (slice_index starts k) (take r ranges) ≡ true)
          ⊎ (in_ranges (slice_index c.loop-range.self.starts.items k) (range ∷ []) ≡ true))
          (λ k. in_ranges (slice_index starts k) (take (r + 1) ranges) ≡ true) c.args.self.now c.take_range.new.self
          (λ k h has. elim (in_take (slice_index starts k) ranges r none c.loop-range-test.true has) [
            | inl before ↦ inl before
            | inr now ↦ inr (subst (λ a. in_ranges a (range ∷ []) ≡ true) (sym (same k)) now)
          ])
          (takes_trans of c.args.index (λ k. in_ranges (slice_index starts k) (take r ranges) ≡ true)
          (λ k. in_ranges (slice_index c.loop-range.self.starts.items k) (range ∷ []) ≡ true)
          c.args.self.now c.loop-range.self c.take_range.new.self i.same (i.takes of f are there is)
          (c.in_ok-take_range.ensures.takes of f (are_same of c.args.self.now c.loop-range.self i.same are) there
          (λ a has. is a (in_one a ranges r range (slice_get-get_or ranges r none c.loop-range-test.true) has))));
    }

pub returns-clause-takes : goal.returns-clause-takes
returns-clause-takes c = λ of f are there is.
    let ranges = c.args.ranges.now in
    let all : take c.loop-range.range-index ranges ≡ ranges = take_all c.loop-range.range-index ranges (search rules) in
    subst (λ (rs : List CodeRange). Takes of c.args.index
    (λ i. in_ranges (slice_index c.args.self.now.starts.items i) rs ≡ true) c.args.self.now c.loop-range.self) all
    (c.loop-range.invariant.takes of f are there is)
