use Rattle.std.proofs.Common.{◌∙◌, ap, sym, inl, inr, List, arith}
use Rattle.std.specs.Ordering.{nat_cmp}
use Rattle.std.specs.BTreeSet as tree_set
use Rattle.std.proofs.lemmas.Bool.{cases_Bool}
use Rattle.dwarf_ranges.specs.Inner.{first_tuple}
use Rattle.dwarf_ranges.specs.declared.arange.Arange.{Arange}
use Rattle.dwarf_ranges.proofs.TupleLemmas.{step_end, step_hit, step_miss}
use Rattle.dwarf_ranges.proofs.one_pass.assign_all.Goals as goal

pub loop-tuple-preserved : goal.loop-tuple-preserved
loop-tuple-preserved c =
    let assigns = c.in_ok-assign_within.ensures in
    let known = c.loop-tuple.invariant in
    let rest = c.next.new.self in
    record {
      can = tt;
      ends = tt;
      left = λ a waits.
          sym (step_miss a c.in-Some.tuple rest (λ h. cc (assigns.none_within a h.0 (omega (arith, h.1, c.from.ensures, c.from-in-loop-tuple.ensures)), waits)))
          ∙ ap (λ (tuples : List Arange). first_tuple a tuples) (sym c.in-Some.ensures.steps)
          ∙ known.left a (assigns.was_pending a waits);
      was_pending = λ a waits. known.was_pending a (assigns.was_pending a waits);
      blank = λ a waits. assigns.left_is a waits ∙ known.blank a (assigns.was_pending a waits);
      found = λ a all gone. elim (cases_Bool (tree_set.contains nat_cmp c.loop-tuple.pending a)) [
        | inl waited ↦
            let given = assigns.given a waited gone in
            given.2
            ∙ sym (step_hit a c.in-Some.tuple rest (given.0, omega (arith, given.1, c.from.ensures, c.from-in-loop-tuple.ensures)))
            ∙ ap (λ (tuples : List Arange). first_tuple a tuples) (sym c.in-Some.ensures.steps)
            ∙ known.left a waited
        | inr not_waited ↦ assigns.others a not_waited ∙ known.found a all not_waited
      ];
    }

pub returns : goal.returns
returns c = λ a all. elim (cases_Bool (tree_set.contains nat_cmp c.loop-tuple.pending a)) [
  | inl waits ↦
      c.loop-tuple.invariant.blank a waits
      ∙ sym (step_end a)
      ∙ ap (λ (tuples : List Arange). first_tuple a tuples) (sym c.in-None.ensures.steps.0)
      ∙ c.loop-tuple.invariant.left a waits
  | inr gone ↦ c.loop-tuple.invariant.found a all gone
]
