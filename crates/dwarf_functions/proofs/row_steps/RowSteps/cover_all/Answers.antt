use Rattle.std.proofs.Common.{ℕ, ◌≡◌, ◌∙◌, ◌∷◌, List, Option, Some, IfSome, sym, subst}
use Rattle.dwarf_lines.specs.declared.registers.Row.{Row}
use Rattle.dwarf_functions.specs.RowCover.{AreKnown}
use Rattle.dwarf_asked_addresses.specs.Rising.{IsCountBelow}
use Rattle.dwarf_functions.proofs.RowStepLemmas.{known_step}
use Rattle.dwarf_functions.proofs.row_steps.RowSteps.cover_all.Goals as goal

pub loop-row-preserved-in-Some-before : goal.loop-row-preserved-in-Some-before
loop-row-preserved-in-Some-before c =
    let same : ◌≡◌ {A = List ℕ} c.cover_unless.new.self.starts.items c.loop-row.self.starts.items = λ i. (c.cover_unless.ensures.starts i).items in
    let low : IsCountBelow c.loop-row.self.starts.items c.in-Some-before.last.registers.address c.loop-row.first =
    subst (λ (b : Option Row). IfSome b (λ r. IsCountBelow c.loop-row.self.starts.items r.registers.address
    c.loop-row.first)) c.in-Some-before.is c.loop-row.invariant.first in
    let known : AreKnown c.loop-row.self.starts.items c.loop-row.waiting.next.items c.loop-row.self.rows.items
    (Some c.in-Some-before.last) (c.in-Some.row ∷ c.next.new.self) c.args.rows =
    subst (λ (b : Option Row). AreKnown c.loop-row.self.starts.items c.loop-row.waiting.next.items
    c.loop-row.self.rows.items b (c.in-Some.row ∷ c.next.new.self) c.args.rows) c.in-Some-before.is
    (subst (λ (l : List Row). AreKnown c.loop-row.self.starts.items c.loop-row.waiting.next.items
    c.loop-row.self.rows.items c.loop-row.before l c.args.rows) c.in-Some.ensures.steps c.loop-row.invariant.known)
    in
    record {
      can = tt;
      ends = tt;
      starts = c.cover_unless.ensures.starts ∙ c.loop-row.invariant.starts;
      first = subst (λ (s : List ℕ). IsCountBelow s c.in-Some.row.registers.address c.count_below-end.result) (sym same) c.count_below-end.ensures;
      known =
          known_step c.loop-row.self.starts.items c.cover_unless.new.self.starts.items c.loop-row.waiting.next.items
          c.cover_unless.new.waiting.next.items c.loop-row.self.rows.items c.cover_unless.new.self.rows.items
          c.in-Some-before.last c.in-Some.row c.next.new.self c.args.rows
          c.loop-row.first c.count_below-end.result same low c.count_below-end.ensures c.cover_unless.ensures.covers
          c.cover_unless.ensures.backwards c.cover_unless.ensures.still c.cover_unless.ensures.none
          c.cover_unless.ensures.waits known;
    }
