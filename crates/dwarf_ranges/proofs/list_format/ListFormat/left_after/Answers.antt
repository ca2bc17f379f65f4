use Rattle.std.proofs.Common.{◌≡◌, sym, ap, arith, ◌∙◌}
use Rattle.dwarf_ranges.specs.Lists.{left_after}
use Rattle.dwarf_ranges.specs.Views.{entry_at}
use Rattle.dwarf_ranges.proofs.ListLemmas.{left_end, left_missing, left_step, none_left}
use Rattle.dwarf_ranges.proofs.list_format.ListFormat.left_after.Goals as goal

pub entries-preserved : goal.entries-preserved
entries-preserved c = left_step _ _ _ _ _ _ c.entries-test.true c.in-Some.ensures (sym c.if-is_end.ensures) c.entries.invariant

pub returns-in_default : goal.returns-in_default
returns-in_default c = sym (left_missing _ _ _ (sym c.in_default.ensures)) ∙ c.entries.invariant

pub returns-then-is_end : goal.returns-then-is_end
returns-then-is_end c = sym (left_end _ _ _ _ _ c.entries-test.true c.in-Some.ensures (sym c.if-is_end.ensures)) ∙ c.entries.invariant

pub returns : goal.returns
returns c =
    let empty : c.entries.left ≡ 0 = omega (arith, c.entries-test.false) in
    empty ∙ sym (ap (λ n. left_after (entry_at c.args.self.now) n c.entries.rest.now) empty ∙ none_left _ _) ∙ c.entries.invariant
