use Rattle.std.proofs.Common.{ℕ, ◌≡◌, ◌∙◌, ◌++◌, List, Option, ap, map, sym, subst}
use Rattle.std.specs.Prelude.{◌↔◌}
use Rattle.std.specs.List.{Contains}
use Rattle.dwarf_lines.specs.declared.registers.Row.{Row}
use Rattle.dwarf_functions.specs.RowCover.{AreCovered}
use Rattle.dwarf_functions.specs.RowSteps.{AreRowSteps}
use Rattle.dwarf_functions.proofs.RowStepLemmas.{are_row_steps}
use Rattle.dwarf_functions.proofs.row_steps.RowSteps.of_rows.Goals as goal

pub returns : goal.returns
returns c =
    let starts : List ℕ = c.sorted_once-starts.result.items in
    let rows : List (Option Row) = c.in_ok-steps.steps.rows.items in
    let pushed : ◌≡◌ {A = List ℕ} c.push_addresses.new.starts.items (map (λ (row : Row). row.registers.address) c.args.rows) =
    c.in_ok-push_addresses.ensures ∙ ap (λ (xs : List ℕ). xs ++ map (λ (row : Row). row.registers.address) c.args.rows) c.new-starts.ensures.items in
    subst (λ (s : List ℕ). AreRowSteps c.args.rows s rows) (sym c.in_ok-steps.ensures.starts)
    (are_row_steps c.args.rows starts rows c.sorted_once-starts.ensures.rising
    (λ a. subst (λ (xs : List ℕ). Contains starts a ↔ Contains xs a) pushed (c.sorted_once-starts.ensures.same a))
    (subst (λ (r : List Row). AreCovered r starts rows) c.requires c.in_ok-steps.ensures.rows))
