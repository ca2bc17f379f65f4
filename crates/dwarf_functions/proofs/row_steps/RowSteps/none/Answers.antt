use Rattle.std.proofs.Common.{ℕ, List, [], Option, sym, subst}
use Rattle.dwarf_lines.specs.declared.registers.Row.{Row}
use Rattle.dwarf_functions.specs.RowSteps.{AreRowSteps}
use Rattle.dwarf_functions.proofs.RowStepLemmas.{no_row_steps}
use Rattle.dwarf_functions.proofs.row_steps.RowSteps.none.Goals as goal

pub returns : goal.returns
returns c =
    subst (λ (rows : List (Option Row)). AreRowSteps [] c.new.result.items rows) (sym c.new-2.ensures.items)
    (subst (λ (starts : List ℕ). AreRowSteps [] starts []) (sym c.new.ensures.items) no_row_steps)
