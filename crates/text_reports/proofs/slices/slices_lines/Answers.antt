use Rattle.std.proofs.Common.{◌++◌, List, ℕ, ◌∙◌, ap, string_bytes, subst, sym}
use Rattle.std.specs.List.{flat_map}
use Rattle.std.specs.List.Sorted.{IsSorted}
use Rattle.archive_core.specs.declared.keys.SliceKey.{SliceKey}
use Rattle.text_reports.specs.Finds.{find_row_text}
use Rattle.text_reports.specs.Report.{line}
use Rattle.text_reports.specs.Slices.{AnswersAmong, absent_text, slice_row_cmp}
use Rattle.text_reports.specs.declared.finds.KeyForm.TheVariants.{Whole}
use Rattle.text_reports.proofs.Sliced.{ascending_sorted, tells}
use Rattle.text_reports.proofs.slices.slices_lines.Goals as goal

pub absent_keys-requires-clause-sorted : goal.absent_keys-requires-clause-sorted
absent_keys-requires-clause-sorted c =
    subst (IsSorted slice_row_cmp) (sym c.deref.ensures.value) (ascending_sorted c.in_ok-rows.rows.items c.in_ok-rows.ensures.ascending)

pub returns : goal.returns
returns c =
    let rows = c.in_ok-rows.rows.items in
    let absent = c.in_ok-absent.absent.items in
    let without = rw c.deref.ensures.value at c.in_ok-absent.ensures.exactly in
    tells (AnswersAmong c.args.pool.now) rows c.args.keys.now absent _ c.in_ok-rows.ensures.exactly
    c.in_ok-rows.ensures.ascending without c.in_ok-absent.ensures.ascending
    (c.in_ok-push_absent.ensures
    ∙ ap (λ (l : List SliceKey). string_bytes c.push_rows.new.text ++ flat_map (λ key. line (absent_text key)) l) c.deref-3.ensures.value
    ∙ ap (λ (bytes : List ℕ). bytes ++ flat_map (λ key. line (absent_text key)) absent)
    (c.in_ok-push_rows.ensures ∙ (λ i. c.new-text.ensures.bytes i ++ flat_map (λ row. line (find_row_text Whole row)) (c.deref-2.ensures.value i))))
