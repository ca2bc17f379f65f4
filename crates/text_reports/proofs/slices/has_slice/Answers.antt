use Rattle.std.proofs.Common.{◌≡◌, ◌↔◌, Bool, true, rules, sym, subst}
use Rattle.std.specs.List.{Contains}
use Rattle.std.specs.declared.cmp.Ordering.TheVariants.{Equal}
use Rattle.std.proofs.lemmas.Fn.{always_returns_same}
use Rattle.archive_core.specs.Key.{IsKey}
use Rattle.archive_core.specs.declared.find.FindRow.{FindRow}
use Rattle.text_reports.specs.Slices.{slice_row_cmp}
use Rattle.text_reports.proofs.Kept.{halved, place_of}
use Rattle.text_reports.proofs.Sliced.{rows_total, slice_found}
use Rattle.text_reports.proofs.slices.has_slice.Goals as goal

pub returns-clause-is : goal.returns-clause-is
returns-clause-is c =
    let rows = c.args.rows.now in
    let row = c.args.row in
    let key : IsKey row.key = search rules in
    let facts = c.binary_search_by.ensures in
    let by = facts.position (place_of rows_total (λ (other : FindRow). other) row) (always_returns_same _ _ _ (λ a r g called. (search rules, search rules))) in
    let found = halved rows_total (λ (other : FindRow). other) row rows c.binary_search_by.result c.requires.sorted facts.bound by in
    slice_found rows row c.is_ok.result c.requires.keyed key
    (subst (λ (b : Bool). (b ≡ true) ↔ ((other : FindRow) × Contains rows other × (slice_row_cmp other row ≡ Equal))) (sym c.is_ok.ensures.value) found)
