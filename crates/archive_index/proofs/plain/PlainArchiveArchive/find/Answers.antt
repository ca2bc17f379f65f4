use Rattle.std.proofs.Common.{◌≡◌, map, rules, sym, subst, ◌∙◌}
use Rattle.std.proofs.lemmas.Fn.{always_returns_same}
use Rattle.std.proofs.lemmas.List.Sorted.{ranks_by}
use Rattle.std.proofs.lemmas.Result.{IfOk-weaker}
use Rattle.std.specs.Ordering.{is_lt}
use Rattle.archive_core.specs.Find.{find_cmp, row_of, IsFinds}
use Rattle.archive_index.proofs.Ranges.{two_runs}
use Rattle.archive_core.proofs.Told.{find_total}
use Rattle.archive_index.proofs.Scanned.{finds_sorted}
use Rattle.archive_index.proofs.plain.PlainArchiveArchive.find.Goals as goal

pub returns : goal.returns
returns c =
    let o = c.args.self.now in
    let uuid = c.args.uuid.now in
    let operations = c.self.inside.operations.items in
    let hashed = c.sort_unstable_by.new.self.items in
    let sorted = c.sort_unstable_by.ensures.sorted (λ x y. is_lt (find_cmp x y)) (ranks_by find_total (λ x. x))
    (always_returns_same _ _ _ (λ a r g called. (search rules, search rules))) in
    let held = rw (
      c.in_ok-gather.ensures,
      c.new-hashed.ensures.items,
      c.under_uuid-retirements.ensures,
      c.under_uuid-admissions.ensures,
      c.deref.ensures.value,
      c.deref-2.ensures.value,
    ) at c.in_ok-gather-2.ensures in
    let gathered = held ∙ two_runs uuid operations c.self.invariant.ascending in
    let permuted = rw gathered at c.sort_unstable_by.ensures.permutation in
    let finds = finds_sorted o uuid operations hashed c.self.invariant c.self.view_is permuted sorted in
    IfOk-weaker c.rows_of.result (λ rows. rows.items ≡ map row_of hashed) (λ rows. IsFinds o uuid rows.items)
    (λ rows is. subst (IsFinds o uuid) (sym is) finds) (rw (c.deref-3.ensures.value) at c.rows_of.ensures)
