use Rattle.std.proofs.Common.{not, ap, ◌∙◌, rules, arith, length}
use Rattle.std.specs.FinSet.{contains}
use Rattle.std.proofs.lemmas.Fn.{filter_same}
use Rattle.std.proofs.lemmas.Result.{err_from_is_err_and}
use Rattle.archive_core.specs.Record.{record_bytes}
use Rattle.archive_index.proofs.Retired.{taken, in_part, counted}
use Rattle.archive_index.proofs.taking.take_retirements.Goals as goal

pub returns-in_err-take_sorted : goal.returns-in_err-take_sorted
returns-in_err-take_sorted g c =
    let p = err_from_is_err_and c.from_residual.result c.from_residual.ensures.1 in
    let old = g.A.Join.content c.args.archive.now in
    let left = filter_same _ (λ operation. not (contains old (record_bytes operation))) _ (λ x b f' k. search rules) _ _ c.retain.ensures.filtered in
    rw p.1 (in_part old c.args.operations.items c.order.new.operations.items c.len-before.ensures.content.itself
    c.order.ensures (g.A.Join.content c.take_sorted.new.archive) (rw left at c.in_err-take_sorted.ensures))

pub returns : goal.returns
returns g c =
    let old = g.A.Join.content c.args.archive.now in
    let made = c.len-before.ensures.content.itself in
    let left = filter_same _ (λ operation. not (contains old (record_bytes operation))) _ (λ x b f' k. search rules) _ _ c.retain.ensures.filtered in (
      rw left at c.in_ok-take_sorted.ensures ∙ taken old c.args.operations.items c.order.new.operations.items made
          c.order.ensures,
      omega (
        arith,
        c.len-new.ensures,
        c.retain.new.self.ok.0,
        ap length left,
        counted old c.args.operations.items c.order.new.operations.items made c.order.ensures c.requires,
      ),
    )
