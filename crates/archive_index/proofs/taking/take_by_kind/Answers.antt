use Rattle.std.proofs.Common.{map, arith, ap, ◌∙◌}
use Rattle.std.proofs.Math.ListN.{length-map}
use Rattle.std.proofs.lemmas.Result.{err_from_is_err_and}
use Rattle.archive_core.specs.Content.{new_among}
use Rattle.archive_core.specs.Record.{record_bytes}
use Rattle.archive_core.proofs.Joined.{none_taken}
use Rattle.archive_core.proofs.Taken.{new_within}
use Rattle.archive_index.proofs.Parted.{admissions_in_part, retirements_in_part}
use Rattle.archive_index.proofs.taking.take_by_kind.Goals as goal

pub returns-in_err-parts : goal.returns-in_err-parts
returns-in_err-parts g c =
    let p = err_from_is_err_and c.from_residual.result c.from_residual.ensures.1 in
    rw p.1 (none_taken (g.A.Join.content c.args.archive.now) (map record_bytes c.args.operations.items) c.len-before.ensures.content)

pub returns-in_err-admitted : goal.returns-in_err-admitted
returns-in_err-admitted g c =
    let p = err_from_is_err_and c.from_residual-in_err-admitted.result c.from_residual-in_err-admitted.ensures.1 in
    let parts = c.in_ok-parts.parts in
    let is = c.in_ok-parts.ensures (g.A.Join.content c.args.archive.now) c.len-before.ensures.content.itself in
    rw p.1 (admissions_in_part (g.A.Join.content c.args.archive.now) (g.A.Join.content c.take_admissions.new.archive)
    c.args.operations.items parts.admissions.items parts.retirements.items is c.in_err-admitted.ensures)

pub returns-in_err-retired : goal.returns-in_err-retired
returns-in_err-retired g c =
    let p = err_from_is_err_and c.from_residual-in_err-retired.result c.from_residual-in_err-retired.ensures.1 in
    let parts = c.in_ok-parts.parts in
    let is = c.in_ok-parts.ensures (g.A.Join.content c.args.archive.now) c.len-before.ensures.content.itself in
    rw p.1 (retirements_in_part (g.A.Join.content c.args.archive.now) (g.A.Join.content c.take_admissions.new.archive)
    (g.A.Join.content c.take_retirements.new.archive) c.args.operations.items parts.admissions.items
    parts.retirements.items is c.in_ok-admitted.ensures.0 c.in_err-retired.ensures)

pub overflow_add-result : goal.overflow_add-result
overflow_add-result g c =
    let old = g.A.Join.content c.args.archive.now in
    let is = c.in_ok-parts.ensures old c.len-before.ensures.content.itself in
    let most = new_within old (map record_bytes c.args.operations.items) in
    let behind = c.in_ok-retired.ensures.1 ∙ ap (λ p. new_among p (map record_bytes c.in_ok-parts.parts.retirements.items)) c.in_ok-admitted.ensures.0 in
    omega (
      arith,
      most,
      length-map c.args.operations.items record_bytes,
      is.counted,
      behind,
      c.in_ok-admitted.ensures.1,
      c.args.operations.ok.0,
      c.args.operations.ok.1,
      c.args.operations.small,
    )
