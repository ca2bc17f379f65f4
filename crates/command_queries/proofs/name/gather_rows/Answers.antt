use Rattle.std.proofs.lemmas.Result.{err_from_is_err_and}
use Rattle.command_common.proofs.Readers.{none_failed, none_touched}
use Rattle.command_queries.proofs.NamesTogether.{entries_together, names_together}
use Rattle.command_common.proofs.Parts.{first_refused, other_refused}
use Rattle.command_queries.proofs.name.gather_rows.Goals as goal

pub returns-in_err-first : goal.returns-in_err-first
returns-in_err-first g c =
    let p = err_from_is_err_and c.from_residual.result c.from_residual.ensures.1 in
    rw (p.1, p.2) (first_refused _ _ c.in_err-first.field-0.0 c.in_err-first.ensures
    (none_touched g.R.Source.left g.R.Source.failures c.args.others.now) (none_failed g.R.Source.left g.R.Source.failures c.args.others.now))

pub returns-in_err-found : goal.returns-in_err-found
returns-in_err-found g c =
    let p = err_from_is_err_and c.from_residual-in_err-found.result c.from_residual-in_err-found.ensures.1 in
    let first = c.in_ok-first.ensures.is in
    rw (p.1, p.2) (other_refused _ _ c.in_err-found.field-0.0 (first.content, first.is_content, first.text)
    c.in_ok-first.ensures.unfailed c.in_err-found.ensures)

pub live_names-requires : goal.live_names-requires
live_names-requires g c = entries_together _ _ _ _ _ _ _ c.no_rows.ensures.0 c.no_rows.ensures.1 c.new.ensures.items
    c.in_ok-first.ensures.is c.in_ok-found.ensures.is

pub returns : goal.returns
returns g c = record {
  is = names_together _ _ _ _ _ _ _ c.no_rows.ensures.0 c.no_rows.ensures.1 c.new.ensures.items c.in_ok-first.ensures.is c.in_ok-found.ensures.is _ _
      c.live_names.ensures.ascending.0 c.live_names.ensures.ascending.1 c.live_names.ensures.live c.live_names.ensures.others_live;
  unfailed = (c.in_ok-first.ensures.unfailed, c.in_ok-found.ensures.unfailed);
}
