use Rattle.std.proofs.lemmas.Result.{err_from_is_err_and}
use Rattle.index_lookup.proofs.told.answer_among.Goals as goal

pub returns-in_err-columns-clause-asks : goal.returns-in_err-columns-clause-asks
returns-in_err-columns-clause-asks g c =
    let p = err_from_is_err_and c.from_residual.result c.from_residual.ensures.1 in
    let told = rw c.entries.ensures at c.in_err-columns.ensures.asks in
    rw (p.1, p.2) (record { says = told.says; keeps = told.keeps; counts = told.counts })

pub returns-in_err-columns-clause-first : goal.returns-in_err-columns-clause-first
returns-in_err-columns-clause-first g c =
    let p = err_from_is_err_and c.from_residual.result c.from_residual.ensures.1 in
    let first = rw c.entries.ensures at c.in_err-columns.ensures.first in
    rw (p.1, p.2) first

pub returns-clause-asks : goal.returns-clause-asks
returns-clause-asks g c =
    let told = rw c.entries.ensures at c.in_ok-columns.ensures.asks in
    record { says = told.says; keeps = told.keeps; counts = told.counts }
