use Rattle.std.proofs.Common.{◌≡◌, ap, subst, sym}
use Rattle.archive_core.specs.Record.{IsOperation, admission_record, borrowed_bytes, operation_borrowed}
use Rattle.archive_core.specs.Valid.{IsValid}
use Rattle.index_build.proofs.TableLemmas.{put_admitted, put_retired, stopped_as}
use Rattle.index_build.proofs.tables.put_table.Goals as goal

pub returns-in-Admit-clause-put : goal.returns-in-Admit-clause-put
returns-in-Admit-clause-put g c =
    let valid : IsValid c.in-Admit.slice = subst (λ r. IsOperation (operation_borrowed r)) c.in-Admit.is c.requires in
    let is : admission_record c.in-Admit.slice ≡ borrowed_bytes c.args.item.now = sym (ap borrowed_bytes c.in-Admit.is) in
    put_admitted g.W.Sink.held g.W.Sink.failures c.args.w.now c.put_slice_table.new.w c.args.done c.in-Admit.slice
    (borrowed_bytes c.args.item.now) valid is c.put_slice_table.result c.put_slice_table.ensures.put

pub returns-in-Admit-clause-stopped : goal.returns-in-Admit-clause-stopped
returns-in-Admit-clause-stopped g c =
    let valid : IsValid c.in-Admit.slice = subst (λ r. IsOperation (operation_borrowed r)) c.in-Admit.is c.requires in
    let is : admission_record c.in-Admit.slice ≡ borrowed_bytes c.args.item.now = sym (ap borrowed_bytes c.in-Admit.is) in
    stopped_as g.W.Sink.held g.W.Sink.failures c.args.w.now c.put_slice_table.new.w c.args.done c.in-Admit.slice
    (borrowed_bytes c.args.item.now) valid is c.put_slice_table.result c.put_slice_table.ensures.stopped

pub returns-in-Retire-clause-put : goal.returns-in-Retire-clause-put
returns-in-Retire-clause-put g c =
    put_retired g.W.Sink.held g.W.Sink.failures c.args.w.now c.args.done c.in-Retire.field-0 c.in-Retire.field-1.0
    (borrowed_bytes c.args.item.now) c.no_claim.result c.from.result (sym (ap borrowed_bytes c.in-Retire.is))
    c.no_claim.ensures c.from.ensures
