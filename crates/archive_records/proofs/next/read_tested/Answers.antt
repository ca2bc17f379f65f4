use Rattle.std.proofs.Common.{inl, sym, ◌∙◌}
use Rattle.archive_records.proofs.Blamed.{failed}
use Rattle.archive_records.proofs.Holds.{next-framed}
use Rattle.archive_records.proofs.next.read_tested.Goals as goal

pub test_item-requires-clause-whole : goal.test_item-requires-clause-whole
test_item-requires-clause-whole g c =
    let next = c.in_ok-end.ensures.next.0 in
    rw (c.deref.ensures.value, next.whole) (next-framed c.args.file _ _ _ _ next.is_next)

pub test_item-requires-clause-item : goal.test_item-requires-clause-item
test_item-requires-clause-item g c =
    let next = c.in_ok-end.ensures.next in
    rw (c.deref.ensures.value, next.0.whole) (sym next.1 ∙ c.if-end.false)

pub returns-in_err-end : goal.returns-in_err-end
returns-in_err-end g c =
    rw (failed c.from_residual.result c.in_err-end.field-0.0 c.from_residual.ensures.1)
    (record {
      within = c.read_in_order.ensures.within;
      taken = c.read_in_order.ensures.taken;
      step = tt;
      fails =
          inl c.in_err-end.ensures.next;
      reader = c.in_err-end.ensures.reader;
    })
