use Rattle.std.proofs.Common.{◌-◌, ◌*◌, ap, refl, subst, sym, arith}
use Rattle.index_format.proofs.EndLemmas.{Fit, are_ends, count_fails, tag_fails}
use Rattle.index_format.proofs.ends.ends_in.Goals as goal

pub returns-then-not-is_end-clause-checked : goal.returns-then-not-is_end-clause-checked
returns-then-not-is_end-clause-checked c = λ text fronted end. let size = fronted.size_is in record {
  beginning = fronted.beginning;
  fails = tag_fails text c.args.end.now (omega (arith, size, c.requires.room)) end (λ h. cc (c.if-not-is_end.ensures.1 h));
  offset_is = omega (arith, size);
}

pub returns-then-not-fit-clause-checked : goal.returns-then-not-fit-clause-checked
returns-then-not-fit-clause-checked c = λ text fronted end. let size = fronted.size_is in record {
  beginning = fronted.beginning;
  fails = count_fails text c.args.end.now (omega (arith, size, c.requires.room)) end (c.if-not-is_end.ensures.0 refl)
      c.number_at-count.result c.number_at-retired.result c.number_at-count.ensures.number c.number_at-retired.ensures.number
      (λ fit. cc (c.if-not-fit.ensures.1 (subst (λ n. Fit n c.number_at-count.result c.number_at-retired.result) (sym size) fit)));
  offset_is = omega (arith, size);
}

pub returns-clause-checked : goal.returns-clause-checked
returns-clause-checked c = λ text fronted end.
    let size = fronted.size_is in
    let count = c.number_at-count.result in
    are_ends text c.args.end.now (omega (arith, size, c.requires.room)) end (c.if-not-is_end.ensures.0 refl)
    count c.number_at-retired.result c.number_at-count.ensures.number c.number_at-retired.ensures.number _ fronted.beginning
    (subst (λ n. Fit n count c.number_at-retired.result) size (c.if-not-fit.ensures.0 refl)) c.requires.long refl refl
    c.number_at-archive_len.ensures.number c.root_in-root.ensures (omega (arith, size))
    (ap (λ n. c.args.size - 57 - 122 * count - n) c.digests_len.ensures.is) c.number_at-count.ensures.bytes
    c.number_at-retired.ensures.bytes c.number_at-archive_len.ensures.bytes
