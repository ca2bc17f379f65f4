use Rattle.std.proofs.Common.{◌≡◌, ◌<◌, ◌∙◌, length, take, arith, ap, refl, subst}
use Rattle.std.proofs.lemmas.Result.{err_from_is_err_and}
use Rattle.command_common.specs.Inputs.{reader, readers}
use Rattle.command_common.proofs.Readers.{all_read, none_failed, one_more, rest_kept, same_at, unfailed_more}
use Rattle.command_given_indexes.specs.Together.{AreReadWith, HaveLengths}
use Rattle.command_given_indexes.proofs.Groups.{kept_more, kept_none, lengths_more, pair_refused, read_more}
use Rattle.command_given_indexes.proofs.together.read_indexes.Goals as goal

pub indexes-init : goal.indexes-init
indexes-init g c = record {
  read = rw c.new-read.ensures.items tt;
  lengths = rw c.new-sizes.ensures.items tt;
  unfailed = none_failed g.I.Placed.whole g.I.Placed.failures c.args.indexes.now;
  unfailed_at = none_failed g.P.Placed.whole g.P.Placed.failures c.args.archives.now;
  kept = kept_none g.I.Placed.whole g.I.Placed.failures c.args.indexes.now;
  kept_at = kept_none g.P.Placed.whole g.P.Placed.failures c.args.archives.now;
  rest = refl;
  rest_at = refl;
}

pub indexes-preserved : goal.indexes-preserved
indexes-preserved g c =
    let left = g.I.Placed.whole in
    let failures = g.I.Placed.failures in
    let whole = g.P.Placed.whole in
    let failures_at = g.P.Placed.failures in
    let old = c.args.indexes.now in
    let now = c.indexes.indexes in
    let before = c.args.archives.now in
    let seen = c.indexes.archives in
    let number = c.indexes.number in
    let index = c.index-indexes-number.result in
    let archive = c.index-archives-number.result in
    let after = c.read_matching_part.new.index in
    let later = c.read_matching_part.new.archive in
    let inv = c.indexes.invariant in
    let lt : number < length old = omega arith in
    let lt_at : number < length before = omega arith in
    let is = same_at now old number index inv.rest c.index-indexes-number.is in
    let is_at = same_at seen before number archive inv.rest_at c.index-archives-number.is in
    let got = rw (← c.index-indexes-number.is, ← c.index-archives-number.is) at c.in_ok-tables.ensures.read.is in
    let well = rw (← c.index-indexes-number.is, ← c.index-archives-number.is) at c.in_ok-tables.ensures.read.unfailed in
    let same = rw (← c.index-indexes-number.is, ← c.index-archives-number.is) at c.in_ok-tables.ensures.kept in
    let size = rw (← c.index-archives-number.is) at c.in_ok-tables.ensures.size in
    record {
      read = read_more c.args.uuids.now (take number (readers left failures old now)) _
          (take number (readers whole failures_at before seen)) _ c.indexes.read.items _
          (reader left failures index after) (reader whole failures_at archive later) c.in_ok-tables.tables
          (one_more left failures old now number index after lt c.indexes.auto.indexes is)
          (one_more whole failures_at before seen number archive later lt_at c.indexes.auto.archives is_at)
          c.in_ok-push.ensures.items inv.read got;
      lengths = lengths_more (take number (readers whole failures_at before seen)) _ c.indexes.sizes.items _
          (reader whole failures_at archive later) c.in_ok-tables.size
          (one_more whole failures_at before seen number archive later lt_at c.indexes.auto.archives is_at)
          c.in_ok-push-2.ensures.items inv.lengths size;
      unfailed = unfailed_more left failures old now number index after lt c.indexes.auto.indexes is inv.unfailed well.0;
      unfailed_at = unfailed_more whole failures_at before seen number archive later lt_at c.indexes.auto.archives is_at inv.unfailed_at well.1;
      kept = kept_more left failures old now number index after lt is inv.kept same.0;
      kept_at = kept_more whole failures_at before seen number archive later lt_at is_at inv.kept_at same.1;
      rest = rest_kept now old number after inv.rest;
      rest_at = rest_kept seen before number later inv.rest_at;
    }

pub returns-in_err-tables-clause-read : goal.returns-in_err-tables-clause-read
returns-in_err-tables-clause-read g c =
    let old = c.args.indexes.now in
    let now = c.indexes.indexes in
    let before = c.args.archives.now in
    let seen = c.indexes.archives in
    let number = c.indexes.number in
    let index = c.index-indexes-number.result in
    let archive = c.index-archives-number.result in
    let inv = c.indexes.invariant in
    let lt : number < length old = omega arith in
    let lt_at : number < length before = omega arith in
    let p = err_from_is_err_and c.from_residual.result c.from_residual.ensures.1 in
    rw (p.1, p.2)
    (pair_refused c.args.uuids.now g.I.Placed.whole g.I.Placed.failures g.P.Placed.whole g.P.Placed.failures old now before seen number index _ archive _
    lt c.indexes.auto.indexes (same_at now old number index inv.rest c.index-indexes-number.is) inv.rest inv.unfailed
    lt_at c.indexes.auto.archives (same_at seen before number archive inv.rest_at c.index-archives-number.is) inv.rest_at inv.unfailed_at
    c.indexes.read.items c.in_err-tables.field-0.0 inv.read (rw (← c.index-indexes-number.is, ← c.index-archives-number.is) at c.in_err-tables.ensures.read))

pub returns-in_err-push-clause-read : goal.returns-in_err-push-clause-read
returns-in_err-push-clause-read g c =
    let old = c.args.indexes.now in
    let now = c.indexes.indexes in
    let before = c.args.archives.now in
    let seen = c.indexes.archives in
    let number = c.indexes.number in
    let index = c.index-indexes-number.result in
    let archive = c.index-archives-number.result in
    let inv = c.indexes.invariant in
    let lt : number < length old = omega arith in
    let lt_at : number < length before = omega arith in
    let well = rw (← c.index-indexes-number.is, ← c.index-archives-number.is) at c.in_ok-tables.ensures.read.unfailed in
    let p = err_from_is_err_and c.from_residual-in_err-push.result c.from_residual-in_err-push.ensures.1 in
    rw (p.1, p.2) (
      unfailed_more g.I.Placed.whole g.I.Placed.failures old now number index c.read_matching_part.new.index lt
          c.indexes.auto.indexes (same_at now old number index inv.rest c.index-indexes-number.is) inv.unfailed well.0,
      unfailed_more g.P.Placed.whole g.P.Placed.failures before seen number archive c.read_matching_part.new.archive lt_at
          c.indexes.auto.archives (same_at seen before number archive inv.rest_at c.index-archives-number.is)
          inv.unfailed_at well.1,
    )

pub returns-in_err-push-2-clause-read : goal.returns-in_err-push-2-clause-read
returns-in_err-push-2-clause-read g c =
    let old = c.args.indexes.now in
    let now = c.indexes.indexes in
    let before = c.args.archives.now in
    let seen = c.indexes.archives in
    let number = c.indexes.number in
    let index = c.index-indexes-number.result in
    let archive = c.index-archives-number.result in
    let inv = c.indexes.invariant in
    let lt : number < length old = omega arith in
    let lt_at : number < length before = omega arith in
    let well = rw (← c.index-indexes-number.is, ← c.index-archives-number.is) at c.in_ok-tables.ensures.read.unfailed in
    let p = err_from_is_err_and c.from_residual-in_err-push-2.result c.from_residual-in_err-push-2.ensures.1 in
    rw (p.1, p.2) (
      unfailed_more g.I.Placed.whole g.I.Placed.failures old now number index c.read_matching_part.new.index lt
          c.indexes.auto.indexes (same_at now old number index inv.rest c.index-indexes-number.is) inv.unfailed well.0,
      unfailed_more g.P.Placed.whole g.P.Placed.failures before seen number archive c.read_matching_part.new.archive lt_at
          c.indexes.auto.archives (same_at seen before number archive inv.rest_at c.index-archives-number.is)
          inv.unfailed_at well.1,
    )

pub returns-clause-read : goal.returns-clause-read
returns-clause-read g c =
    let old = c.args.indexes.now in
    let now = c.indexes.indexes in
    let before = c.args.archives.now in
    let seen = c.indexes.archives in
    let inv = c.indexes.invariant in
    let end : c.indexes.number ≡ length old = omega arith in
    let end_at : c.indexes.number ≡ length before = omega arith in
    record {
      is = subst (λ is. AreReadWith c.args.uuids.now is (readers g.P.Placed.whole g.P.Placed.failures before seen) c.indexes.read.items)
          (ap (λ n. take n (readers g.I.Placed.whole g.I.Placed.failures old now)) end
          ∙ all_read g.I.Placed.whole g.I.Placed.failures old now c.indexes.auto.indexes)
          (subst (λ ones. AreReadWith c.args.uuids.now (take c.indexes.number (readers g.I.Placed.whole g.I.Placed.failures old now)) ones c.indexes.read.items)
          (ap (λ n. take n (readers g.P.Placed.whole g.P.Placed.failures before seen)) end_at
          ∙ all_read g.P.Placed.whole g.P.Placed.failures before seen c.indexes.auto.archives) inv.read);
      unfailed = (inv.unfailed, inv.unfailed_at);
    }

pub returns-clause-lengths : goal.returns-clause-lengths
returns-clause-lengths g c =
    let before = c.args.archives.now in
    let seen = c.indexes.archives in
    let end_at : c.indexes.number ≡ length before = omega arith in
    subst (λ ones. HaveLengths ones c.indexes.sizes.items)
    (ap (λ n. take n (readers g.P.Placed.whole g.P.Placed.failures before seen)) end_at
    ∙ all_read g.P.Placed.whole g.P.Placed.failures before seen c.indexes.auto.archives) c.indexes.invariant.lengths

pub returns-clause-kept : goal.returns-clause-kept
returns-clause-kept g c = (c.indexes.invariant.kept, c.indexes.invariant.kept_at)
