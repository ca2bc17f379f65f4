use Rattle.std.proofs.Common.{◌≡◌, ◌<◌, ◌∙◌, [], ◌∷◌, ◌++◌, get_or, map, length, take, arith, ap, sym, refl, subst}
use Rattle.std.proofs.lemmas.List.{take_all, take_more}
use Rattle.std.proofs.lemmas.Result.{err_from_is_err_and}
use Rattle.command_common.specs.Inputs.{reader, readers}
use Rattle.command_common.proofs.Readers.{all_read, none_failed, one_more, rest_kept, same_at, unfailed_more}
use Rattle.command_given_indexes.specs.Prefixes.{prefix_bytes}
use Rattle.command_given_indexes.specs.InnerParts.{HaveJoinedGroups}
use Rattle.command_given_indexes.specs.Together.{HaveLengths}
use Rattle.command_given_indexes.proofs.Groups.{bytes_more, groups_more, groups_none, lengths_more, one_refused, place_in_all}
use Rattle.command_given_indexes.proofs.together.join_archives.Goals as goal

pub archives-init : goal.archives-init
archives-init g c = record {
  joined = groups_none _ _;
  lengths = tt;
  unfailed = none_failed g.P.Placed.whole g.P.Placed.failures c.args.archives.now;
  rest = refl;
  bytes = refl;
}

pub archives-preserved : goal.archives-preserved
archives-preserved g c =
    let whole = g.P.Placed.whole in
    let failures = g.P.Placed.failures in
    let all = c.args.read.now in
    let before = c.args.archives.now in
    let seen = c.archives.archives in
    let number = c.archives.number in
    let archive = c.index-archives-number.result in
    let entries = c.index-read-number.result in
    let later = c.join_archive.new.archive in
    let inv = c.archives.invariant in
    let lt : number < length before = omega arith in
    let few : number < length all = omega arith in
    let is = same_at seen before number archive inv.rest c.index-archives-number.is in
    let got = rw (← c.index-archives-number.is) at c.in_ok-join_archive.ensures.read.is in
    let well = rw (← c.index-archives-number.is) at c.in_ok-join_archive.ensures.read.unfailed in
    let same = rw (← c.index-archives-number.is) at c.in_ok-join_archive.ensures.kept in
    let long = rw (← c.index-archives-number.is) at c.in_ok-join_archive.ensures.length in
    let sizes = c.args.sizes.now in
    let enough : number < length sizes = omega arith in
    record {
      joined = groups_more (map prefix_bytes c.args.prefixes.now) (take number (readers whole failures before seen)) _
          (take number all) _ (reader whole failures archive later) entries (g.A.Join.content c.args.kept.now)
          (g.A.Join.content c.archives.kept) (g.A.Join.content c.join_archive.new.kept)
          (one_more whole failures before seen number archive later lt c.archives.auto.archives is)
          (take_more all number entries few ∙ ap (λ e. take number all ++ e ∷ []) (sym c.index-read-number.is))
          inv.joined got;
      lengths = lengths_more (take number (readers whole failures before seen)) _ (take number sizes) _
          (reader whole failures archive later) (get_or sizes number 0)
          (one_more whole failures before seen number archive later lt c.archives.auto.archives is)
          (take_more sizes number 0 enough)
          inv.lengths long;
      unfailed = unfailed_more whole failures before seen number archive later lt c.archives.auto.archives is inv.unfailed well;
      rest = rest_kept seen before number later inv.rest;
      bytes = bytes_more whole failures seen number archive later c.index-archives-number.is same ∙ inv.bytes;
    }

pub returns-in_err-join_archive-clause-read : goal.returns-in_err-join_archive-clause-read
returns-in_err-join_archive-clause-read g c =
    let all = c.args.read.now in
    let before = c.args.archives.now in
    let seen = c.archives.archives in
    let number = c.archives.number in
    let archive = c.index-archives-number.result in
    let inv = c.archives.invariant in
    let lt : number < length before = omega arith in
    let few : number < length all = omega arith in
    let enough : number < length c.args.sizes.now = omega arith in
    let p = err_from_is_err_and c.from_residual.result c.from_residual.ensures.1 in
    rw (p.1, p.2)
    (one_refused g.P.Placed.whole g.P.Placed.failures (map prefix_bytes c.args.prefixes.now) all c.args.sizes.now
    before seen number archive _ c.index-read-number.result
    (get_or c.args.sizes.now number 0) lt c.archives.auto.archives
    (same_at seen before number archive inv.rest c.index-archives-number.is) inv.rest inv.unfailed few c.index-read-number.is
    enough refl _ _ c.in_err-join_archive.field-0.0 inv.joined (rw (← c.index-archives-number.is) at c.in_err-join_archive.ensures.read))

pub returns-in_err-join_archive-clause-place : goal.returns-in_err-join_archive-clause-place
returns-in_err-join_archive-clause-place g c =
    let all = c.args.read.now in
    let before = c.args.archives.now in
    let seen = c.archives.archives in
    let number = c.archives.number in
    let archive = c.index-archives-number.result in
    let later = c.join_archive.new.archive in
    let inv = c.archives.invariant in
    let lt : number < length before = omega arith in
    let few : number < length all = omega arith in
    let is = same_at seen before number archive inv.rest c.index-archives-number.is in
    let p = err_from_is_err_and c.from_residual.result c.from_residual.ensures.1 in
    rw (p.1, p.2) (place_in_all g.P.Placed.whole g.P.Placed.failures g.P.Placed.unread g.P.Placed.unmeasured
    (map prefix_bytes c.args.prefixes.now) all before seen number archive later c.index-read-number.result
    lt c.archives.auto.archives is few c.index-read-number.is c.in_err-join_archive.field-0.0
    (rw (← c.index-archives-number.is) at c.in_err-join_archive.ensures.place))

pub returns-clause-read : goal.returns-clause-read
returns-clause-read g c =
    let whole = g.P.Placed.whole in
    let failures = g.P.Placed.failures in
    let all = c.args.read.now in
    let before = c.args.archives.now in
    let seen = c.archives.archives in
    let prefixes = map prefix_bytes c.args.prefixes.now in
    let inv = c.archives.invariant in
    let end : c.archives.number ≡ length before = omega arith in
    record {
      is = subst (λ es. HaveJoinedGroups prefixes (readers whole failures before seen) es (g.A.Join.content c.args.kept.now) (g.A.Join.content c.archives.kept))
          (take_all c.archives.number all (omega arith))
          (subst (λ ones. HaveJoinedGroups prefixes ones (take c.archives.number all) (g.A.Join.content c.args.kept.now) (g.A.Join.content c.archives.kept))
          (ap (λ n. take n (readers whole failures before seen)) end ∙ all_read whole failures before seen c.archives.auto.archives) inv.joined);
      unfailed = inv.unfailed;
    }

pub returns-clause-lengths : goal.returns-clause-lengths
returns-clause-lengths g c =
    let before = c.args.archives.now in
    let seen = c.archives.archives in
    let end : c.archives.number ≡ length before = omega arith in
    subst (λ ns. HaveLengths (readers g.P.Placed.whole g.P.Placed.failures before seen) ns)
    (take_all c.archives.number c.args.sizes.now (omega arith))
    (subst (λ ones. HaveLengths ones (take c.archives.number c.args.sizes.now))
    (ap (λ n. take n (readers g.P.Placed.whole g.P.Placed.failures before seen)) end
    ∙ all_read g.P.Placed.whole g.P.Placed.failures before seen c.archives.auto.archives) c.archives.invariant.lengths)

pub returns-in_err-join_archive-clause-kept : goal.returns-in_err-join_archive-clause-kept
returns-in_err-join_archive-clause-kept g c =
    let same = rw (← c.index-archives-number.is) at c.in_err-join_archive.ensures.kept in
    bytes_more g.P.Placed.whole g.P.Placed.failures c.archives.archives c.archives.number c.index-archives-number.result _
    c.index-archives-number.is same ∙ c.archives.invariant.bytes

pub returns-clause-kept : goal.returns-clause-kept
returns-clause-kept g c = c.archives.invariant.bytes
