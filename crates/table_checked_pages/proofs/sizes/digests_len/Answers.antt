use Rattle.std.proofs.Common.{◌≡◌, ◌*◌, ap, arith}
use Rattle.table_checked_pages.specs.Pages.{digests_size, pages_in}
use Rattle.table_checked_pages.proofs.LevelLemmas.{digests_more, digests_most, digests_none}
use Rattle.table_checked_pages.proofs.sizes.digests_len.Goals as goal

pub up-preserved : goal.up-preserved
up-preserved c =
    let next : 32 * c.pages_in-here.result ≡ 32 * pages_in c.up.here = ap (λ n. 32 * n) c.pages_in-here.ensures in
    record {
      is = omega (
        arith,
        c.up.invariant.is,
        digests_more c.up.here c.up-test.true,
        next,
        ap (λ n. digests_size n) next,
      );
      fits = omega (arith, c.pages_in-here.ensures, c.up.invariant.fits);
    }

pub overflow_add-len : goal.overflow_add-len
overflow_add-len c = omega (
  arith,
  c.up.invariant.is,
  c.pages_in-here.ensures,
  digests_more c.up.here c.up-test.true,
  digests_most c.args.size,
)

pub returns : goal.returns
returns c =
    let is : c.up.len ≡ digests_size c.args.size = omega (arith, c.up.invariant.is, digests_none c.up.here c.up-test.false) in
    record { is = is; most = omega (arith, is, digests_most c.args.size) }
