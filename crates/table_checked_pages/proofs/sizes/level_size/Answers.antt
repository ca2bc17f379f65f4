use Rattle.std.proofs.Common.{◌≡◌, ◌∙◌, ◌*◌, ap, refl, arith}
use Rattle.table_checked_pages.specs.Pages.{level_size, pages_in}
use Rattle.table_checked_pages.proofs.LevelLemmas.{level_next}
use Rattle.table_checked_pages.proofs.sizes.level_size.Goals as goal

pub up-init : goal.up-init
up-init c = record { is = refl; most = omega arith; fits = omega arith }

pub up-preserved : goal.up-preserved
up-preserved c = record {
  is = omega (arith, c.pages_in-here.ensures, level_next c.up.k c.args.size, ap (λ n. 32 * pages_in n) c.up.invariant.is);
  most = omega arith;
  fits = omega (arith, c.pages_in-here.ensures, c.up.invariant.fits);
}

pub returns : goal.returns
returns c =
    let last : c.up.k ≡ c.args.level = omega (arith, c.up.invariant.most, c.up-test.false) in
    c.up.invariant.is ∙ ap (λ k. level_size k c.args.size) last
