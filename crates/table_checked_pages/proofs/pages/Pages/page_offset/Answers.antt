use Rattle.std.proofs.Common.{◌∙◌, ap, arith}
use Rattle.table_checked_pages.specs.Pages.{digests_size}
use Rattle.table_checked_pages.proofs.LevelLemmas.{level_within}
use Rattle.table_checked_pages.proofs.pages.Pages.page_offset.Goals as goal

pub overflow_add-result : goal.overflow_add-result
overflow_add-result c =
    let is = c.digests_len.ensures.is ∙ ap (λ n. digests_size n) c.level_size-size.ensures in
    omega (arith, is, level_within c.args.level c.args.self.now.claim.size c.requires.level, c.args.self.now.fits)

pub overflow_add-result-2 : goal.overflow_add-result-2
overflow_add-result-2 c =
    let is = c.digests_len.ensures.is ∙ ap (λ n. digests_size n) c.level_size-size.ensures in
    omega (
      arith,
      is,
      level_within c.args.level c.args.self.now.claim.size c.requires.level,
      c.args.self.now.fits,
      c.requires.page,
    )
