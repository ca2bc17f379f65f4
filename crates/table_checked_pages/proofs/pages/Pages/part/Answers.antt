use Rattle.std.proofs.Common.{◌≡◌, ◌<◌, ◌≤◌, ◌+◌, ◌-◌, ◌*◌, List, ℕ, length, take, drop, sym, ap, ◌∙◌, arith}
use Rattle.table_checked_pages.specs.Pages.{AreKeptLevels, page_of}
use Rattle.table_checked_pages.specs.Views.{page_at}
use Rattle.table_checked_pages.proofs.PageLemmas.{part_of_page}
use Rattle.table_checked_pages.proofs.pages.Pages.part.Goals as goal

pub returns-clause-read : goal.returns-clause-read
unfolding AreKeptLevels
returns-clause-read g c = record {
  says = λ text is all are.
      let n : ℕ = length c.args.buf.now in
      let here : List ℕ = page_at c.bring.new.self 0 c.args.index in
      let some : 0 < length here = omega (arith, c.in_ok-bring.ensures.long, c.requires.page) in
      let page : here ≡ page_of all c.args.index = (c.in_ok-bring.ensures.keeps text all is are).kept 0 c.args.index some in
      let same : c.page-page.result.now ≡ here = c.page-page.ensures in
      let size : c.args.skip + n - c.args.skip ≡ n = omega arith in
      let copied : c.copy_from_slice.new.self ≡ take (c.args.skip + n - c.args.skip) (drop c.args.skip c.page-page.result.now) =
      c.copy_from_slice.ensures.after in
      let long : length c.copy_from_slice.new.self ≡ n = c.copy_from_slice.auto.self in
      let inside : c.args.skip + n ≤ 4096 = omega (arith, c.requires.inside) in
      copied ∙ ap (λ k. take k (drop c.args.skip c.page-page.result.now)) size
      ∙ ap (λ p. take n (drop c.args.skip p)) (same ∙ page) ∙ part_of_page all c.args.index c.args.skip n inside
      ∙ ap (λ k. take k (drop (4096 * c.args.index + c.args.skip) all)) (sym long);
  keeps = c.in_ok-bring.ensures.read.keeps;
  counts = c.in_ok-bring.ensures.read.counts;
}
