use Rattle.std.proofs.Common.{◌++◌, sym, ◌∙◌}
use Rattle.table_checked_pages.specs.Pages.{digests_from}
use Rattle.table_checked_pages.proofs.PageLemmas.{next_page}
use Rattle.table_symbols.proofs.making.TableText.page_digests.Goals as goal

pub pages-init : goal.pages-init
unfolding digests_from
pages-init c = c.new-digests.ensures.items

pub pages-preserved : goal.pages-preserved
pages-preserved c =
    c.in_ok-extend_from_slice.ensures.items ∙ (λ i. c.pages.invariant i ++ c.page_digest.ensures i) ∙ sym (next_page c.pages.index c.args.self.now)
