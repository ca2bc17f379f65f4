use Rattle.std.proofs.Common.{◌++◌, sym, ap, ◌∙◌}
use Rattle.sha2.specs.Sha256.{sha256}
use Rattle.table_checked_pages.specs.Pages.{digests_from}
use Rattle.table_checked_pages.proofs.PageLemmas.{next_page}
use Rattle.table_checked_pages.proofs.storing.page_digests.Goals as goal

pub pages-init : goal.pages-init
unfolding digests_from
pages-init c = c.new-digests.ensures.items

pub pages-preserved : goal.pages-preserved
pages-preserved c =
    c.in_ok-extend_from_slice.ensures.items ∙ (λ i. c.pages.invariant i ++ (c.digest.ensures ∙ ap sha256 c.page_of.ensures) i)
    ∙ sym (next_page c.pages.index c.args.bytes.now)
