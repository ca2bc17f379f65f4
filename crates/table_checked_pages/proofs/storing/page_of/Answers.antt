use Rattle.std.proofs.Common.{◌∙◌, ℕ, List, take, ap}
use Rattle.table_checked_pages.proofs.PageLemmas.{take_least}
use Rattle.table_checked_pages.proofs.storing.page_of.Goals as goal

pub returns : goal.returns
returns c =
    let rest : List ℕ = c.split_at.result.1.now in
    c.split_at-2.ensures.front ∙ ap (λ n. take n rest) c.min.ensures ∙ take_least rest 4096
    ∙ ap (take 4096) c.split_at.ensures.back
