use Rattle.std.proofs.Common.{◌∙◌, ℕ, ap, is_lt, nat_cmp, take}
use Rattle.std.specs.Cmp.Lexicographic.{slice_cmp}
use Rattle.table_checked_pages.proofs.PageLemmas.{take_least}
use Rattle.index_format.proofs.part_checking.is_above.Goals as goal

pub returns : goal.returns
returns c =
    let last = c.args.last.now in
    let entry = c.args.entry.now in
    let front = ap (λ (n : ℕ). take n last) c.min.ensures ∙ take_least last 74 in
    let other = ap (λ (n : ℕ). take n entry) c.min-2.ensures ∙ take_least entry 74 in
    c.is_lt.ensures ∙ ap is_lt (c.cmp.ensures ∙ (λ i. slice_cmp nat_cmp (front i) (other i)))
