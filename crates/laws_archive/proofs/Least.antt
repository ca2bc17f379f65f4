-- What is joined one after another is the least content above all, and what the operations of all make.
use Rattle.std.proofs.Common.{◌≡◌, zero, suc, List, [], ◌∷◌, ◌++◌, refl, sym, ap, ◌∙◌, subst, arith, fold, ◌↔◌, Contains}
use Rattle.std.specs.List.{AllByRecursion}
use Rattle.std.specs.FinSet as set
use Rattle.std.proofs.lemmas.List.Elements.{Contains-append_right}
use Rattle.std.proofs.lemmas.List.Sums.{fold-append}
use Rattle.archive_core.specs.Content.{Operations, IsBelow, IsMade, IsContent, content_of, joined}
use Rattle.archive_core.specs.Order.{below_antisymmetric, below_left, below_reflexive, below_right, below_transitive, joined_below}
use Rattle.archive_core.proofs.Made.{joined_made_right, union_assoc}
use Rattle.archive_exchange.proofs.Content.{joined_made, union_nothing}
use Rattle.command_common.specs.Archives.{merged}
use Rattle.command_archives.specs.Merge.{operations_of}
use Rattle.laws_archive.proofs.Joins.{merged_is}

pub above_input : (o : Operations) (contents : List Operations) → IsBelow o (merged o contents)
above_input o [] = below_reflexive o
above_input o (p ∷ contents) = below_transitive o (joined o p) (merged (joined o p) contents) (below_left o p) (above_input (joined o p) contents)

pub above_each : (o : Operations) (contents : List Operations) (p : Operations) → Contains contents p → IsBelow p (merged o contents)
above_each o [] p (k, lt, is) = absurd (omega (arith, lt))
above_each o (q ∷ contents) p (zero, lt, is) =
    subst (λ (r : Operations). IsBelow r (merged (joined o q) contents)) is
    (below_transitive q (joined o q) (merged (joined o q) contents) (below_right o q) (above_input (joined o q) contents))
above_each o (q ∷ contents) p (suc k, lt, is) = above_each (joined o q) contents p (k, omega (arith, lt), is)

pub least_merged : (o : Operations) (contents : List Operations) (q : Operations) → IsBelow o q
    → ((p : Operations) → Contains contents p → IsBelow p q) → IsBelow (merged o contents) q
least_merged o [] q below each = below
least_merged o (p ∷ contents) q below each =
    least_merged (joined o p) contents q (joined_below o p q below (each p (0, omega arith, refl)))
    (λ r at. each r (Contains-append_right (p ∷ []) contents r at))

-- so it is the same of lists whose members are the same
pub merged_alike : (o : Operations) (contents others : List Operations) → IsContent o → AllByRecursion IsContent contents → AllByRecursion IsContent others
    → ((p : Operations) → Contains contents p ↔ Contains others p) → merged o contents ≡ merged o others
merged_alike o contents others a all all_others same =
    below_antisymmetric (merged o contents) (merged o others) (merged_is o contents a all) (merged_is o others a all_others)
    (least_merged o contents (merged o others) (above_input o others) (λ p at. above_each o others p ((same p).0 at)))
    (least_merged o others (merged o contents) (above_input o contents) (λ p at. above_each o contents p ((same p).1 at)))

-- a join with what was merged is a merge into the join
joined_merged : (o p : Operations) (contents : List Operations) → joined o (merged p contents) ≡ merged (joined o p) contents
joined_merged o p [] = refl
joined_merged o p (q ∷ contents) =
    joined_merged o (joined p q) contents
    ∙ ap (λ (r : Operations). merged r contents)
    (joined_made_right o (set.union p q) ∙ ap content_of (sym (union_assoc o p q)) ∙ sym (joined_made (set.union o p) q))

pub merged_before : (o p : Operations) (contents others : List Operations) → merged o (contents ++ merged p others ∷ []) ≡ merged o (contents ++ p ∷ others)
merged_before o p contents others =
    fold-append joined o contents (merged p others ∷ []) ∙ joined_merged (merged o contents) p others ∙ sym (fold-append joined o contents (p ∷ others))

-- contents joined one after another are what the operations of all make
merged_made : (s : Operations) (contents : List Operations) → merged (content_of s) contents ≡ content_of (fold set.union s contents)
merged_made s [] = refl
merged_made s (p ∷ contents) = ap (λ (q : Operations). merged q contents) (joined_made s p) ∙ merged_made (set.union s p) contents

united : (o s : Operations) (contents : List Operations) → fold set.union (set.union o s) contents ≡ set.union o (fold set.union s contents)
united o s [] = refl
united o s (p ∷ contents) = ap (λ (t : Operations). fold set.union t contents) (union_assoc o s p) ∙ united o (set.union s p) contents

pub merged_union : (o : Operations) (contents : List Operations) → IsMade o → merged o contents ≡ joined o (content_of (operations_of contents))
merged_union o contents is =
    ap (λ (q : Operations). merged q contents) (sym is)
    ∙ merged_made o contents
    ∙ ap content_of (ap (λ (s : Operations). fold set.union s contents) (sym (union_nothing o)) ∙ united o set.empty contents)
    ∙ sym (joined_made_right o (operations_of contents))
