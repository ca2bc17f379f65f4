-- What both contents make is the least content above both.
use Rattle.std.proofs.Common.{◌≡◌, ◌↔◌, ℕ, List, [], map, refl, sym, ap, ◌∙◌, subst}
use Rattle.std.specs.Ordering.{nat_cmp}
use Rattle.std.specs.Cmp.Lexicographic.{slice_cmp, nat_list_cmp_total}
use Rattle.std.specs.List.Sorted.{IsPermutation}
use Rattle.std.specs.FinSet as set
use Rattle.std.specs.FinSet.{union}
use Rattle.std.proofs.lemmas.List.Sorted.{IsPermutation-map}
use Rattle.join_core.proofs.SortedUnion.{from_list_permuted, from_list_append}
use Rattle.join_core.specs.Bound.{IsLeastAbove, IsTowards}
use Rattle.archive_core.specs.Record.{record_bytes}
use Rattle.archive_core.specs.Content.{Operations, content_of, IsMade, IsContent, IsBelow, IsTakenInPart, with_records, joined as joined_of}
use Rattle.archive_core.specs.Order.{joined_least}
use Rattle.archive_core.specs.declared.operations.Operation.{Operation}
use Rattle.archive_core.proofs.Made.{bytes_same, made_again, made_empty, joined_made_right, below_reflexive}
use Rattle.archive_core.proofs.Made.{below_transitive, below_antisymmetric, made_antisymmetric, below_left, below_right}
use Rattle.archive_core.proofs.Made.{joined_below, joined_content}
use Rattle.archive_core.proofs.Taken.{taken_are_joined, below_taken}

-- what both make is the least above both
pub joined : (o p m : Operations) → IsContent o → IsContent p → m ≡ joined_of o p → IsLeastAbove IsContent IsBelow o p m
joined o p m a b e = rw e (joined_least o p a b)

-- under the laws of an archive, the least above both is what both make
pub least_is_joined : (content : Operations → Type 0) (below : Operations → Operations → Type 0)
    → ((o : Operations) → content o ↔ IsContent o) → ((o p : Operations) → below o p ↔ IsBelow o p)
    → (o p m : Operations) → IsContent o → IsContent p → IsLeastAbove content below o p m → m ≡ joined_of o p
least_is_joined content below content_is below_is o p m a b l =
    let both = joined_of o p in
    below_antisymmetric m both ((content_is m).0 l.content) (joined_content o p a b)
    ((below_is m both).0 (l.least both ((content_is both).1 (joined_content o p a b))
    ((below_is o both).1 (below_left o p)) ((below_is p both).1 (below_right o p))))
    (joined_below o p m ((below_is o m).0 l.left) ((below_is p m).0 l.right))

-- and where an archive's join stops, in the words of contents
pub towards_in_words : (content : Operations → Type 0) (below : Operations → Operations → Type 0)
    → ((o : Operations) → content o ↔ IsContent o) → ((o p : Operations) → below o p ↔ IsBelow o p)
    → (o p m : Operations) → IsTowards content below o p m → IsTowards IsContent IsBelow o p m
towards_in_words content below content_is below_is o p m t = record {
  content = (content_is m).0 t.content;
  above_old = (below_is o m).0 t.above_old;
  below_join = λ z l. (below_is m z).0 (t.below_join z (record {
    content = (content_is z).1 l.content;
    left = (below_is o z).1 l.left;
    right = (below_is p z).1 l.right;
    least = λ w a f g. (below_is z w).1 (l.least w ((content_is w).0 a) ((below_is o w).0 f) ((below_is p w).0 g));
  }));
}

-- where nothing was taken, the content is on the way
pub unmoved : (o p : Operations) → IsContent o → IsTowards IsContent IsBelow o p o
unmoved o p a = record { content = a; above_old = below_reflexive o; below_join = λ z l. l.left }

-- nor where no operation was
pub none_taken : (o : Operations) (rs : List (List ℕ)) → IsContent o → IsTakenInPart o rs o
none_taken o rs is = record { content = is; above_old = below_reflexive o; below_all = below_taken o rs }

-- all of them give the same after some
pub resumed : (o mid : Operations) (rs : List (List ℕ)) → IsMade o → IsTakenInPart o rs mid → with_records mid rs ≡ with_records o rs
resumed o mid rs is part =
    let all = content_of (set.from_list {R = slice_cmp nat_cmp} rs) in
    let upper : IsBelow mid (joined_of o all) = subst (λ z. IsBelow mid z) (taken_are_joined o rs is) part.below_all in
    let left : IsBelow (joined_of mid all) (joined_of o all) = joined_below mid all (joined_of o all) upper (below_right o all) in
    let right : IsBelow (joined_of o all) (joined_of mid all) =
    joined_below o all (joined_of mid all) (below_transitive o mid (joined_of mid all) part.above_old
    (below_left mid all)) (below_right mid all) in
    taken_are_joined mid rs part.content.itself ∙ made_antisymmetric (joined_of mid all) (joined_of o all)
    (made_again (union mid all)) (made_again (union o all)) left right ∙ sym (taken_are_joined o rs is)

-- where some of a content's operations were taken, the content is on the way
pub taken_towards : (o p mid : Operations) (rs : List (List ℕ)) → IsContent o → IsMade p → set.from_list rs ≡ p
    → IsTakenInPart o rs mid → IsTowards IsContent IsBelow o p mid
taken_towards o p mid rs a b is part =
    let within : IsBelow mid (joined_of o p) = subst (λ z. IsBelow mid z)
    (taken_are_joined o rs a.itself ∙ ap (λ s. joined_of o (content_of s)) is ∙ ap (joined_of o) b) part.below_all
    in
    record {
      content = part.content;
      above_old = part.above_old;
      below_join = λ z l. below_transitive mid (joined_of o p) z within (joined_below o p z l.left l.right);
    }

-- what operations make that are taken into nothing, in another order
pub gathered : (operations sorted : List Operation) (p : Operations) → IsPermutation operations sorted → p
    ≡ with_records set.empty (map record_bytes sorted) → p ≡ content_of (set.from_list (map record_bytes operations))
gathered operations sorted p permuted is =
    is
    ∙ taken_are_joined set.empty (map record_bytes sorted) made_empty
    ∙ joined_made_right set.empty (set.from_list (map record_bytes sorted))
    ∙ ap content_of (sym (from_list_append nat_list_cmp_total bytes_same [] (map record_bytes sorted)))
    ∙ ap content_of (from_list_permuted nat_list_cmp_total bytes_same (map record_bytes operations)
    (map record_bytes sorted) (IsPermutation-map record_bytes operations sorted permuted))

-- so to join that is to take them
pub gathered_joined : (o p both : Operations) (operations sorted : List Operation) → IsMade o
    → IsPermutation operations sorted → p ≡ with_records set.empty (map record_bytes sorted) → both ≡ joined_of o p
    → both ≡ with_records o (map record_bytes operations)
gathered_joined o p both operations sorted made_o permuted is both_is = both_is
    ∙ ap (joined_of o) (gathered operations sorted p permuted is)
    ∙ sym (taken_are_joined o (map record_bytes operations) made_o)

-- and to join it in part is to take them in part
pub gathered_in_part : (o p mid : Operations) (operations sorted : List Operation) → IsPermutation operations sorted → p
    ≡ with_records set.empty (map record_bytes sorted) → IsContent o → IsContent p → IsTowards IsContent IsBelow o p mid
    → IsTakenInPart o (map record_bytes operations) mid
gathered_in_part o p mid operations sorted permuted is a b t = record {
  content = t.content;
  above_old = t.above_old;
  below_all = subst (λ z. IsBelow mid z) (gathered_joined o p (joined_of o p) operations sorted a.itself permuted is
      refl) (t.below_join (joined_of o p) (joined o p (joined_of o p) a b refl));
}
