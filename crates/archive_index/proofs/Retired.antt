-- Retirements that are taken alone: those are new that are not held, each once.
use Rattle.std.proofs.Common.{◌≡◌, ℕ, ◌+◌, if◌then◌else◌, Bool, true, false, not, cond, ◌||◌, List, [], ◌∷◌, length}
use Rattle.std.proofs.Common.{map, filter, refl, sym, ap, ◌∙◌, arith, subst}
use Rattle.std.specs.Prelude.{fold}
use Rattle.std.specs.Ordering.{nat_cmp}
use Rattle.std.specs.Cmp.Lexicographic.{slice_cmp, nat_list_cmp_total}
use Rattle.std.specs.List.{list_all}
use Rattle.std.proofs.lemmas.Bool.{not-true}
use Rattle.std.specs.FinSet as set
use Rattle.std.specs.FinSet.{contains, union, from_list, same_set, contains-union, len-insert, len-empty}
use Rattle.std.proofs.Math.ListN.{length-map}
use Rattle.std.proofs.lemmas.List.Kept.{IsStrictlySortedBy-filter}
use Rattle.join_core.proofs.Members.{inserts_are_union}
use Rattle.join_core.proofs.SortedUnion.{from_list_append}
use Rattle.join_core.proofs.Place.{len_listed}
use Rattle.archive_core.specs.Record.{record_bytes}
use Rattle.archive_core.specs.Content.{Operations, is_admission, content_of, IsMade, IsBelow, IsTakenInPart, with_record, with_records, changes, new_among}
use Rattle.archive_index.specs.InnerTaking.{IsBeside}
use Rattle.archive_index.specs.InnerOrder.{IsOrderOf}
use Rattle.archive_core.specs.declared.operations.Operation.{Operation}
use Rattle.archive_core.proofs.Made.{bytes_same, and_left, and_right, joined_made_right}
use Rattle.archive_core.proofs.Taken.{with_known, taken_are_joined, new_in_turn, new_of_none}
use Rattle.archive_index.proofs.Merged.{contains_filtered, records_filtered}
use Rattle.archive_index.proofs.Parted.{beside_first, beside_retirement}

-- those of a list that a content does not have
abbrev unheld : Operations → List (List ℕ) → List (List ℕ)
unheld old rs = filter (λ r. not (contains old r)) rs

-- a retirement is new where neither has it
changes_is : (old now seen : Operations) (r : List ℕ) → IsBeside old old now seen → is_admission r ≡ false
    → changes now r ≡ not (contains old r || contains seen r)
unfolding changes
changes_is old now seen r beside n = grind (arith, beside.known r n)

one_more : (b : Bool) (n : ℕ) → n + (if not b then 1 else 0) ≡ cond b n (n + 1)
one_more b n = grind arith

-- after retirements that were seen, as many are new as those are more with the ones that are not held
counted_behind : (old now seen : Operations) (operations : List Operation) → IsBeside old old now seen
    → list_all (λ operation. not (is_admission (record_bytes operation))) operations ≡ true
    → set.len seen + new_among now (map record_bytes operations) ≡ set.len (fold set.insert seen (unheld old (map record_bytes operations)))
counted_behind old now seen [] beside all = omega (arith, new_of_none now)
counted_behind old now seen (x ∷ xs) beside all = by (contains old r) refl (λ p s b. counted_behind old p s xs b (and_right _ _ all))
  where
    r : List ℕ
    r = record_bytes x

    is_retirement : is_admission r ≡ false
    is_retirement = not-true (is_admission r) (and_left _ _ all)

    first : new_among now (map record_bytes (x ∷ xs)) ≡ (if not (contains old r || contains seen r) then 1 else 0) +
        new_among (with_record now r) (map record_bytes xs)
    first = new_in_turn now r (map record_bytes xs) ∙ ap
        (λ b. (if b then 1 else 0) + new_among (with_record now r) (map record_bytes xs))
        (changes_is old now seen r beside is_retirement)

    by : (b : Bool) → contains old r ≡ b → ((p s : Operations) → IsBeside old old p s
        → set.len s + new_among p (map record_bytes xs)
        ≡ set.len (fold set.insert s (unheld old (map record_bytes xs))))
        → set.len seen + new_among now (map record_bytes (x ∷ xs))
        ≡ set.len (fold set.insert seen (cond (not b) (r ∷ unheld old (map record_bytes xs))
        (unheld old (map record_bytes xs))))
    by true there rest =
        let stays = with_known now r beside.made_now (grind (arith, there, beside.known r is_retirement)) in
        omega (arith, rw (there, stays) at first, rest now seen beside)
    by false absent rest =
        omega (
          arith,
          rw absent at first,
          one_more (contains seen r) (set.len seen),
          len-insert nat_list_cmp_total seen r,
          rest (with_record now r) (set.insert seen r)
              (beside_retirement old old now seen r beside is_retirement),
        )

-- so of retirements as many are new as there are different ones that are not held
different_unheld : (old : Operations) (operations : List Operation) → IsMade old
    → list_all (λ operation. not (is_admission (record_bytes operation))) operations ≡ true
    → new_among old (map record_bytes operations) ≡ set.len (from_list {R = slice_cmp nat_cmp} (unheld old (map record_bytes operations)))
different_unheld old operations content_of all =
    let ks = unheld old (map record_bytes operations) in
    let one_set : fold set.insert set.empty ks ≡ from_list {R = slice_cmp nat_cmp} ks =
    inserts_are_union nat_list_cmp_total bytes_same set.empty ks
    ∙ sym (from_list_append nat_list_cmp_total bytes_same [] ks) in
    omega (arith, counted_behind old old set.empty operations (beside_first old content_of) all, len-empty (slice_cmp nat_cmp), ap set.len one_set)

unheld_same : (old : Operations) (ks ls : List (List ℕ)) → from_list {R = slice_cmp nat_cmp} ks ≡ from_list ls
    → from_list {R = slice_cmp nat_cmp} (unheld old ks) ≡ from_list (unheld old ls)
unheld_same old ks ls same = same_set nat_list_cmp_total bytes_same _ _ (λ q.
    rw (contains_filtered (λ r. not (contains old r)) ks q, contains_filtered (λ r. not (contains old r)) ls q, same) refl)

-- with those that are not held a set has all
with_unheld : (old : Operations) (ks ls : List (List ℕ)) → from_list {R = slice_cmp nat_cmp} ks ≡ from_list ls
    → union old (from_list (unheld old ks)) ≡ union old (from_list ls)
with_unheld old ks ls same = same_set nat_list_cmp_total bytes_same _ _ (λ q.
    rw (
      contains-union nat_list_cmp_total old (from_list (unheld old ks)) q,
      contains_filtered (λ r. not (contains old r)) ks q,
      same,
      contains-union nat_list_cmp_total old (from_list ls) q,
    ) (grind arith))

module _ (old : Operations) (operations ordered : List Operation) (made_old : IsMade old) (order : IsOrderOf operations ordered) where
  -- the operations in order, each once, without those that are held, give what all give
  pub taken : with_records old (map record_bytes (filter (λ operation. not (contains old (record_bytes operation)))
      ordered)) ≡ with_records old (map record_bytes operations)
  taken =
      taken_are_joined old _ made_old
      ∙ joined_made_right old _
      ∙ ap (λ ks. content_of (union old (from_list ks))) (records_filtered (λ r. not (contains old r)) ordered)
      ∙ ap content_of (with_unheld old (map record_bytes ordered) (map record_bytes operations) order.same)
      ∙ sym (taken_are_joined old (map record_bytes operations) made_old ∙ joined_made_right old _)

  -- and a part of them is a part of all
  pub in_part : (mid : Operations) → IsTakenInPart old
      (map record_bytes (filter (λ operation. not (contains old (record_bytes operation))) ordered)) mid
      → IsTakenInPart old (map record_bytes operations) mid
  in_part mid part = record { content = part.content; above_old = part.above_old; below_all = subst (λ z. IsBelow mid z) taken part.below_all }

  -- of retirements they are those that are new
  pub counted : list_all (λ operation. not (is_admission (record_bytes operation))) operations ≡ true
      → length (filter (λ operation. not (contains old (record_bytes operation))) ordered)
      ≡ new_among old (map record_bytes operations)
  counted all =
      let ks = unheld old (map record_bytes ordered) in
      let ascending = IsStrictlySortedBy-filter (slice_cmp nat_cmp) (λ r. not (contains old r)) (map record_bytes ordered) order.ascending in
      sym (length-map _ record_bytes)
      ∙ ap length (records_filtered (λ r. not (contains old r)) ordered)
      ∙ sym (len_listed nat_list_cmp_total bytes_same ks ascending)
      ∙ ap set.len (unheld_same old (map record_bytes ordered) (map record_bytes operations) order.same)
      ∙ sym (different_unheld old operations made_old all)
