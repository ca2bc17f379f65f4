-- Entries in the order of their records.
use Rattle.std.proofs.Common.{◌≡◌, ◌≢◌, ℕ, zero, suc, ◌<◌, ◌≤◌, true, false, cond, not, List, [], ◌∷◌, length, get_or}
use Rattle.std.proofs.Common.{refl, sym, subst, ap, ◌∙◌, inl, inr, ◌⊎◌, arith, eqb}
use Rattle.std.specs.Prelude.{All, Contains}
use Rattle.std.specs.List.{AllPairs, dedup, dedup_from}
use Rattle.std.specs.List.Sorted.{IsSortedByKey}
use Rattle.std.specs.Ordering.{nat_cmp, is_lt}
use Rattle.std.specs.Cmp.Lexicographic.{slice_cmp, nat_list_cmp_total}
use Rattle.std.proofs.lemmas.Bool.{and_cases, and_parts, cases_Bool, eqb-false, eqb-true, not-false, not-true}
use Rattle.std.proofs.lemmas.Bool.Decides.{nat_tests}
use Rattle.std.proofs.lemmas.List.Elements.{All-cons, All-weaker}
use Rattle.std.proofs.lemmas.List.Filters.{All-dedup}
use Rattle.std.proofs.lemmas.List.Kept.{AllPairs-cons}
use Rattle.std.proofs.lemmas.List.MinMax.{ranks_by}
use Rattle.std.proofs.lemmas.List.Sorted.{sorted_far}
use Rattle.index_format.specs.Entry.{length_in, offset_in}
use Rattle.index_lookup.specs.Among.{EntryAt, IsRepeatOf, StandsBefore}
use Rattle.index_lookup.specs.InnerAnswering.{HaveOrder, has_same_length_elsewhere, rank_in}
use Rattle.index_lookup.proofs.Entries.{AreApart}
use Rattle.index_lookup.proofs.Lists.{pairs_head, pairs_skip, pairs_tail}
use Rattle.archive_core.proofs.Members.{in_rest, in_front}

-- ---- by their places

-- the first is not after the second
abbrev pub IsNotAfter : EntryAt → EntryAt → Type 0
IsNotAfter x y = (length_in x.entry < length_in y.entry)
    ⊎ ((length_in x.entry ≡ length_in y.entry) × ((x.input < y.input) ⊎ ((x.input ≡ y.input) × (offset_in x.entry ≤ offset_in y.entry))))

-- three numbers in a row that are not below three others
not_lower : (a b c d e f : ℕ) → is_lt (slice_cmp nat_cmp (d ∷ (e ∷ (f ∷ []))) (a ∷ (b ∷ (c ∷ [])))) ≡ false → (a < d)
    ⊎ ((a ≡ d) × ((b < e) ⊎ ((b ≡ e) × (c ≤ f))))
not_lower a b c d e f h = grind (arith, nat_tests)

-- what a sort by places says
pub in_order_of_places : (xs : List EntryAt) → IsSortedByKey rank_in (slice_cmp nat_cmp) xs → (i j : ℕ) (d : EntryAt)
    → i ≤ j → j < length xs → IsNotAfter (get_or xs i d) (get_or xs j d)
in_order_of_places xs sorted i j d le lt =
    let x = get_or xs i d in
    let y = get_or xs j d in
    not_lower (length_in x.entry) x.input (offset_in x.entry) (length_in y.entry) y.input (offset_in y.entry)
    (sorted_far (λ a b. is_lt (slice_cmp nat_cmp (rank_in a) (rank_in b))) (ranks_by nat_list_cmp_total rank_in) xs sorted i j d le lt)

-- ---- each slice once

-- what is known of entries that stand by their places and of which none are tied
pub record ArePlaced (xs : List EntryAt) : Type 0 where
  pub rise : AllPairs IsNotAfter xs
  pub apart : AllPairs AreApart xs
  pub agree : AllPairs HaveOrder xs

placed_tail : (x : EntryAt) (xs : List EntryAt) → ArePlaced (x ∷ xs) → ArePlaced xs
placed_tail x xs h = record { rise = pairs_tail IsNotAfter x xs h.rise; apart = pairs_tail AreApart x xs h.apart; agree = pairs_tail HaveOrder x xs h.agree }

placed_skip : (k x : EntryAt) (xs : List EntryAt) → ArePlaced (k ∷ (x ∷ xs)) → ArePlaced (k ∷ xs)
placed_skip k x xs h = record {
  rise = pairs_skip IsNotAfter k x xs h.rise;
  apart = pairs_skip AreApart k x xs h.apart;
  agree = pairs_skip HaveOrder k x xs h.agree;
}

kept_head : (k : EntryAt) (xs : List EntryAt) → Contains (dedup_from has_same_length_elsewhere k xs) k
kept_head k [] = in_front k []
kept_head k (x ∷ xs) = elim (cases_Bool (has_same_length_elsewhere x k))
    [ inl t ↦ rw t (kept_head k xs) | inr f ↦ rw f (in_front k (dedup_from has_same_length_elsewhere x xs)) ]

-- an entry is kept, or it is a repeat of one that is
abbrev pub IsCovered : List EntryAt → EntryAt → Type 0
IsCovered kept x = Contains kept x ⊎ ((y : EntryAt) × Contains kept y × IsRepeatOf y x)

covered_more : (k : EntryAt) (kept : List EntryAt) (x : EntryAt) → IsCovered kept x → IsCovered (k ∷ kept) x
covered_more k kept x (inl h) = inl (in_rest k kept x h)
covered_more k kept x (inr h) = inr (h.0, in_rest k kept h.0 h.1, h.2)

pub elsewhere_parts : (x k : EntryAt) → has_same_length_elsewhere x k ≡ true → (length_in x.entry ≡ length_in k.entry) × (x.input ≢ k.input)
unfolding has_same_length_elsewhere
elsewhere_parts x k t =
    let p = and_parts (eqb (length_in x.entry) (length_in k.entry)) (not (eqb x.input k.input)) t in
    (eqb-true (length_in x.entry) (length_in k.entry) p.0, eqb-false x.input k.input (not-true (eqb x.input k.input) p.1))

repeat : (k x : EntryAt) → has_same_length_elsewhere x k ≡ true → IsNotAfter k x → HaveOrder k x → IsRepeatOf k x
repeat k x t rise agree =
    let p = elsewhere_parts x k t in
    let same : length_in k.entry ≡ length_in x.entry = sym p.0 in
    record { same_length = same; earlier = earlier rise; slices = agree same (λ e. p.1 (sym e)) }
  where
    earlier : IsNotAfter k x → k.input < x.input
    earlier (inl lt) = let e = (elsewhere_parts x k t).0 in absurd (omega (arith, e, lt))
    earlier (inr (_, inl lt)) = lt
    earlier (inr (_, inr (e, _))) = absurd ((elsewhere_parts x k t).1 (sym e))

-- an entry of the same length that is not elsewhere
pub same_index : (x k : EntryAt) → has_same_length_elsewhere x k ≡ false → length_in x.entry ≡ length_in k.entry → x.input ≡ k.input
unfolding has_same_length_elsewhere
same_index x k f same = elim (and_cases (eqb (length_in x.entry) (length_in k.entry)) (not (eqb x.input k.input)) f) [
  | inl a ↦ absurd (eqb-false (length_in x.entry) (length_in k.entry) a same)
  | inr b ↦ eqb-true x.input k.input (not-false (eqb x.input k.input) b)
]

-- what one that stays next to another says of the two
near : (k x : EntryAt) → has_same_length_elsewhere x k ≡ false → IsNotAfter k x → AreApart k x → StandsBefore k x
near k x f (inl lt) apart = inl lt
near k x f (inr (same, inr (e, le))) apart = inr (same, e, apart e, le)
near k x f (inr (same, inl lt)) apart = let e = same_index x k f (sym same) in absurd (omega (arith, e, lt))

before : (k x y : EntryAt) → StandsBefore k x → (y ≡ x) ⊎ StandsBefore x y → AreApart k y → StandsBefore k y
before k x y first (inl e) apart = rw e first
before k x y (inl lt) (inr (inl more)) apart = inl (omega (arith, lt, more))
before k x y (inl lt) (inr (inr (same, _, _, _))) apart = inl (omega (arith, lt, same))
before k x y (inr (a, _, _, _)) (inr (inl more)) apart = inl (omega (arith, a, more))
before k x y (inr (a, b, _, c)) (inr (inr (same, e, _, le))) apart = inr (a ∙ same, b ∙ e, apart (b ∙ e), omega (arith, c, le))

-- what is kept of a list that begins with k
record KeptFrom (k : EntryAt) (xs : List EntryAt) : Type 0 where
  first : All (λ y. (y ≡ k) ⊎ StandsBefore k y) (dedup_from has_same_length_elsewhere k xs)
  ordered : AllPairs StandsBefore (dedup_from has_same_length_elsewhere k xs)
  covered : All (IsCovered (dedup_from has_same_length_elsewhere k xs)) (k ∷ xs)

kept_from : (k : EntryAt) (xs : List EntryAt) → ArePlaced (k ∷ xs) → KeptFrom k xs
kept_from k [] h = record {
  first = All-cons (λ y. (y ≡ k) ⊎ StandsBefore k y) k [] (inl refl) (λ i d lt. absurd (omega (arith, lt)));
  ordered = λ i j d lt le. absurd (omega (arith, lt, le));
  covered = All-cons (IsCovered (k ∷ [])) k [] (inl (in_front k [])) (λ i d lt. absurd (omega (arith, lt)));
}
kept_from k (x ∷ xs) h = elim (cases_Bool (has_same_length_elsewhere x k)) [
  | inl t ↦ skipped t (kept_from k xs (placed_skip k x xs h))
  | inr f ↦ stays f (kept_from x xs (placed_tail k (x ∷ xs) h))
]
  where
    skipped : has_same_length_elsewhere x k ≡ true → KeptFrom k xs → KeptFrom k (x ∷ xs)
    skipped t rest =
        let same : dedup_from has_same_length_elsewhere k xs ≡ dedup_from has_same_length_elsewhere k (x ∷ xs) =
        sym (ap (λ b. cond b (dedup_from has_same_length_elsewhere k xs)
        (k ∷ dedup_from has_same_length_elsewhere x xs)) t) in
        let rise : IsNotAfter k x = h.rise zero (suc zero) k (omega arith) (omega arith) in
        let agree : HaveOrder k x = h.agree zero (suc zero) k (omega arith) (omega arith) in
        let covered = rest.covered in
        record {
          first = subst (All (λ y. (y ≡ k) ⊎ StandsBefore k y)) same rest.first;
          ordered = subst (AllPairs StandsBefore) same rest.ordered;
          covered = subst (λ (zs : List EntryAt). All (IsCovered zs) (k ∷ (x ∷ xs))) same
              (All-cons (IsCovered (dedup_from has_same_length_elsewhere k xs)) k (x ∷ xs) (inl (kept_head k xs))
              (All-cons (IsCovered (dedup_from has_same_length_elsewhere k xs)) x xs
              (inr (k, kept_head k xs, repeat k x t rise agree))
              (λ i d lt. covered (suc i) d (omega (arith, lt)))));
        }

    stays : has_same_length_elsewhere x k ≡ false → KeptFrom x xs → KeptFrom k (x ∷ xs)
    stays f rest =
        let same : k ∷ dedup_from has_same_length_elsewhere x xs ≡ dedup_from has_same_length_elsewhere k (x ∷ xs) =
        sym (ap (λ b. cond b (dedup_from has_same_length_elsewhere k xs)
        (k ∷ dedup_from has_same_length_elsewhere x xs)) f) in
        let next : StandsBefore k x = near k x f (h.rise zero (suc zero) k (omega arith) (omega arith))
        (h.apart zero (suc zero) k (omega arith) (omega arith)) in
        let apart : All (AreApart k) (dedup_from has_same_length_elsewhere x xs) =
        All-dedup has_same_length_elsewhere (AreApart k) (x ∷ xs) (pairs_head AreApart k (x ∷ xs) h.apart) in
        let first = rest.first in
        let after : All (StandsBefore k) (dedup_from has_same_length_elsewhere x xs) =
        λ i d lt. before k x (get_or (dedup_from has_same_length_elsewhere x xs) i d) next (first i d lt)
        (apart i d lt) in
        record {
          first = subst (All (λ y. (y ≡ k) ⊎ StandsBefore k y)) same
              (All-cons (λ y. (y ≡ k) ⊎ StandsBefore k y) k (dedup_from has_same_length_elsewhere x xs) (inl refl)
              (λ i d lt. inr (after i d lt)));
          ordered = subst (AllPairs StandsBefore) same (AllPairs-cons StandsBefore k (dedup_from has_same_length_elsewhere x xs) after rest.ordered);
          covered = subst (λ (zs : List EntryAt). All (IsCovered zs) (k ∷ (x ∷ xs))) same
              (All-cons (IsCovered (k ∷ dedup_from has_same_length_elsewhere x xs)) k (x ∷ xs) (inl (in_front k (dedup_from has_same_length_elsewhere x xs)))
              (All-weaker (IsCovered (dedup_from has_same_length_elsewhere x xs))
              (IsCovered (k ∷ dedup_from has_same_length_elsewhere x xs))
              (covered_more k (dedup_from has_same_length_elsewhere x xs)) (x ∷ xs) rest.covered));
        }

pub once_ordered : (xs : List EntryAt) → ArePlaced xs → AllPairs StandsBefore (dedup has_same_length_elsewhere xs)
once_ordered [] h = λ i j d lt le. absurd (omega (arith, lt, le))
once_ordered (x ∷ xs) h = (kept_from x xs h).ordered

pub once_covered : (xs : List EntryAt) → ArePlaced xs → All (IsCovered (dedup has_same_length_elsewhere xs)) xs
once_covered [] h = λ i d lt. absurd (omega (arith, lt))
once_covered (x ∷ xs) h = (kept_from x xs h).covered
