-- Lists that a test parts, and what holds along a list.
use Rattle.std.proofs.Common.{◌≡◌, ℕ, ◌+◌, ◌-◌, ◌<◌, ◌≤◌, Bool, true, false, cond, get_or, List, [], ◌∷◌, ◌++◌, length}
use Rattle.std.proofs.Common.{take, drop, filter, refl, sym, ap, ◌∙◌, arith}
use Rattle.std.specs.declared.cmp.Ordering.{Ordering}
use Rattle.std.specs.Ordering.{is_lt, is_le, is_eq}
use Rattle.std.specs.List.{AllByRecursion, AllWithin}
use Rattle.std.specs.List.Sorted.{IsPartitionedBy}
use Rattle.std.proofs.lemmas.List.{append-nil, append_assoc, nil_from_length, drop_all, drop_at, drop_more, take_all}
use Rattle.std.proofs.lemmas.List.{take_at, take_more, take-append-drop, get_or_append_left, get_or-take, get_or-drop}
use Rattle.std.proofs.lemmas.List.{length-append, length-drop, length-take-le}
use Rattle.std.proofs.lemmas.List.Elements.{filter-append, filter_passes, All-from_recursion, recursion_from_All}
use Rattle.join_core.proofs.Place.{along_take, along_drop}
use Rattle.join_core.proofs.Search.{eq_of_lt, eq_of_gt, eq_of_both}

module _ {X : Type 0} where
  -- what is written back to the front of a list, as it was there, leaves it as it was
  pub written_back : (old new : List X) (n : ℕ) → new ≡ old → length old ≤ n → take n (new ++ drop (length new) old) ≡ old
  written_back old new n same long = rw same (ap (λ rest. take n (old ++ rest))
      (drop_all (length old) old (omega arith)) ∙ ap (take n) (append-nil old) ∙ take_all n old long)

  -- where none passes a test, none is kept
  pub filter_none : (f : X → Bool) (xs : List X) → AllByRecursion (λ x. f x ≡ false) xs → filter f xs ≡ []
  filter_none f [] h = refl
  filter_none f (x ∷ xs) h = rw h.0 (filter_none f xs h.1)

  -- and where all pass it, all are
  pub filter_all : (f : X → Bool) (xs : List X) → AllByRecursion (λ x. f x ≡ true) xs → filter f xs ≡ xs
  filter_all f [] h = refl
  filter_all f (x ∷ xs) h = rw h.0 (ap (λ l. x ∷ l) (filter_all f xs h.1))

  -- what a test parts, it parts from a place on
  pub parted_drop : (p : X → Bool) (xs : List X) (n : ℕ) → IsPartitionedBy p xs → IsPartitionedBy p (drop n xs)
  parted_drop p xs n h i j d le lt t = rw (get_or-drop n xs i d)
      (h (n + i) (n + j) d (omega arith) (omega (arith, length-drop n xs)) (rw (get_or-drop n xs j d) at t))

  in_three : (f : X → Bool) (xs : List X) (i j : ℕ) → filter f xs ≡ filter f (take i xs) ++ (filter f (take j (drop i xs)) ++ filter f (drop j (drop i xs)))
  in_three f xs i j =
      ap (filter f) (sym (take-append-drop i xs))
      ∙ filter-append f (take i xs) (drop i xs)
      ∙ ap (λ l. filter f (take i xs) ++ l) (ap (filter f) (sym (take-append-drop j (drop i xs))) ∙ filter-append f (take j (drop i xs)) (drop j (drop i xs)))

  -- what a comparison parts into less, equal and greater has in the middle those that it ties
  pub middle : (compared : X → Ordering) (xs : List X) (i j : ℕ)
      → AllWithin (λ x. is_lt (compared x) ≡ true) xs 0 i → AllWithin (λ x. is_lt (compared x) ≡ false) xs i (length xs)
      → AllWithin (λ x. is_le (compared x) ≡ true) (drop i xs) 0 j → AllWithin (λ x. is_le (compared x) ≡ false) (drop i xs) j (length (drop i xs))
      → take j (drop i xs) ≡ filter (λ x. is_eq (compared x)) xs
  middle compared xs i j below from low high =
      let tied = λ (x : X). is_eq (compared x) in
      let rest = All-from_recursion (λ x. is_lt (compared x) ≡ false) (drop i xs) (along_drop (λ x. is_lt (compared x) ≡ false) xs i from) in
      let before = filter_none tied (take i xs) (along_take (λ x. tied x ≡ false) xs i (λ k d lt _. eq_of_lt _ (below k d (omega arith) lt))) in
      let behind = filter_none tied (drop j (drop i xs)) (along_drop (λ x. tied x ≡ false) (drop i xs) j (λ k d le lt. eq_of_gt _ (high k d le lt))) in
      let all = filter_all tied (take j (drop i xs)) (along_take (λ x. tied x ≡ true) (drop i xs) j
      (λ k d lt le. eq_of_both _ (rest k d le) (low k d (omega arith) lt))) in
      sym (in_three tied xs i j ∙ rw (before, behind, all) (append-nil (take j (drop i xs))))

  -- a run that is what a test keeps has nothing before it that passes, and nothing after it
  pub outside : (f : X → Bool) (xs : List X) (i j : ℕ) → take j (drop i xs) ≡ filter f xs → (filter f (take i xs) ≡ []) × (filter f (drop j (drop i xs)) ≡ [])
  outside f xs i j is =
      let front = filter f (take i xs) in
      let middle = filter f (take j (drop i xs)) in
      let back = filter f (drop j (drop i xs)) in
      let same : middle ≡ filter f xs = ap (filter f) is
      ∙ filter_all f (filter f xs) (recursion_from_All (λ x. f x ≡ true) (filter f xs) (filter_passes f xs)) in
      let long = simp length-append at (ap length (in_three f xs i j)) in
      (nil_from_length front (omega (arith, long, ap length same)), nil_from_length back (omega (arith, long, ap length same)))

  -- what a test drops from the end on, down to a place: one more element stays, or is dropped
  module _ (p : X → Bool) (xs now : List X) (n : ℕ) (x : X) (some : 0 < n) (within : n ≤ length xs)
      (is : now ≡ take n xs ++ filter p (drop n xs)) (there : x ≡ get_or now (n - 1) x) where
    next : n ≡ n - 1 + 1
    next = omega arith

    here : get_or xs (n - 1) x ≡ x
    here = sym (there ∙ rw (
      is,
      get_or_append_left (take n xs) (filter p (drop n xs)) x (n - 1)
          (omega (arith, length-take-le n xs within)),
    ) (get_or-take n xs (n - 1) x (omega arith)))

    front : take n xs ≡ take (n - 1) xs ++ x ∷ []
    front = ap (λ m. take m xs) next ∙ take_more xs (n - 1) x (omega arith) ∙ ap (λ y. take (n - 1) xs ++ y ∷ []) here

    behind : filter p (drop (n - 1) xs) ≡ cond (p x) (x ∷ filter p (drop n xs)) (filter p (drop n xs))
    behind = rw (drop_more xs (n - 1) x (omega arith), here, ← next) refl

    pub stays : p x ≡ true → now ≡ take (n - 1) xs ++ filter p (drop (n - 1) xs)
    stays t = rw (is, behind, t, front) (append_assoc (take (n - 1) xs) (x ∷ []) (filter p (drop n xs)))

    pub goes : p x ≡ false → take (n - 1) now ++ drop (n - 1 + 1) now ≡ take (n - 1) xs ++ filter p (drop (n - 1) xs)
    goes t =
        let long : length (take (n - 1) xs) ≡ n - 1 = length-take-le (n - 1) xs (omega arith) in
        let all = append_assoc (take (n - 1) xs) (x ∷ []) (filter p (drop n xs)) in
        rw (
          behind,
          t,
          is,
          front,
          drop_at (take (n - 1) xs ++ x ∷ []) (filter p (drop n xs)) (n - 1 + 1)
              (omega (arith, length-append {A = X})),
          all,
          take_at (take (n - 1) xs) (x ∷ filter p (drop n xs)) (n - 1) long,
        ) refl
