-- Entries whose records follow one another, in the order of their offsets.
use Rattle.std.proofs.Common.{◌≡◌, ℕ, ◌+◌, ◌<◌, ◌≤◌, Bool, true, cond, ◌&&◌, ◌↔◌, eqb, suc, List, [], ◌∷◌, length, map}
use Rattle.std.proofs.Common.{drop, get_or, refl, sym, ap, ◌∙◌, subst, inl, inr, arith, nat_le, Bor}
use Rattle.std.specs.Prelude.{All, Contains}
use Rattle.std.specs.List.{sum_by}
use Rattle.std.specs.List.Sorted.{IsNonDecreasingBy, IsPermutation}
use Rattle.std.specs.Str.{bytes_eq}
use Rattle.std.proofs.Math.ListN.{drop_of_length-le, length-map}
use Rattle.std.proofs.Math.Seq.{drop-cons}
use Rattle.std.proofs.lemmas.Bool.{cases_Bool}
use Rattle.std.proofs.lemmas.Bool.Decides.{nat_tests}
use Rattle.std.proofs.lemmas.List.{get_or-map}
use Rattle.std.proofs.lemmas.List.Elements.{All-contains, Contains-get_or}
use Rattle.std.proofs.lemmas.List.Sorted.{Contains-permutation, IsNonDecreasingBy-drop, IsPermutation-sym, sum_by-IsPermutation}
use Rattle.std.proofs.lemmas.List.Sums.{sum_by-cons}
use Rattle.std.proofs.lemmas.Slice.Eq.{bytes_eq-Decides}
use Rattle.archive_core.specs.Content.{is_admission}
use Rattle.archive_core.proofs.Members.{in_rest, in_cons, in_front}
use Rattle.archive_records.specs.Layout.{largest_slice}
use Rattle.index_format.specs.Entry.{length_in, offset_in}
use Rattle.index_format.specs.Entry.{HasItsFields, claim_in, entry_bytes, stored_size}
use Rattle.index_format.specs.declared.entry.IndexEntry.{IndexEntry}
use Rattle.index_format.specs.Text.{AreLaid, FollowOn, PassChecks}
use Rattle.index_format.proofs.Checks.{passed}

-- ---- lists of which each sum is the same

abbrev AreAlike : List (List ℕ) → List (List ℕ) → Type 0
AreAlike xs ys = (f : List ℕ → ℕ) → sum_by f xs ≡ sum_by f ys

abbrev counted : List ℕ → List ℕ → ℕ
counted x y = cond (bytes_eq y x) 1 0

counts_itself : (x : List ℕ) (xs : List (List ℕ)) → 0 < sum_by (counted x) (x ∷ xs)
counts_itself x xs =
    let one : counted x x ≡ 1 = ap (λ b. cond b 1 0) ((bytes_eq-Decides x x).1 refl) in
    omega (arith, one, sum_by-cons (counted x) x xs)

is_counted : (x : List ℕ) (xs : List (List ℕ)) → 0 < sum_by (counted x) xs → Contains xs x
is_counted x [] some = absurd (omega (arith, some))
is_counted x (y ∷ ys) some = elim (cases_Bool (bytes_eq y x)) [
  | inl t ↦ subst (Contains (y ∷ ys)) ((bytes_eq-Decides y x).0 t) (in_front y ys)
  | inr f ↦
      let none : counted x y ≡ 0 = ap (λ b. cond b 1 0) f in
      in_rest y ys x (is_counted x ys (omega (arith, some, none, sum_by-cons (counted x) y ys)))
]

alike_tails : (x : List ℕ) (xs ys : List (List ℕ)) → AreAlike (x ∷ xs) (x ∷ ys) → AreAlike xs ys
alike_tails x xs ys alike f = omega (arith, alike f, sum_by-cons f x xs, sum_by-cons f x ys)

-- ---- one order

-- what follows begins no earlier
pub follows : (offset at end : ℕ) (xs : List (List ℕ)) (z : List ℕ) → FollowOn offset at end xs → Contains xs z → offset ≤ offset_in z
follows offset at end [] z follow c = absurd (omega (arith, c.1))
follows offset at end (x ∷ xs) z follow c = elim (in_cons x xs z c) [
  | inl e ↦ omega (arith, follow.0, ap offset_in e)
  | inr there ↦ omega (arith, follows (offset + length_in x) (at + stored_size (claim_in x)) end xs z follow.2 there)
]

first_least : (y z : List ℕ) (ys : List (List ℕ)) → IsNonDecreasingBy offset_in (y ∷ ys) → Contains (y ∷ ys) z → offset_in y ≤ offset_in z
first_least y z ys up c = omega (arith, up 0 c.0 z (omega arith) c.1, ap offset_in c.2)

-- entries that follow one another are the one list of them that is sorted by offsets
pub one_order : (offset at end : ℕ) (xs ys : List (List ℕ)) → FollowOn offset at end xs
    → ((z : List ℕ) → Contains xs z → 0 < length_in z) → IsNonDecreasingBy offset_in ys → AreAlike xs ys → xs ≡ ys
one_order offset at end [] [] follow some up alike = refl
one_order offset at end [] (y ∷ ys) follow some up alike = absurd (omega (arith, alike (λ _. 1), sum_by-cons (λ _. 1) y ys))
one_order offset at end (x ∷ xs) [] follow some up alike = absurd (omega (arith, alike (λ _. 1), sum_by-cons (λ _. 1) x xs))
one_order offset at end (x ∷ xs) (y ∷ ys) follow some up alike =
    let y_there : Contains (x ∷ xs) y = is_counted y (x ∷ xs) (omega (arith, alike (counted y), counts_itself y ys)) in
    let x_there : Contains (y ∷ ys) x = is_counted x (y ∷ ys) (omega (arith, alike (counted x), counts_itself x xs)) in
    let least : offset_in y ≤ offset_in x = first_least y x ys up x_there in
    elim (in_cons x xs y y_there) [
      | inl e ↦
          let tails : AreAlike xs ys = alike_tails x xs ys (subst (λ (t : List ℕ). AreAlike (x ∷ xs) (t ∷ ys)) (sym e) alike) in
          cc (
            e,
            one_order (offset + length_in x) (at + stored_size (claim_in x)) end xs ys follow.2
                (λ z c. some z (in_rest x xs z c)) (IsNonDecreasingBy-drop offset_in 1 (y ∷ ys) up) tails,
          )
      | inr there ↦
          absurd (omega (
            arith,
            least,
            follow.0,
            some x (in_front x xs),
            follows (offset + length_in x) (at + stored_size (claim_in x)) end xs y follow.2 there,
          ))
    ]

-- ---- entries that pass their checks

pub some_length : (a : Bool) (n : ℕ) → cond a (nat_le 33 n && nat_le n (33 + largest_slice)) (eqb n 57) ≡ true → 0 < n
some_length a n h = grind (arith, nat_tests)

pub each_some : (end : ℕ) (low : List ℕ) (xs : List (List ℕ)) (z : List ℕ) → PassChecks end low xs → Contains xs z → 0 < length_in z
each_some end low [] z pass c = absurd (omega (arith, c.1))
each_some end low (x ∷ xs) z pass c = elim (in_cons x xs z c) [
  | inl e ↦ subst (λ (t : List ℕ). 0 < length_in t) e (some_length (is_admission x) (length_in x) (passed end low x pass.1).length_is)
  | inr there ↦ each_some end x xs z pass.2 there
]

-- in the order of their offsets they follow one another, if they do in any
pub follow_sorted : (end : ℕ) (entries sorted : List (List ℕ)) → PassChecks end [] entries
    → IsPermutation entries sorted → IsNonDecreasingBy offset_in sorted → AreLaid end entries → FollowOn 8 8 end sorted
follow_sorted end entries sorted pass moved up laid =
    let alike : AreAlike laid.order sorted = λ f. sum_by-IsPermutation f entries laid.order laid.permuted ∙ sym (sum_by-IsPermutation f entries sorted moved) in
    let some : (z : List ℕ) → Contains laid.order z → 0 < length_in z =
    λ z c. each_some end [] entries z pass (Contains-permutation laid.order entries z
    (IsPermutation-sym entries laid.order laid.permuted) c) in
    subst (FollowOn 8 8 end) (one_order 8 8 end laid.order sorted laid.follow some up alike) laid.follow

-- ---- one entry after another

rest_from : (xs : List (List ℕ)) (i : ℕ) (e : List ℕ) → i < length xs → e ≡ get_or xs i [] → drop i xs ≡ e ∷ drop (i + 1) xs
rest_from xs i e lt is =
    let next : suc i ≡ i + 1 = omega arith in
    drop-cons xs i [] lt ∙ (λ k. sym is k ∷ drop (next k) xs)

moved : (o p a b end : ℕ) (xs : List (List ℕ)) → o ≡ p → a ≡ b → FollowOn o a end xs → FollowOn p b end xs
moved o p a b end xs same alike h = subst (λ (n : ℕ). FollowOn n b end xs) same (subst (λ (n : ℕ). FollowOn o n end xs) alike h)

module _ (offset at end i : ℕ) (xs : List (List ℕ)) (e : List ℕ) (P : Type 0) (lt : i < length xs)
    (is : e ≡ get_or xs i []) (left : FollowOn offset at end (drop i xs) ↔ P) where
  head_of : P → FollowOn offset at end (e ∷ drop (i + 1) xs)
  head_of p = subst (FollowOn offset at end) (rest_from xs i e lt is) (left.1 p)

  -- no entry follows in_front
  pub not_here : (offset_in e ≡ offset → (is_admission e ≡ true → (claim_in e).offset ≡ at) → ⊥) → P → ⊥
  not_here other p = other (head_of p).0 (head_of p).1

  -- this entry follows
  pub one_more : (offset_more at_more : ℕ) → offset_in e ≡ offset → (is_admission e ≡ true → (claim_in e).offset ≡ at)
      → offset_more ≡ offset + length_in e → at_more ≡ at + stored_size (claim_in e)
      → FollowOn offset_more at_more end (drop (i + 1) xs) ↔ P
  one_more offset_more at_more offset_is at_is o a = (
    λ h. left.0 (subst (FollowOn offset at end) (sym (rest_from xs i e lt is)) (
      offset_is,
      at_is,
      moved offset_more (offset + length_in e) at_more (at + stored_size (claim_in e)) end
          (drop (i + 1) xs) o a h,
    )),
    λ p. moved (offset + length_in e) offset_more (at + stored_size (claim_in e)) at_more end (drop (i + 1) xs) (sym o) (sym a) (head_of p).2,
  )

-- all entries have followed
pub all_followed : (offset at end i : ℕ) (xs : List (List ℕ)) (P : Type 0) → length xs ≤ i → FollowOn offset at end (drop i xs) ↔ P → (at ≡ end) ↔ P
all_followed offset at end i xs P all left =
    let none : drop i xs ≡ [] = drop_of_length-le xs all in
    (λ h. left.0 (subst (FollowOn offset at end) (sym none) h), λ p. subst (FollowOn offset at end) none (left.1 p))

-- ---- entries and their fields

-- the bytes of an entry among those of all
pub bytes_at : (entries : List IndexEntry) (i : ℕ) (e : IndexEntry) → i < length entries → e ≡ get_or entries i e
    → entry_bytes e ≡ get_or (map entry_bytes entries) i []
bytes_at entries i e lt is = ap entry_bytes is ∙ sym (get_or-map entry_bytes entries i e [] lt)

pub fields_at : (entries : List IndexEntry) (i : ℕ) (e : IndexEntry) → All HasItsFields entries → i < length entries → e ≡ get_or entries i e → HasItsFields e
fields_at entries i e fields lt is = All-contains HasItsFields entries e fields (i, lt, sym is)

-- offsets do not fall, by their fields and by their bytes
pub offsets_rise : (xs : List IndexEntry) → All HasItsFields xs → IsNonDecreasingBy (λ e. e.offset) xs → IsNonDecreasingBy offset_in (map entry_bytes xs)
offsets_rise [] fields up = λ i j d le lt. absurd (omega (arith, lt))
offsets_rise (x ∷ xs) fields up = λ i j d le lt.
    let all : List IndexEntry = x ∷ xs in
    let within : j < length all = omega (arith, lt, length-map all entry_bytes) in
    let before : i < length all = omega (arith, le, within) in
    let a : offset_in (get_or (map entry_bytes all) i d) ≡ (get_or all i x).offset =
    ap offset_in (get_or-map entry_bytes all i x d before)
    ∙ (All-contains HasItsFields all (get_or all i x) fields (Contains-get_or all i x before)).offset_is in
    let b : offset_in (get_or (map entry_bytes all) j d) ≡ (get_or all j x).offset =
    ap offset_in (get_or-map entry_bytes all j x d within)
    ∙ (All-contains HasItsFields all (get_or all j x) fields (Contains-get_or all j x within)).offset_is in
    omega (arith, a, b, up i j x le within)

-- ---- entries that are borrowed

abbrev pub of_borrowed : Bor IndexEntry → IndexEntry
of_borrowed e = e.now

abbrev pub all_borrowed : List (Bor IndexEntry) → List IndexEntry
all_borrowed xs = map of_borrowed xs

-- the one at a place
pub borrowed_at : (xs : List (Bor IndexEntry)) (i : ℕ) (e : Bor IndexEntry) → i < length xs → e ≡ get_or xs i e
    → of_borrowed e ≡ get_or (all_borrowed xs) i (of_borrowed e)
borrowed_at xs i e lt is = ap of_borrowed is ∙ sym (get_or-map of_borrowed xs i e (of_borrowed e) lt)

pub borrowed_within : (xs : List (Bor IndexEntry)) (i : ℕ) → i < length xs → i < length (all_borrowed xs)
borrowed_within xs i lt = omega (arith, lt, length-map xs of_borrowed)

-- offsets do not fall, where they are borrowed and as they are
pub borrowed_rise : (xs : List (Bor IndexEntry)) → IsNonDecreasingBy (λ e. e.now.offset) xs → IsNonDecreasingBy (λ e. e.offset) (all_borrowed xs)
borrowed_rise [] up = λ i j d le lt. absurd (omega (arith, lt))
borrowed_rise (x ∷ xs) up = λ i j d le lt.
    let all : List (Bor IndexEntry) = x ∷ xs in
    let within : j < length all = omega (arith, lt, length-map all of_borrowed) in
    let before : i < length all = omega (arith, le, within) in
    let a : (get_or (all_borrowed all) i d).offset ≡ (get_or all i x).now.offset =
    ap (λ (e : IndexEntry). e.offset) (get_or-map of_borrowed all i x d before) in
    let b : (get_or (all_borrowed all) j d).offset ≡ (get_or all j x).now.offset =
    ap (λ (e : IndexEntry). e.offset) (get_or-map of_borrowed all j x d within) in
    omega (arith, a, b, up i j x le within)
