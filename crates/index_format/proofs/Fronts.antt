-- What entries say without their claims: the first 74 bytes of each.
use Rattle.std.proofs.Common.{◌≡◌, ℕ, ◌+◌, ◌<◌, ◌≤◌, cond, eqb, List, [], ◌∷◌, length, map, take, drop, refl, sym, ap, subst, ◌∙◌, inl, inr, arith, eq-eqb}
use Rattle.std.specs.Prelude.{Contains}
use Rattle.std.specs.Int.{w64, from_be_bytes}
use Rattle.std.specs.List.{AllByRecursion, sum_by}
use Rattle.std.specs.List.Sorted.{IsStrictlySortedBy}
use Rattle.std.specs.Ordering.{nat_cmp, ordering_then}
use Rattle.std.specs.declared.cmp.Ordering.{Ordering}
use Rattle.std.specs.declared.cmp.Ordering.TheVariants.{Less, Equal, Greater}
use Rattle.std.specs.Cmp.Lexicographic.{slice_cmp, nat_list_cmp_total}
use Rattle.std.proofs.lemmas.Bool.{cases_Bool, eqb-true}
use Rattle.std.proofs.lemmas.List.{length-take-le, take_at, take-append-drop}
use Rattle.std.proofs.lemmas.List.Elements.{recursion_from_All}
use Rattle.std.proofs.lemmas.List.Sorted.{Contains-permutation, IsPermutation-sym, sum_by-IsPermutation}
use Rattle.std.proofs.lemmas.List.Sums.{sum_by-cons}
use Rattle.table_checked_pages.specs.Views.{claim_view}
use Rattle.join_core.proofs.Listing.{listing_ascending}
use Rattle.archive_core.proofs.Compare.{slice_cmp-append}
use Rattle.archive_core.proofs.Made.{bytes_same}
use Rattle.archive_core.proofs.Members.{in_rest, in_front}
use Rattle.index_format.specs.Entry.{AreOrderedEntries, HasItsFields, IsPlacedEntry, claim_bytes, claim_in, entry_bytes}
use Rattle.index_format.specs.Entry.{length_in, offset_in, placed_bytes, stored_size}
use Rattle.index_format.specs.Index.{AreIndexed, lengths_of}
use Rattle.index_format.specs.declared.entry.IndexEntry.{IndexEntry}
use Rattle.index_format.specs.Text.{AreLaid, FollowOn, PassChecks, placed_of}
use Rattle.index_format.proofs.Fields.{front_number}
use Rattle.index_format.proofs.PlaceLemmas.{each_some}
use Rattle.index_format.proofs.Checks.{pass_ascending}

abbrev order : List ℕ → List ℕ → Ordering
order = slice_cmp nat_cmp

-- ---- the fronts are what the entries say of their records

front_of : (e : IndexEntry) → length (placed_bytes e) ≡ 74 → placed_bytes e ≡ take 74 (entry_bytes e)
unfolding entry_bytes
front_of e long = sym (take_at (placed_bytes e) (claim_bytes (claim_view e.claim)) 74 long)

pub fronts_of : (es : List IndexEntry) → AllByRecursion IsPlacedEntry (map placed_bytes es) → map placed_bytes es ≡ map (take 74) (map entry_bytes es)
fronts_of [] are = refl
fronts_of (e ∷ es) are = λ i. front_of e are.0.long i ∷ fronts_of es are.1 i

pub each_placed : (es : List IndexEntry) → AllByRecursion HasItsFields es → AllByRecursion IsPlacedEntry (map placed_bytes es)
each_placed [] fields = tt
each_placed (e ∷ es) fields = (fields.0.placed, each_placed es fields.1)

pub fronts : (es : List IndexEntry) → AllByRecursion HasItsFields es → map placed_bytes es ≡ map (take 74) (map entry_bytes es)
fronts es fields = fronts_of es (each_placed es fields)

pub are_indexed : (es : List IndexEntry) → AreOrderedEntries es → AreIndexed (map placed_bytes es)
are_indexed es are =
    let fields = recursion_from_All HasItsFields es are.fields in
    record { ascending = subst (IsStrictlySortedBy order) (sym (fronts es fields)) are.placed_ascending; are = each_placed es fields }

beginning_offset : (e : List ℕ) → offset_in (take 74 e) ≡ offset_in e
beginning_offset e = ap (from_be_bytes w64) (front_number 58 e (omega arith))

front_length : (e : List ℕ) → length_in (take 74 e) ≡ length_in e
front_length e = ap (from_be_bytes w64) (front_number 66 e (omega arith))

-- ---- at most one record begins at an offset

abbrev at_offset : ℕ → List ℕ → ℕ
at_offset n e = cond (eqb (offset_in e) n) 1 0

is_at : (n : ℕ) (e : List ℕ) → offset_in e ≡ n → at_offset n e ≡ 1
is_at n e is = ap (λ b. cond b 1 0) (eq-eqb (offset_in e) n is)

not_at : (n : ℕ) (e : List ℕ) → (offset_in e ≡ n → ⊥) → at_offset n e ≡ 0
not_at n e other = elim (cases_Bool (eqb (offset_in e) n)) [
  | inl t ↦ absurd (other (eqb-true (offset_in e) n t))
  | inr f ↦ ap (λ b. cond b 1 0) f
]

none_before : (n offset at end : ℕ) (xs : List (List ℕ)) → FollowOn offset at end xs → n < offset → sum_by (at_offset n) xs ≡ 0
none_before n offset at end [] follow lt = refl
none_before n offset at end (x ∷ xs) follow lt =
    let other : at_offset n x ≡ 0 = not_at n x (λ e. omega (arith, lt, e, follow.0)) in
    omega (
      arith,
      sum_by-cons (at_offset n) x xs,
      other,
      none_before n (offset + length_in x) (at + stored_size (claim_in x)) end xs follow.2 (omega (arith, lt)),
    )

one_at_most : (n offset at end : ℕ) (xs : List (List ℕ)) → FollowOn offset at end xs
    → ((z : List ℕ) → Contains xs z → 0 < length_in z) → sum_by (at_offset n) xs ≤ 1
one_at_most n offset at end [] follow some = omega arith
one_at_most n offset at end (x ∷ xs) follow some =
    let next : ℕ = offset + length_in x in
    let more : sum_by (at_offset n) (x ∷ xs) ≡ at_offset n x + sum_by (at_offset n) xs = sum_by-cons (at_offset n) x xs in
    elim (cases_Bool (eqb (offset_in x) n)) [
      | inl t ↦
          let is : offset_in x ≡ n = eqb-true (offset_in x) n t in
          let past : n < next = omega (arith, is, follow.0, some x (in_front x xs)) in
          omega (arith, more, is_at n x is, none_before n next (at + stored_size (claim_in x)) end xs follow.2 past)
      | inr f ↦
          let other : at_offset n x ≡ 0 = ap (λ b. cond b 1 0) f in
          omega (arith, more, other, one_at_most n next (at + stored_size (claim_in x)) end xs follow.2 (λ z c. some z (in_rest x xs z c)))
    ]

abbrev AreApart : List (List ℕ) → Type 0
AreApart xs = (n : ℕ) → sum_by (at_offset n) xs ≤ 1

laid_apart : (end : ℕ) (entries : List (List ℕ)) → PassChecks end [] entries → AreLaid end entries → AreApart entries
laid_apart end entries pass laid n =
    let some : (z : List ℕ) → Contains laid.order z → 0 < length_in z =
    λ z c. each_some end [] entries z pass (Contains-permutation laid.order entries z
    (IsPermutation-sym entries laid.order laid.permuted) c) in
    omega (arith, one_at_most n 8 8 end laid.order laid.follow some, sum_by-IsPermutation (at_offset n) entries laid.order laid.permuted)

-- ---- so the fronts ascend

-- entries of other offsets differ in their fronts
front_less : (x y : List ℕ) (r : Ordering) → order (take 74 x) (take 74 y) ≡ r
    → ordering_then r (order (drop 74 x) (drop 74 y)) ≡ Less → (offset_in x ≡ offset_in y → ⊥)
    → order (take 74 x) (take 74 y) ≡ Less
front_less x y Less e h other = e
front_less x y Equal e h other = absurd (other (sym (beginning_offset x) ∙ ap offset_in (bytes_same (take 74 x) (take 74 y) e) ∙ beginning_offset y))
front_less x y Greater e h other = cc

fronts_compared : (x y : List ℕ) → length x ≡ 122 → length y ≡ 122 → order x y ≡ Less → (offset_in x ≡ offset_in y → ⊥) → order (take 74 x) (take 74 y) ≡ Less
fronts_compared x y long too lt other =
    let same : length (take 74 x) ≡ length (take 74 y) = length-take-le 74 x (omega (arith, long)) ∙ sym (length-take-le 74 y (omega (arith, too))) in
    front_less x y _ refl (sym (slice_cmp-append (take 74 x) (take 74 y) (drop 74 x) (drop 74 y) same)
    ∙ (λ i. order (take-append-drop 74 x i) (take-append-drop 74 y i)) ∙ lt) other

above_front : (end : ℕ) (x low : List ℕ) (xs : List (List ℕ)) → length x ≡ 122 → PassChecks end low xs
    → AllByRecursion (λ y. order x y ≡ Less) xs → sum_by (at_offset (offset_in x)) xs ≡ 0
    → AllByRecursion (λ y. order (take 74 x) y ≡ Less) (map (take 74) xs)
above_front end x low [] long pass above none = tt
above_front end x low (y ∷ ys) long pass above none =
    let more = sum_by-cons (at_offset (offset_in x)) y ys in (
      fronts_compared x y long pass.0 above.0 (λ e. omega (arith, more, none, is_at (offset_in x) y (sym e))),
      above_front end x y ys long pass.2 above.1 (omega (arith, more, none)),
    )

fronts_ascending : (end : ℕ) (low : List ℕ) (xs : List (List ℕ)) → PassChecks end low xs → IsStrictlySortedBy order xs
    → AreApart xs → IsStrictlySortedBy order (map (take 74) xs)
unfolding IsStrictlySortedBy
fronts_ascending end low [] pass up apart = tt
fronts_ascending end low (x ∷ xs) pass up apart =
    let none : sum_by (at_offset (offset_in x)) xs ≡ 0 =
    omega (arith, apart (offset_in x), sum_by-cons (at_offset (offset_in x)) x xs, is_at (offset_in x) x refl) in
    (above_front end x x xs pass.0 pass.2 up.0 none, fronts_ascending end x xs pass.2 up.1 (λ n. omega (arith, apart n, sum_by-cons (at_offset n) x xs)))

-- entries that pass their checks, and whose records follow one another
pub laid_ascending : (end : ℕ) (entries : List (List ℕ)) → PassChecks end [] entries → AreLaid end entries → IsStrictlySortedBy order (map (take 74) entries)
laid_ascending end entries pass laid =
    fronts_ascending end [] entries pass (pass_ascending end [] entries pass).1 (laid_apart end entries pass laid)

-- ---- the lengths of their records

sum_of_fronts : (xs : List (List ℕ)) → sum_by length_in (map (take 74) xs) ≡ sum_by length_in xs
sum_of_fronts [] = refl
sum_of_fronts (x ∷ xs) =
    omega (arith, sum_by-cons length_in (take 74 x) (map (take 74) xs), sum_by-cons length_in x xs, front_length x, sum_of_fronts xs)

pub lengths_together : (entries : List IndexEntry) → AreOrderedEntries entries
    → lengths_of (placed_of (map entry_bytes entries)) ≡ sum_by length_in (map entry_bytes entries)
unfolding lengths_of
lengths_together entries are =
    let bytes = map entry_bytes entries in
    ap (sum_by length_in) (listing_ascending nat_list_cmp_total bytes_same (map (take 74) bytes) are.placed_ascending) ∙ sum_of_fronts bytes
