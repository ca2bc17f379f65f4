-- Entries of one length in two indexes.
use Rattle.std.proofs.Common.{◌≡◌, ℕ, ◌+◌, ◌<◌, ◌≤◌, Bool, true, false, not, ◌||◌, List, length, take, get_or, refl, sym, subst, ap, ◌∙◌, inl, inr, ◌⊎◌, arith}
use Rattle.std.specs.Prelude.{All, Contains}
use Rattle.std.specs.List.{AllPairs}
use Rattle.std.specs.List.Sorted.{IsSortedByKey}
use Rattle.std.specs.Ordering.{nat_cmp}
use Rattle.std.specs.Cmp.Lexicographic.{slice_cmp}
use Rattle.std.specs.Str.{bytes_eq}
use Rattle.std.proofs.lemmas.Bool.{both_ways, cases_Bool, cases_order, false≢true, not-false, not-true, or_cases, or_parts}
use Rattle.std.proofs.lemmas.List.{get_or-take, get_or_default, get_or_read, length-take-le, take_all, take_more}
use Rattle.std.proofs.lemmas.List.Elements.{All-more, All-weaker, Contains-get_or}
use Rattle.std.proofs.lemmas.List.Quantifiers.{all_pairs_push}
use Rattle.std.proofs.lemmas.Slice.Eq.{bytes_eq-Decides}
use Rattle.index_format.specs.Entry.{length_in}
use Rattle.index_lookup.specs.Among.{AreOfOneSlice, EntryAt}
use Rattle.index_lookup.specs.InnerAnswering.{HaveOrder, HaveTie, rank_in}
use Rattle.index_lookup.proofs.Places.{IsNotAfter, in_order_of_places}

-- what is known of an entry that was passed, where this is the first of its length that was, and two of these differ or not
abbrev pub IsPassed : EntryAt → Bool → EntryAt → Type 0
IsPassed first differ x = (length_in x.entry < length_in first.entry)
    ⊎ ((length_in x.entry ≡ length_in first.entry) × (first.input ≤ x.input)
    × (differ ≡ false → AreOfOneSlice first.entry x.entry) × (differ ≡ true → x.input ≡ first.input))

-- an entry of the same length and index as the first is of another slice
pub record HasOther (xs : List EntryAt) (first : EntryAt) : Type 0 where
  pub other : EntryAt
  pub other_in : Contains xs other
  pub same_length : length_in other.entry ≡ length_in first.entry
  pub same_input : other.input ≡ first.input
  pub slices : AreOfOneSlice first.entry other.entry → ⊥

-- what is known of the entries before a number
pub record ArePassed (xs : List EntryAt) (i : ℕ) (first : EntryAt) (differ : Bool) : Type 0 where
  pub place : ℕ
  pub not_past : place ≤ i
  pub within : place < length xs
  pub first_is : (d : EntryAt) → first ≡ get_or xs place d
  pub each : All (IsPassed first differ) (take i xs)
  pub other : differ ≡ true → HasOther xs first
  pub agree : AllPairs HaveOrder (take i xs)

pub none_passed : (xs : List EntryAt) (first : EntryAt) → 0 < length xs → ((d : EntryAt) → first ≡ get_or xs 0 d) → ArePassed xs 0 first false
none_passed xs first lt is = record {
  place = 0;
  not_past = omega arith;
  within = lt;
  first_is = is;
  each = λ k d lt. absurd (omega (arith, lt));
  other = λ e. absurd (false≢true e);
  agree = λ i j d lt le. absurd (omega (arith, lt, le));
}

module _ (xs : List EntryAt) (i : ℕ) (first : EntryAt) (differ : Bool) (q : EntryAt)
    (sorted : IsSortedByKey rank_in (slice_cmp nat_cmp) xs) (lt : i < length xs) (is : q ≡ get_or xs i q)
    (passed : ArePassed xs i first differ) where
  q_is : (d : EntryAt) → q ≡ get_or xs i d
  q_is = get_or_read xs i q lt is

  -- the first of the length is not after this one
  reached : IsNotAfter first q
  reached = subst (λ x. IsNotAfter x q) (sym (passed.first_is q))
      (subst (λ y. IsNotAfter (get_or xs passed.place q) y) (sym (q_is q))
      (in_order_of_places xs sorted passed.place i q passed.not_past lt))

  -- nor is one that was passed
  before_this : All (λ x. IsNotAfter x q) (take i xs)
  before_this = λ k d within.
      let long : length (take i xs) ≡ i = length-take-le i xs (omega (arith, lt)) in
      let below : k < i = omega (arith, within, long) in
      subst (λ x. IsNotAfter x q) (sym (get_or-take i xs k d below))
      (subst (λ y. IsNotAfter (get_or xs k d) y) (sym (q_is d))
      (in_order_of_places xs sorted k i d (omega (arith, below)) lt))

  one_more : (P : EntryAt → Type 0) → All P (take i xs) → P q → All P (take (i + 1) xs)
  one_more P all one = All-more P xs i q lt all (subst P (q_is q) one)

  pairs_more : All (λ x. HaveOrder x q) (take i xs) → AllPairs HaveOrder (take (i + 1) xs)
  pairs_more all =
      subst (AllPairs HaveOrder) (sym (take_more xs i q lt))
      (all_pairs_push HaveOrder (take i xs) (get_or xs i q) passed.agree
      (λ k d within. subst (HaveOrder (get_or (take i xs) k d)) (q_is q) (all k d within)))

  -- it is longer
  pub longer : (length_in q.entry ≡ length_in first.entry → ⊥) → ArePassed xs (i + 1) q false
  longer other =
      let more : length_in first.entry < length_in q.entry = grown reached in
      record {
        place = i;
        not_past = omega arith;
        within = lt;
        first_is = q_is;
        each = one_more (IsPassed q false) (All-weaker (IsPassed first differ) (IsPassed q false)
            (λ x p. inl (shorter more x p)) (take i xs) passed.each)
            (inr (refl, omega arith, λ _. refl, λ e. absurd (false≢true e)));
        other = λ e. absurd (false≢true e);
        agree = pairs_more (All-weaker (IsPassed first differ) (λ x. HaveOrder x q)
            (λ x p same. let below = shorter more x p in absurd (omega (arith, below, same))) (take i xs) passed.each);
      }
    where
      grown : IsNotAfter first q → length_in first.entry < length_in q.entry
      grown (inl more) = more
      grown (inr (same, _)) = absurd (other (sym same))

      shorter : length_in first.entry < length_in q.entry → (x : EntryAt) → IsPassed first differ x → length_in x.entry < length_in q.entry
      shorter more x (inl below) = omega (arith, below, more)
      shorter more x (inr (same, _, _, _)) = omega (arith, same, more)

  -- it has the same length, and two of these differ or not
  module _ (same : length_in q.entry ≡ length_in first.entry) (alike : Bool) (alike_is : alike ≡ bytes_eq (take 57 first.entry) (take 57 q.entry)) where
    after_first : first.input ≤ q.input
    after_first = from reached
      where
        from : IsNotAfter first q → first.input ≤ q.input
        from (inl more) = absurd (omega (arith, more, same))
        from (inr (_, inl below)) = omega (arith, below)
        from (inr (_, inr (e, _))) = omega (arith, e)

    one_slice : (differ || not alike) ≡ false → AreOfOneSlice first.entry q.entry
    one_slice not_so = (bytes_eq-Decides (take 57 first.entry) (take 57 q.entry)).0 (sym alike_is ∙ not-false alike (or_parts differ (not alike) not_so).1)

    other_slice : alike ≡ false → AreOfOneSlice first.entry q.entry → ⊥
    other_slice not_so e = false≢true (sym not_so ∙ alike_is ∙ (bytes_eq-Decides (take 57 first.entry) (take 57 q.entry)).1 e)

    has_this : Contains xs q
    has_this = subst (Contains xs) (sym (q_is q)) (Contains-get_or xs i q lt)

    has_first : Contains xs first
    has_first = subst (Contains xs) (sym (passed.first_is q)) (Contains-get_or xs passed.place q passed.within)

    -- this one stands in another index, and two differ
    pub tied : (differ || not alike) ≡ true → (q.input ≡ first.input → ⊥) → HaveTie xs
    tied some elsewhere = elim (cases_Bool alike) [
      | inr not_so ↦ record {
        one = first;
        other = q;
        one_in = has_first;
        other_in = has_this;
        unordered =
            record { same_length = sym same; inputs = λ e. elsewhere (sym e); slices = other_slice not_so };
      }
      | inl so ↦
          let before : differ ≡ true = elim (or_cases differ (not alike) some) [ inl d ↦ d | inr n ↦ absurd (both_ways alike (not-true alike n) so) ] in
          let o = passed.other before in
          let here = (bytes_eq-Decides (take 57 first.entry) (take 57 q.entry)).0 (sym alike_is ∙ so) in
          record {
            one = o.other;
            other = q;
            one_in = o.other_in;
            other_in = has_this;
            unordered = record {
              same_length = o.same_length ∙ sym same;
              inputs = λ e. elsewhere (sym e ∙ o.same_input);
              slices = λ e. o.slices (here ∙ sym e);
            };
          }
    ]

    -- this one stands in the same index, or none differ
    pub alike_more : ((differ || not alike) ≡ true → q.input ≡ first.input) → ArePassed xs (i + 1) first (differ || not alike)
    alike_more here = record {
      place = passed.place;
      not_past = let p = passed.not_past in omega (arith, p);
      within = passed.within;
      first_is = passed.first_is;
      each = one_more (IsPassed first (differ || not alike))
          (λ k d within. still (get_or (take i xs) k d) (before_this k d within) (passed.each k d within))
          (inr (same, after_first, one_slice, here));
      other = λ some. elim (cases_Bool alike) [
        | inr not_so ↦ record { other = q; other_in = has_this; same_length = same; same_input = here some; slices = other_slice not_so }
        | inl so ↦ passed.other (elim (or_cases differ (not alike) some) [ inl d ↦ d | inr n ↦ absurd (both_ways alike (not-true alike n) so) ])
      ];
      agree = pairs_more (λ k d within. in_order (get_or (take i xs) k d) (still (get_or (take i xs) k d) (before_this k d within) (passed.each k d within)));
    }
      where
        kept_input : (x : EntryAt) → IsNotAfter x q → length_in x.entry ≡ length_in first.entry → first.input ≤ x.input
            → q.input ≡ first.input → x.input ≡ first.input
        kept_input x (inl below) e le this = absurd (omega (arith, below, e, same))
        kept_input x (inr (_, inl below)) e le this = absurd (omega (arith, below, le, this))
        kept_input x (inr (_, inr (at, _))) e le this = at ∙ this

        still : (x : EntryAt) → IsNotAfter x q → IsPassed first differ x → IsPassed first (differ || not alike) x
        still x rise (inl below) = inl below
        still x rise (inr (e, le, one, there)) = inr (e, le, λ not_so. one (or_parts differ (not alike) not_so).0, λ some. kept_input x rise e le (here some))

        in_order : (x : EntryAt) → IsPassed first (differ || not alike) x → HaveOrder x q
        in_order x (inl below) = λ e. absurd (omega (arith, below, e, same))
        in_order x (inr (e, le, one, there)) = λ _ inputs. elim (cases_Bool (differ || not alike)) [
          | inl some ↦ absurd (inputs (there some ∙ sym (here some)))
          | inr not_so ↦ sym (one not_so) ∙ one_slice not_so
        ]

-- all were passed
pub all_passed : (xs : List EntryAt) (i : ℕ) (first : EntryAt) (differ : Bool) → length xs ≤ i → ArePassed xs i first differ → AllPairs HaveOrder xs
all_passed xs i first differ le passed = subst (AllPairs HaveOrder) (take_all i xs le) passed.agree

-- entries of which each two have an order have no tie
pub untied : (xs : List EntryAt) → AllPairs HaveOrder xs → HaveTie xs → ⊥
untied xs agree tie = elim (cases_order tie.one_in.0 tie.other_in.0) [
  | inl e ↦ tie.unordered.inputs (ap (λ x. x.input) (sym tie.one_in.2 ∙ ap (λ k. get_or xs k tie.one) e
      ∙ get_or_default xs tie.other_in.0 tie.one tie.other tie.other_in.1 ∙ tie.other_in.2))
  | inr (inl lt) ↦
      tie.unordered.slices (ordered tie.one tie.other tie.one_in tie.other_in lt tie.unordered.same_length tie.unordered.inputs)
  | inr (inr gt) ↦
      tie.unordered.slices (sym (ordered tie.other tie.one tie.other_in tie.one_in gt (sym tie.unordered.same_length) (λ e. tie.unordered.inputs (sym e))))
]
  where
    ordered : (x y : EntryAt) (a : Contains xs x) (b : Contains xs y) → a.0 < b.0 → HaveOrder x y
    ordered x y a b lt =
        subst (λ z. HaveOrder z y) (get_or_default xs a.0 y x a.1 ∙ a.2) (subst (λ z. HaveOrder (get_or xs a.0 y) z) b.2 (agree a.0 b.0 y lt b.1))
