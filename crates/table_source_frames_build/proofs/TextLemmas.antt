-- The numbers of texts: those among the strings of a slice by their places, the others after them.
use Rattle.std.proofs.Common.{◌≡◌, ℕ, zero, suc, ◌+◌, ◌<◌, ◌≤◌, Bool, true, false, nat_eq, List, [], ◌∷◌, ◌++◌, map, flat_map, length, get_or}
use Rattle.std.proofs.Common.{Option, Some, None, option_map, refl, sym, ap, ◌∙◌, inl, inr, arith, slice_get, append_assoc}
use Rattle.std.specs.Prelude.{unwrap_or, if◌then◌else◌}
use Rattle.std.specs.List.{list_any, position_from}
use Rattle.std.proofs.lemmas.Bool.{cases_Bool, cases_eq, cases_lt, cond-false, cond-true, or_parts, eq-eqb, ne_eqb}
use Rattle.std.proofs.lemmas.List.Folds.{list_any-append, list_any_at}
use Rattle.std.proofs.lemmas.List.FromFn.{get_or-map-range_with_len, length-map-range_with_len}
use Rattle.std.proofs.lemmas.Option.{get_or_from_slice_get, none-some, same_Some, slice_get-get_or, slice_get_within}
use Rattle.table_source_frames.specs.LineText.{begins_text, same_place, string_at, texts_of}
use Rattle.table_source_frames.specs.Numbering.{number_in, numbered_after, numbered_with}
use Rattle.table_source_frames.proofs.NumberingLemmas.{IsExact, after-append, number-append, number_cases}
use Rattle.table_source_frames.proofs.SameLemmas.{place_decides}
use Rattle.table_source_frames_build.specs.Kept.{IsKept, KeptRecord, text_at}
use Rattle.table_source_frames_build.specs.Numbering.{IsNumber}
use Rattle.table_source_frames_build.specs.PartBytes.{after_place, place_in, text_number}
use Rattle.table_source_frames_build.specs.PartNumbers.{unplaced}
use Rattle.table_source_frames_build.specs.Places.{ArePlacesBelow, IsAt, IsPlaceBelow}
use Rattle.table_source_frames_build.proofs.FirstUsesLemmas.{Each, each_after, exact_numbers, told_number, told_with}

-- ---- numbers among some and some more

module _ {A : Type 0} (same : A → A → Bool) (exact : IsExact same) where
  -- the number of one is at most its place
  number_least : (xs : List A) (x : A) (j : ℕ) → slice_get xs j ≡ Some x → number_in same xs x ≤ suc j
  unfolding number_in
  number_least xs x j at = omega (arith, least 1 xs j at)
    where
      least : (n : ℕ) (xs : List A) (j : ℕ) → slice_get xs j ≡ Some x → unwrap_or (position_from (same x) n xs) 0 ≤ n + j
      least n [] j at = absurd (none-some x at)
      least n (y ∷ xs) zero at =
          let is : same x y ≡ true = (exact x y).1 (sym (same_Some y x at)) in
          omega (arith, ap (λ (o : Option ℕ). unwrap_or o 0) (cond-true (same x y) (Some n) (position_from (same x) (n + 1) xs) is))
      least n (y ∷ xs) (suc j) at = elim (cases_Bool (same x y)) [
        | inl t ↦ omega (arith, ap (λ (o : Option ℕ). unwrap_or o 0) (cond-true (same x y) (Some n) (position_from (same x) (n + 1) xs) t))
        | inr f ↦
            omega (
              arith,
              least (n + 1) xs j at,
              ap (λ (o : Option ℕ). unwrap_or o 0) (cond-false (same x y) (Some n) (position_from (same x) (n + 1) xs) f),
            )
      ]

  -- whether one has a number
  any_is : (xs : List A) (x : A) → 0 < number_in same xs x → list_any (same x) xs ≡ true
  any_is xs x some = elim (number_cases same exact xs x) [
    | inl h ↦
        list_any_at (same x) xs h.0 x (slice_get_within xs h.0 x h.1)
        ((exact x (get_or xs h.0 x)).1 (sym (get_or_from_slice_get xs h.0 x x h.1)))
    | inr h ↦ absurd (omega (arith, some, h.0))
  ]

  absent : (xs : List A) (x : A) → ((j : ℕ) → slice_get xs j ≡ Some x → ⊥) → list_any (same x) xs ≡ false
  absent [] x none = refl
  absent (y ∷ xs) x none = elim (cases_Bool (same x y)) [
    | inl t ↦ absurd (none 0 (ap Some (sym ((exact x y).0 t))))
    | inr f ↦ rw f (absent xs x (λ j e. none (suc j) e))
  ]

  none_is : (xs : List A) (x : A) → number_in same xs x ≡ 0 → list_any (same x) xs ≡ false
  none_is xs x none = elim (number_cases same exact xs x) [
    | inl h ↦ absurd (omega (arith, none, h.2))
    | inr h ↦ absent xs x h.1
  ]

  -- past some that it is not among
  past : (n : ℕ) (xs ys : List A) (x : A) → list_any (same x) xs ≡ false → position_from (same x) n (xs ++ ys) ≡ position_from (same x) (n + length xs) ys
  past n [] ys x none = ap (λ m. position_from (same x) m ys) (omega arith)
  past n (y ∷ xs) ys x none =
      let parts = or_parts (same x y) (list_any (same x) xs) none in
      cond-false (same x y) (Some n) (position_from (same x) (n + 1) (xs ++ ys)) parts.0
      ∙ past (n + 1) xs ys x parts.1 ∙ ap (λ m. position_from (same x) m ys) (omega arith)

  further : (m n : ℕ) (ys : List A) (x : A) → position_from (same x) (m + n) ys ≡ option_map (λ k. m + k) (position_from (same x) n ys)
  further m n [] x = refl
  further m n (y ∷ ys) x = elim (cases_Bool (same x y)) [
    | inl t ↦
        cond-true (same x y) (Some (m + n)) (position_from (same x) (m + n + 1) ys) t
        ∙ ap (option_map (λ k. m + k)) (sym (cond-true (same x y) (Some n) (position_from (same x) (n + 1) ys) t))
    | inr f ↦
        cond-false (same x y) (Some (m + n)) (position_from (same x) (m + n + 1) ys) f
        ∙ ap (λ k. position_from (same x) k ys) (omega arith) ∙ further m (n + 1) ys x
        ∙ ap (option_map (λ k. m + k)) (sym (cond-false (same x y) (Some n) (position_from (same x) (n + 1) ys) f))
  ]

  some_from : (n k : ℕ) (ys : List A) (x : A) → position_from (same x) n ys ≡ Some k → n ≤ k
  some_from n k [] x e = absurd (none-some k e)
  some_from n k (y ∷ ys) x e = elim (cases_Bool (same x y)) [
    | inl t ↦ omega (arith, same_Some n k (sym (cond-true (same x y) (Some n) (position_from (same x) (n + 1) ys) t) ∙ e))
    | inr f ↦ omega (arith, some_from (n + 1) k ys x (sym (cond-false (same x y) (Some n) (position_from (same x) (n + 1) ys) f) ∙ e))
  ]

  after_of : (m : ℕ) (o : Option ℕ) → ((k : ℕ) → o ≡ Some k → 0 < k) → unwrap_or (option_map (λ k. m + k) o) 0 ≡ after_place m 0 (unwrap_or o 0)
  after_of m None some = refl
  after_of m (Some zero) some = absurd (omega (arith, some 0 refl))
  after_of m (Some (suc k)) some = refl

  -- the number of one that is not among the first
  number_past : (xs ys : List A) (x : A) → list_any (same x) xs ≡ false → number_in same (xs ++ ys) x ≡ after_place (length xs) 0 (number_in same ys x)
  unfolding number_in
  number_past xs ys x none =
      ap (λ (o : Option ℕ). unwrap_or o 0) (past 1 xs ys x none ∙ ap (λ n. position_from (same x) n ys) (omega arith) ∙ further (length xs) 1 ys x)
      ∙ after_of (length xs) (position_from (same x) 1 ys) (λ k e. omega (arith, some_from 1 k ys x e))

  -- ---- some more of them

  with_first : (xs ys : List A) (x : A) → list_any (same x) xs ≡ true → numbered_with same (xs ++ ys) x ≡ xs ++ ys
  with_first xs ys x any =
      cond-true (list_any (same x) (xs ++ ys)) (xs ++ ys) ((xs ++ ys) ++ x ∷ [])
      (list_any-append (same x) xs ys ∙ rw any refl)

  with_other : (xs ys : List A) (x : A) → list_any (same x) xs ≡ false → numbered_with same (xs ++ ys) x ≡ xs ++ numbered_with same ys x
  with_other xs ys x none =
      let whole : list_any (same x) (xs ++ ys) ≡ list_any (same x) ys = list_any-append (same x) xs ys ∙ rw none refl in
      elim (cases_Bool (list_any (same x) ys)) [
        | inl t ↦
            cond-true (list_any (same x) (xs ++ ys)) (xs ++ ys) ((xs ++ ys) ++ x ∷ []) (whole ∙ t)
            ∙ ap (λ l. xs ++ l) (sym (cond-true (list_any (same x) ys) ys (ys ++ x ∷ []) t))
        | inr f ↦
            cond-false (list_any (same x) (xs ++ ys)) (xs ++ ys) ((xs ++ ys) ++ x ∷ []) (whole ∙ f)
            ∙ append_assoc xs ys (x ∷ [])
            ∙ ap (λ l. xs ++ l) (sym (cond-false (list_any (same x) ys) ys (ys ++ x ∷ []) f))
      ]

-- ---- the texts of strings

module _ (strings text : List ℕ) where
  abbrev at_offset : ℕ → Option (List ℕ)
  at_offset offset = if begins_text strings offset then Some (string_at strings offset) else None

  offset_at : (place : ℕ) → place < length strings → get_or (texts_of strings) place None ≡ at_offset place
  unfolding texts_of
  offset_at place less = get_or-map-range_with_len at_offset 0 (length strings) place place None less (omega arith)

  pub texts_long : length (texts_of strings) ≡ length strings
  unfolding texts_of
  texts_long = length-map-range_with_len at_offset 0 (length strings)

  -- a text is at an offset of strings
  there : (place : ℕ) → IsAt strings text place → slice_get (texts_of strings) place ≡ Some (Some text)
  there place is =
      slice_get-get_or (texts_of strings) place None (omega (arith, is.inside, texts_long))
      ∙ ap Some (offset_at place is.inside ∙ cond-true (begins_text strings place) (Some (string_at strings place)) None is.begins ∙ ap Some (sym is.is))

  is_there : (place : ℕ) → slice_get (texts_of strings) place ≡ Some (Some text) → IsAt strings text place
  is_there place e =
      let inside : place < length strings = omega (arith, slice_get_within (texts_of strings) place (Some text) e, texts_long) in
      let here : at_offset place ≡ Some text = sym (offset_at place inside) ∙ get_or_from_slice_get (texts_of strings) place (Some text) None e in
      elim (cases_Bool (begins_text strings place)) [
        | inl t ↦ record {
          inside = inside;
          begins = t;
          is = sym (same_Some (string_at strings place) text (sym (cond-true (begins_text strings place) (Some (string_at strings place)) None t) ∙ here));
        }
        | inr f ↦ absurd (none-some text (sym (cond-false (begins_text strings place) (Some (string_at strings place)) None f) ∙ here))
      ]

  -- the place of a text is its number among the texts of strings
  pub place_number : (number : ℕ) → IsPlaceBelow strings (length strings) text number → number_in same_place (texts_of strings) (Some text) ≡ number
  place_number zero none = elim (number_cases same_place place_decides (texts_of strings) (Some text)) [
    | inl h ↦ absurd (none h.0 (is_there h.0 h.1).inside (is_there h.0 h.1))
    | inr h ↦ h.0
  ]
  place_number (suc place) is = elim (number_cases same_place place_decides (texts_of strings) (Some text)) [
    | inl h ↦
        let most = number_least same_place place_decides (texts_of strings) (Some text) place (there place is.1) in
        elim (cases_lt h.0 place) [
          | inl less ↦ absurd (is.2 h.0 less (is_there h.0 h.1))
          | inr more ↦ omega (arith, h.2, most, more)
        ]
    | inr h ↦ absurd (h.1 place (there place is.1))
  ]

-- ---- texts that are kept

module _ (k : KeptRecord) (kept : IsKept k) (strings places : List ℕ) (are : ArePlacesBelow k strings (length strings) places) where
  abbrev told : ℕ → Option (List ℕ)
  told n = Some (text_at k n)

  told_apart : (m n : ℕ) → IsNumber (length k.texts) m → IsNumber (length k.texts) n → told m ≡ told n → m ≡ n
  told_apart m n a b e = kept.texts m n a b (same_Some (text_at k m) (text_at k n) e)

  number_is : (n : ℕ) → IsNumber (length k.texts) n → number_in same_place (texts_of strings) (told n) ≡ place_in places n
  number_is zero is = absurd (omega (arith, is.some))
  number_is (suc i) is = place_number strings (text_at k (suc i)) (get_or places i 0) (are.each i (omega (arith, is.within, are.count)))

  -- one text more
  one_more : (order : List ℕ) (n : ℕ) → Each (IsNumber (length k.texts)) order → IsNumber (length k.texts) n
      → numbered_with same_place (texts_of strings ++ map told order) (told n)
      ≡ texts_of strings ++ map told (numbered_after nat_eq order (unplaced places n))
  unfolding numbered_after
  one_more order zero each is = absurd (omega (arith, is.some))
  one_more order (suc i) each is = elim (cases_eq (get_or places i 0) 0) [
    | inl none ↦
        let not_there = none_is same_place place_decides (texts_of strings) (told (suc i)) (number_is (suc i) is ∙ none) in
        with_other same_place place_decides (texts_of strings) (map told order) (told (suc i)) not_there
        ∙ ap (λ l. texts_of strings ++ l)
        (told_with (IsNumber (length k.texts)) told same_place place_decides told_apart order (suc i) each is
        ∙ ap (λ (ns : List ℕ). map told (numbered_after nat_eq order ns))
        (sym (cond-true (nat_eq (get_or places i 0) 0) (suc i ∷ []) [] (eq-eqb (get_or places i 0) 0 none))))
    | inr some ↦
        let found : 0 < number_in same_place (texts_of strings) (told (suc i)) = omega (arith, number_is (suc i) is, some) in
        with_first same_place place_decides (texts_of strings) (map told order) (told (suc i))
        (any_is same_place place_decides (texts_of strings) (told (suc i)) found)
        ∙ ap (λ (ns : List ℕ). texts_of strings ++ map told (numbered_after nat_eq order ns))
        (sym (cond-false (nat_eq (get_or places i 0) 0) (suc i ∷ []) [] (ne_eqb (get_or places i 0) 0 some)))
  ]

  each_unplaced : (n : ℕ) → IsNumber (length k.texts) n → Each (IsNumber (length k.texts)) (unplaced places n)
  each_unplaced zero is = tt
  each_unplaced (suc i) is = elim (cases_Bool (nat_eq (get_or places i 0) 0)) [ inl t ↦ rw t (is, tt) | inr f ↦ rw f tt ]

  -- some texts more
  pub texts_more : (order uses : List ℕ) → Each (IsNumber (length k.texts)) order → Each (IsNumber (length k.texts)) uses
      → numbered_after same_place (texts_of strings ++ map told order) (map told uses)
      ≡ texts_of strings ++ map told (numbered_after nat_eq order (flat_map (unplaced places) uses))
  unfolding numbered_after
  texts_more order [] a b = refl
  texts_more order (n ∷ uses) a b =
      ap (λ l. numbered_after same_place l (map told uses)) (one_more order n a b.0)
      ∙ texts_more (numbered_after nat_eq order (unplaced places n)) uses
      (each_after (IsNumber (length k.texts)) order (unplaced places n) a (each_unplaced n b.0)) b.1
      ∙ ap (λ (ns : List ℕ). texts_of strings ++ map told ns)
      (sym (after-append nat_eq exact_numbers order (unplaced places n) (flat_map (unplaced places) uses)))

  -- the number of a text
  pub number_told : (texts : List ℕ) (n : ℕ) → Each (IsNumber (length k.texts)) texts → IsNumber (length k.texts) n
      → number_in same_place (texts_of strings ++ map told texts) (told n) ≡ text_number (length strings) places texts n
  number_told texts n each is = elim (cases_eq (place_in places n) 0) [
    | inl none ↦
        number_past same_place place_decides (texts_of strings) (map told texts) (told n)
        (none_is same_place place_decides (texts_of strings) (told n) (number_is n is ∙ none))
        ∙ (λ i. after_place (texts_long strings [] i) 0
        (told_number (IsNumber (length k.texts)) told same_place place_decides told_apart texts n each is i))
        ∙ ap (λ p. after_place (length strings) p (number_in nat_eq texts n)) (sym none)
    | inr some ↦
        number-append same_place place_decides (texts_of strings) (map told texts) (told n) (omega (arith, number_is n is, some))
        ∙ number_is n is ∙ sym (after_some (length strings) (place_in places n) (number_in nat_eq texts n) some)
  ]
    where
      after_some : (before place other : ℕ) → (place ≡ 0 → ⊥) → after_place before place other ≡ place
      after_some before zero other some = absurd (some refl)
      after_some before (suc place) other some = refl
