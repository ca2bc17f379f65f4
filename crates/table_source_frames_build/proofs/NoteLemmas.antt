-- The places of kept texts among the strings of a slice.
use Rattle.std.proofs.Common.{◌≡◌, ◌≢◌, ℕ, zero, suc, ◌+◌, ◌-◌, ◌<◌, ◌≤◌, nat_eq, List, [], ◌∷◌, length, get_or, set, true}
use Rattle.std.proofs.Common.{refl, sym, ap, ◌∙◌, inl, inr, arith, subst}
use Rattle.std.proofs.lemmas.Bool.{cases_eq, cond-false, cond-true, eq-eqb, ne_eqb}
use Rattle.std.proofs.lemmas.List.{get_or-set_other, get_or-set_same, length-set}
use Rattle.table_source_frames.specs.LineText.{begins_string, string_at}
use Rattle.table_source_frames_build.specs.FirstUses.{some_number}
use Rattle.table_source_frames_build.specs.Kept.{IsKept, IsText, KeptRecord, text_at}
use Rattle.table_source_frames_build.specs.Numbering.{IsNumber}
use Rattle.table_source_frames_build.specs.PartBytes.{after_place, place_in}
use Rattle.table_source_frames_build.specs.PartNumbers.{unplaced}
use Rattle.table_source_frames_build.specs.Places.{AreNoted, ArePlacesBelow, IsPlaceBelow}
use Rattle.table_source_frames_build.proofs.PlaceLemmas.{one_noted, two_noted}

-- ---- a name at an offset

module _ (k : KeptRecord) (kept : IsKept k) (name : List ℕ) (place : ℕ) (old : List ℕ) (count : length old ≡ length k.texts) where
  number_here : (i : ℕ) → i < length old → IsNumber (length k.texts) (suc i)
  number_here i less = record { some = omega arith; within = omega (arith, less, count) }

  -- it is not kept
  pub note_none : ((n : ℕ) → IsNumber (length k.texts) n → text_at k n ≡ name → ⊥) → AreNoted k name place old old
  note_none none = record { count = refl; each = λ i less. inr (refl, inr (none (suc i) (number_here i less))) }

  module _ (number : ℕ) (is : IsText k number name) where
    other_text : (i : ℕ) → i < length old → (suc i ≡ number → ⊥) → text_at k (suc i) ≡ name → ⊥
    other_text i less apart e = apart (kept.texts (suc i) number (number_here i less) is.is_number (e ∙ sym is.is))

    -- it has a place
    pub note_has : get_or old (number - 1) 0 ≢ 0 → AreNoted k name place old old
    note_has some = record {
      count = refl;
      each = λ i less. elim (cases_eq (suc i) number) [
        | inl same ↦
            let at : get_or old (number - 1) 0 ≡ get_or old i 0 = ap (λ n. get_or old n 0) (omega (arith, same)) in
            inr (refl, inl (omega (arith, at, some)))
        | inr apart ↦ inr (refl, inr (other_text i less apart))
      ];
    }

    -- it gets this one
    pub note_now : (value : ℕ) → value ≡ suc place → get_or old (number - 1) 0 ≡ 0 → AreNoted k name place old (set old (number - 1) value)
    note_now value is_value none = record {
      count = length-set old (number - 1) value;
      each = λ i less. elim (cases_eq (suc i) number) [
        | inl same ↦
            let at : i ≡ number - 1 = omega (arith, same) in
            let within : number - 1 < length old = omega (arith, less, at) in
            inl (
              ap (λ n. get_or (set old (number - 1) value) n 0) at ∙ get_or-set_same old (number - 1) value 0 within ∙ is_value,
              ap (λ n. get_or old n 0) at ∙ none,
              ap (text_at k) same ∙ is.is,
            )
        | inr apart ↦
            inr (
              get_or-set_other old (number - 1) i value 0 (λ e. apart (omega (arith, e, is.is_number.some))),
              inr (other_text i less apart),
            )
      ];
    }

-- ---- a string

module _ (k : KeptRecord) (strings : List ℕ) (from next : ℕ) (old now : List ℕ) (begins : begins_string strings from ≡ true)
    (inside : from < length strings) (is : next ≡ from + length (string_at strings from) + 1)
    (are : ArePlacesBelow k strings from old) (first : AreNoted k (string_at strings from) from old now) where
  -- that begins with a `_`
  pub string_two : (new : List ℕ) (second : ℕ) → second ≡ suc from → get_or strings from 0 ≡ 95 → second < length strings
      → AreNoted k (string_at strings second) second now new → ArePlacesBelow k strings next new
  string_two new second is_second score less noted = record {
    count = noted.count ∙ first.count ∙ are.count;
    each = λ i within.
        let of_now : i < length now = omega (arith, within, noted.count) in
        let of_old : i < length old = omega (arith, of_now, first.count) in
        two_noted strings from begins inside (text_at k (suc i)) next (get_or old i 0) (get_or now i 0) (get_or new i 0) is
        (are.each i of_old) (first.each i of_old) score (omega (arith, less, is_second))
        ((subst (λ at. AreNoted k (string_at strings at) at now new) is_second noted).each i of_now);
  }

  -- that does not
  pub string_one : ((get_or strings from 0 ≡ 95) × (suc from < length strings) → ⊥) → ArePlacesBelow k strings next now
  string_one other = record {
    count = first.count ∙ are.count;
    each = λ i within.
        let of_old : i < length old = omega (arith, within, first.count) in
        one_noted strings from begins inside (text_at k (suc i)) next (get_or old i 0) (get_or now i 0) (get_or now i 0) is
        (are.each i of_old) (first.each i of_old) other refl;
  }

-- ---- all strings

below_none : (strings text : List ℕ) (number : ℕ) → number ≡ 0 → IsPlaceBelow strings 0 text number
below_none strings text number none = subst (IsPlaceBelow strings 0 text) (sym none) (λ place less here. omega (arith, less))

pub none_placed : (k : KeptRecord) (strings places : List ℕ) → length places ≡ length k.texts
    → ((i : ℕ) → i < length places → get_or places i 0 ≡ 0) → ArePlacesBelow k strings 0 places
none_placed k strings places count zeros = record {
  count = count;
  each = λ i less. below_none strings (text_at k (suc i)) (get_or places i 0) (zeros i less);
}

below_end : (strings text : List ℕ) (limit number : ℕ) → length strings ≤ limit → IsPlaceBelow strings limit text number
    → IsPlaceBelow strings (length strings) text number
below_end strings text limit zero past none = λ place less here. none place (omega (arith, less, past)) here
below_end strings text limit (suc place) past is = (is.1.inside, is.1, is.2)

pub all_placed : (k : KeptRecord) (strings places : List ℕ) (limit : ℕ) → length strings ≤ limit → ArePlacesBelow k strings limit places
    → ArePlacesBelow k strings (length strings) places
all_placed k strings places limit past are = record {
  count = are.count;
  each = λ i less. below_end strings (text_at k (suc i)) limit (get_or places i 0) past (are.each i less);
}

-- ---- numbers of texts

pub after_some : (before place other : ℕ) → place ≢ 0 → place ≡ after_place before place other
after_some before zero other some = absurd (some refl)
after_some before (suc place) other some = refl

pub after_other : (before place other : ℕ) → place ≡ 0 → other ≢ 0 → before + other ≡ after_place before place other
after_other before zero zero none some = absurd (some refl)
after_other before zero (suc other) none some = refl
after_other before (suc place) other none some = absurd (omega (arith, none))

pub after_neither : (before place other : ℕ) → place ≡ 0 → other ≡ 0 → 0 ≡ after_place before place other
after_neither before zero zero none neither = refl
after_neither before zero (suc other) none neither = absurd (omega (arith, neither))
after_neither before (suc place) other none neither = absurd (omega (arith, none))

-- what equals a number that is 0
pub place_none : (read is : ℕ) → read ≡ is → read ≡ 0 → is ≡ 0
place_none read is e none = sym e ∙ none

pub unplaced_some : (places : List ℕ) (n : ℕ) → place_in places n ≢ 0 → unplaced places n ≡ []
unplaced_some places zero some = absurd (some refl)
unplaced_some places (suc i) some = cond-false (nat_eq (get_or places i 0) 0) (suc i ∷ []) [] (ne_eqb (get_or places i 0) 0 some)

pub unplaced_none : (places : List ℕ) (n : ℕ) → place_in places n ≡ 0 → some_number n ≡ unplaced places n
unplaced_none places zero none = refl
unplaced_none places (suc i) none = sym (cond-true (nat_eq (get_or places i 0) 0) (suc i ∷ []) [] (eq-eqb (get_or places i 0) 0 none))
