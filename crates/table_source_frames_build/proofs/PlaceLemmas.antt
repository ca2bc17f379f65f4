-- Texts among the strings of a slice.
use Rattle.std.proofs.Common.{◌≡◌, ◌≢◌, ℕ, zero, suc, ◌+◌, ◌-◌, ◌<◌, ◌≤◌, ◌⊎◌, nat_eq, true, List, length, get_or, drop}
use Rattle.std.proofs.Common.{refl, sym, ap, ◌∙◌, inl, inr, arith, subst, length-drop, not, ◌&&◌}
use Rattle.std.specs.List.{position_or_len}
use Rattle.std.proofs.lemmas.Bool.{and_from, and_parts, cases_eq, cases_lt, eqb-true, eq-eqb, or_cases, or_left, or_right}
use Rattle.std.proofs.lemmas.List.{get_or-drop, length-take}
use Rattle.std.proofs.lemmas.List.Sums.{fails_before_first, passes_at_first, prefix_len-le-length}
use Rattle.table_source_frames.specs.LineText.{begins_string, begins_text, string_at}
use Rattle.table_source_frames_build.specs.Places.{IsAt, IsNoted, IsPlaceBelow}

-- a string begins at an offset; or the offset is behind the `_` that begins one
abbrev Begins : List ℕ → ℕ → Type 0
Begins strings place = begins_string strings place ≡ true

abbrev IsPastScore : List ℕ → ℕ → Type 0
IsPastScore strings zero = ⊥
IsPastScore strings (suc before) = (get_or strings before 0 ≡ 95) × Begins strings before

text_cases : (strings : List ℕ) (place : ℕ) → begins_text strings place ≡ true → Begins strings place ⊎ IsPastScore strings place
text_cases strings zero e = inl refl
text_cases strings (suc before) e =
    elim (or_cases (nat_eq (get_or strings before 0) 0) (nat_eq (get_or strings before 0) 95 && begins_string strings before) e) [
      | inl t ↦ inl t
      | inr t ↦ let both = and_parts (nat_eq (get_or strings before 0) 95) (begins_string strings before) t in
          inr (eqb-true (get_or strings before 0) 95 both.0, both.1)
    ]

text_begins : (strings : List ℕ) (place : ℕ) → Begins strings place ⊎ IsPastScore strings place → begins_text strings place ≡ true
text_begins strings zero e = refl
text_begins strings (suc before) (inl t) = or_left (nat_eq (get_or strings before 0) 0) (nat_eq (get_or strings before 0) 95 && begins_string strings before) t
text_begins strings (suc before) (inr t) =
    or_right (nat_eq (get_or strings before 0) 0) (nat_eq (get_or strings before 0) 95 && begins_string strings before)
    (and_from (nat_eq (get_or strings before 0) 95) (begins_string strings before) (eq-eqb (get_or strings before 0) 95 t.0) t.1)

-- a name at an offset makes one more
pub noted : (strings text : List ℕ) (place old new : ℕ) → place < length strings → Begins strings place ⊎ IsPastScore strings place
    → IsPlaceBelow strings place text old → IsNoted text (string_at strings place) place old new → IsPlaceBelow strings (suc place) text new
noted strings text place old new inside begins before h = elim h [
  | inl now ↦ subst (IsPlaceBelow strings (suc place) text) (sym now.0) (
    omega arith,
    record { inside = inside; begins = text_begins strings place begins; is = now.2 },
    subst (IsPlaceBelow strings place text) now.1 before,
  )
  | inr same ↦ subst (IsPlaceBelow strings (suc place) text) (sym same.0) (stays old before same.1)
]
  where
    stays : (number : ℕ) → IsPlaceBelow strings place text number → (0 < number) ⊎ (text ≢ string_at strings place)
        → IsPlaceBelow strings (suc place) text number
    stays (suc found) is why = (omega (arith, is.0), is.1, is.2)
    stays zero none (inl some) = absurd (omega arith)
    stays zero none (inr other) = λ at less here. elim (cases_eq at place) [
      | inl e ↦ other (here.is ∙ ap (string_at strings) e)
      | inr e ↦ none at (omega arith) here
    ]

-- no text is at further offsets
pub none_further : (strings text : List ℕ) (limit further number : ℕ) → limit ≤ further
    → ((place : ℕ) → limit ≤ place → place < further → IsAt strings text place → ⊥)
    → IsPlaceBelow strings limit text number → IsPlaceBelow strings further text number
none_further strings text limit further (suc found) more none is = (omega (arith, is.0), is.1, is.2)
none_further strings text limit further zero more none is = λ place less here. elim (cases_lt place limit) [
  | inl before ↦ is place before here
  | inr past ↦ none place past less here
]

-- the bytes of a string
module _ (strings : List ℕ) (from : ℕ) (begins : Begins strings from) (inside : from < length strings) where
  abbrev end : ℕ
  end = from + position_or_len (λ (b : ℕ). nat_eq b 0) (drop from strings)

  -- how long it is
  within : end ≤ length strings
  within = omega (arith, prefix_len-le-length (λ (b : ℕ). not (nat_eq b 0)) (drop from strings), length-drop from strings)

  pub string_end : end ≡ from + length (string_at strings from)
  string_end = omega (arith, length-take (position_or_len (λ (b : ℕ). nat_eq b 0) (drop from strings)) (drop from strings), within, length-drop from strings)

  no_nul : (place : ℕ) → from ≤ place → place < end → get_or strings place 0 ≢ 0
  no_nul place after before e =
      let back : from + (place - from) ≡ place = omega arith in
      let fails = fails_before_first (λ (b : ℕ). nat_eq b 0) (drop from strings) (place - from) 0 (omega arith) in
      let at : get_or (drop from strings) (place - from) 0 ≡ 0 = get_or-drop from strings (place - from) 0 ∙ ap (λ n. get_or strings n 0) back ∙ e in
      cc (fails, eq-eqb (get_or (drop from strings) (place - from) 0) 0 at)

  nul : end < length strings → get_or strings end 0 ≡ 0
  nul less =
      sym (get_or-drop from strings (position_or_len (λ (b : ℕ). nat_eq b 0) (drop from strings)) 0)
      ∙ eqb-true _ 0 (passes_at_first (λ (b : ℕ). nat_eq b 0) (drop from strings) 0 (omega (arith, less, length-drop from strings)))

  -- the next string begins behind its NUL
  pub next_begins : (next : ℕ) → next ≡ from + length (string_at strings from) + 1 → next < length strings → Begins strings next
  next_begins zero is less = absurd (omega arith)
  next_begins (suc before) is less =
      let here : before ≡ end = omega (arith, is, string_end) in
      eq-eqb (get_or strings before 0) 0 (ap (λ n. get_or strings n 0) here ∙ nul (omega (arith, less, here)))

  -- a text in it is at its second byte, behind its `_`
  only_second : (text : List ℕ) (place : ℕ) → from < place → place ≤ end → IsAt strings text place
      → (place ≡ suc from) × (get_or strings from 0 ≡ 95)
  only_second text zero after before here = absurd (omega arith)
  only_second text (suc last) after before here = elim (text_cases strings (suc last) here.begins) [
    | inl nul ↦ absurd (no_nul last (omega arith) (omega arith) (eqb-true (get_or strings last 0) 0 nul))
    | inr score ↦ behind last after before score
  ]
    where
      behind : (last : ℕ) → from < suc last → suc last ≤ end → (get_or strings last 0 ≡ 95) × Begins strings last
          → (suc last ≡ suc from) × (get_or strings from 0 ≡ 95)
      behind last after before score = elim (cases_eq last from) [
        | inl e ↦ (ap suc e, ap (λ n. get_or strings n 0) (sym e) ∙ score.0)
        | inr e ↦ absurd (further last after before e score.1)
      ]
        where
          further : (last : ℕ) → from < suc last → suc last ≤ end → (last ≡ from → ⊥) → Begins strings last → ⊥
          further zero after before e begins = omega arith
          further (suc c) after before e begins = no_nul c (omega arith) (omega arith) (eqb-true (get_or strings c 0) 0 begins)

  -- the places of a text after this string
  module _ (text : List ℕ) (next old now new : ℕ) (is : next ≡ from + length (string_at strings from) + 1)
      (before : IsPlaceBelow strings from text old) (first : IsNoted text (string_at strings from) from old now) where
    pub two_noted : get_or strings from 0 ≡ 95 → suc from < length strings
        → IsNoted text (string_at strings (suc from)) (suc from) now new → IsPlaceBelow strings next text new
    two_noted score less second =
        let longer : from < end = more in
        none_further strings text (suc (suc from)) next new (omega (arith, is, string_end, longer))
        (λ place past less here. omega (arith, (only_second text place (omega arith) (omega (arith, is, string_end)) here).0))
        (noted strings text (suc from) now new less (inr (score, begins)) (noted strings text from old now inside (inl begins) before first) second)
      where
        more : from < end
        more = elim (cases_lt from end) [
          | inl less ↦ less
          | inr past ↦
              let same : end ≡ from = omega (arith, past) in
              absurd (omega (arith, score, sym (ap (λ n. get_or strings n 0) same) ∙ nul (omega (arith, same, inside))))
        ]

    pub one_noted : ((get_or strings from 0 ≡ 95) × (suc from < length strings) → ⊥) → new ≡ now → IsPlaceBelow strings next text new
    one_noted other same =
        none_further strings text (suc from) next new (omega (arith, is, string_end))
        (λ place past less here.
        let second = only_second text place (omega arith) (omega (arith, is, string_end)) here in
        other (second.1, omega (arith, second.0, here.inside)))
        (subst (IsPlaceBelow strings (suc from) text) (sym same) (noted strings text from old now inside (inl begins) before first))
