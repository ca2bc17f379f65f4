-- Between two turns of an image the nearest candidate stays.
use Rattle.std.proofs.Common.{◌≡◌, ℕ, zero, suc, ◌+◌, ◌<◌, ◌≤◌, ◌^◌, false, nat_lt, nat_le, ◌&&◌, List, [], ◌∷◌, length}
use Rattle.std.proofs.Common.{map, take, get_or, refl, sym, ap, ◌∙◌, subst, inl, inr, arith, Contains, Option, Some}
use Rattle.std.proofs.Common.{None, slice_get, length-take, lit<}
use Rattle.std.specs.Prelude.{flat_map, MatchOption}
use Rattle.std.specs.Option.{option_map_or}
use Rattle.std.proofs.lemmas.Bool.{cases_lt}
use Rattle.std.proofs.lemmas.Bool.Decides.{nat_tests}
use Rattle.std.proofs.lemmas.List.{get_or-map, get_or-take}
use Rattle.std.proofs.Math.ListN.{length-map}
use Rattle.std.proofs.Math.Facts.{Fits-of_lt}
use Rattle.macho_symbols.proofs.Stands.{stands_below, numbers_fit}
use Rattle.std.proofs.lemmas.List.Elements.{Contains-append_left, Contains-append_right}
use Rattle.std.proofs.lemmas.Option.{slice_get_within, get_or_from_slice_get}
use Rattle.macho_image.specs.Sections.{SectionRecord, sections, is_inside}
use Rattle.macho_symbols.specs.Symbols.{Tuple, candidates, is_in_section}
use Rattle.macho_symbols.specs.Nearest.{is_eligible, IsNearest}
use Rattle.macho_symbols.specs.Rows.{IsRowFor}
use Rattle.macho_symbols.specs.declared.row.Row.{Row}
use Rattle.macho_symbols.specs.Steps.{turns, ends_of, AreSteps, SaysNearest}

-- ---- members

pub mapped : {X Y : Type 0} (f : X → Y) (xs : List X) (x : X) → Contains xs x → Contains (map f xs) (f x)
mapped f xs x h = (h.0, omega (arith, h.1, length-map xs f), get_or-map f xs h.0 x (f x) h.1 ∙ ap f h.2)

in_flat_at : {X : Type 0} (f : X → List ℕ) (xs : List X) (x : X) (n k : ℕ) → k < length xs → get_or xs k x ≡ x → Contains (f x) n → Contains (flat_map f xs) n
in_flat_at f [] x n k l e h = absurd (omega arith)
in_flat_at f (y ∷ ys) x n zero l e h = Contains-append_left (f y) (flat_map f ys) n (subst (λ z. Contains (f z) n) (sym e) h)
in_flat_at f (y ∷ ys) x n (suc k) l e h = Contains-append_right (f y) (flat_map f ys) n (in_flat_at f ys x n k (omega arith) e h)

value_turns : (image : List ℕ) (c : Tuple) → Contains (candidates image) c → Contains (turns image) c.value
value_turns image c h = Contains-append_left (map (λ c. c.value) (candidates image))
    (flat_map ends_of (take 255 (sections image))) c.value (mapped (λ c. c.value) (candidates image) c h)

section_turns : (image : List ℕ) (s : SectionRecord) (n : ℕ) → Contains (take 255 (sections image)) s → Contains (ends_of s) n → Contains (turns image) n
section_turns image s n h k = Contains-append_right (map (λ c. c.value) (candidates image))
    (flat_map ends_of (take 255 (sections image))) n (in_flat_at ends_of (take 255 (sections image)) s n h.0 h.1 h.2 k)

-- ---- what stays

le_same : (v b a : ℕ) → b ≤ a → (b < v → v ≤ a → ⊥) → nat_le v b ≡ nat_le v a
le_same v b a l none = elim (cases_lt b v) [
  | inl k ↦ elim (cases_lt a v) [ inl m ↦ grind (arith, nat_tests) | inr m ↦ absurd (none k m) ]
  | inr k ↦ grind (arith, nat_tests)
]

lt_same : (e b a : ℕ) → b ≤ a → (b < e → e ≤ a → ⊥) → nat_lt b e ≡ nat_lt a e
lt_same e b a l none = elim (cases_lt b e) [
  | inl k ↦ elim (cases_lt a e) [ inl m ↦ grind (arith, nat_tests) | inr m ↦ absurd (none k m) ]
  | inr k ↦ grind (arith, nat_tests)
]

module _ (image : List ℕ) (b a : ℕ) (l : b ≤ a) (none : (t : ℕ) → Contains (turns image) t → b < t → t ≤ a → ⊥) where
  inside_same : (s : SectionRecord) → Contains (take 255 (sections image)) s → is_inside b s ≡ is_inside a s
  inside_same s h =
      let begin = le_same s.addr b a l (none s.addr (section_turns image s s.addr h (0, lit< tt, refl))) in
      let end = lt_same (s.addr + s.size) b a l (none (s.addr + s.size) (section_turns image s (s.addr + s.size) h (1, lit< tt, refl))) in
      λ i. begin i && end i

  section_same : (n : ℕ) → n < 256 → is_in_section image n b ≡ is_in_section image n a
  unfolding is_in_section
  section_same zero h = refl
  section_same (suc i) h = by_section (slice_get (sections image) i) refl
    where
      by_section : (o : Option SectionRecord) → slice_get (sections image) i ≡ o
          → option_map_or (is_inside b) (slice_get (sections image) i) false
          ≡ option_map_or (is_inside a) (slice_get (sections image) i) false
      by_section None e = ap (λ o. option_map_or (is_inside b) o false) e ∙ sym (ap (λ o. option_map_or (is_inside a) o false) e)
      by_section (Some s) e =
          let within = slice_get_within (sections image) i s e in
          let stands : Contains (take 255 (sections image)) s = (
            i,
            omega (arith, within, length-take 255 (sections image)),
            get_or-take 255 (sections image) i s (omega arith) ∙ get_or_from_slice_get (sections image) i s s e,
          ) in
          ap (λ o. option_map_or (is_inside b) o false) e ∙ inside_same s stands ∙ sym (ap (λ o. option_map_or (is_inside a) o false) e)

  stands_same : (c : Tuple) → c.sect < 256 → Contains (candidates image) c → is_eligible image b c ≡ is_eligible image a c
  unfolding is_eligible
  stands_same c n h =
      let value = le_same c.value b a l (none c.value (value_turns image c h)) in
      let section = section_same c.sect n in
      λ i. value i && section i

  nearest_same : ((c : Tuple) → Contains (candidates image) c → c.sect < 256) → (nearest : Option Tuple) → IsNearest image b nearest → IsNearest image a nearest
  nearest_same numbered None is = λ c h. is c (h.0, stands_same c (numbered c h.0) h.0 ∙ h.1)
  nearest_same numbered (Some c) is = record {
    member = (is.member.0, sym (stands_same c (numbered c is.member.0) is.member.0) ∙ is.member.1);
    first = λ d h. is.first d (h.0, stands_same d (numbered d h.0) h.0 ∙ h.1);
  }

-- ---- rows

no_row : Row
no_row = record { start = 0; value = 0; n_strx = 0; sect = 0 }

-- a turn has its row
row_of : (image : List ℕ) (rows : List Row) → AreSteps image rows → (t : ℕ) → t < 2 ^ 64 → Contains (turns image) t
    → (k : ℕ) × (k < length rows) × ((d : Row) → (get_or rows k d).start ≡ t)
row_of image rows are t fits h =
    let there = (are.exactly t).1 (h, fits) in
    let within : there.0 < length rows = omega (arith, there.1, length-map rows (λ r. r.start)) in
    (there.0, within, λ d. sym (get_or-map (λ r. r.start) rows there.0 d t within) ∙ there.2)

pub by_step : (image : List ℕ) (rows : List Row) (address : ℕ) (found : Option Row) → ((i : ℕ) → get_or image i 0 < 256)
    → address < 2 ^ 64 → AreSteps image rows → IsRowFor rows address found
    → MatchOption found (IsNearest image address None) (SaysNearest image address)
by_step image rows address None bytes fits are above = λ c h.
    let below : c.value ≤ address = stands_below image address c h in
    let row = row_of image rows are c.value (omega (arith, below, fits)) (value_turns image c h.0) in
    omega (arith, below, row.2 no_row, above row.0 no_row row.1)
by_step image rows address (Some row) bytes fits are is =
    let here : get_or rows is.at row ≡ row = get_or_from_slice_get rows is.at row row is.stands in
    let within = slice_get_within rows is.at row is.stands in
    let says : SaysNearest image row.start row = subst (λ r. SaysNearest image r.start r) here (are.each is.at row within) in
    let numbered = numbers_fit image (λ i. Fits-of_lt (bytes i)) in
    (says.0, nearest_same image row.start address is.not_above (no_turn here within) numbered says.0 says.1, says.2)
  where
    no_turn : get_or rows is.at row ≡ row → is.at < length rows → (t : ℕ) → Contains (turns image) t → row.start < t → t ≤ address → ⊥
    no_turn here within t turn after before =
        let there = row_of image rows are t (omega (arith, before, fits)) turn in
        elim (cases_lt is.at there.0) [
          | inl k ↦ omega (arith, before, there.2 row, is.others there.0 row k there.1)
          | inr k ↦ elim (cases_lt there.0 is.at) [
            | inl m ↦ omega (arith, after, there.2 row, are.rising there.0 is.at row m within, ap (λ (r : Row). r.start) here)
            | inr m ↦
                let same : there.0 ≡ is.at = omega arith in
                omega (arith, after, there.2 row, ap (λ n. (get_or rows n row).start) same, ap (λ (r : Row). r.start) here)
          ]
        ]
