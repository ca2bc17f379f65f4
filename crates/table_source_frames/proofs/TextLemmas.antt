-- The texts of a table: those of the strings, and the others after them.
use Rattle.std.proofs.Common.{◌≡◌, ℕ, zero, suc, ◌+◌, ◌-◌, ◌<◌, ◌≤◌, List, [], ◌∷◌, ◌++◌, length, drop, refl, sym, ap, ◌∙◌}
use Rattle.std.proofs.Common.{arith, Option, Some, None, slice_get, cond, inl, inr, length-append}
use Rattle.std.specs.Prelude.{filter_map, flat_map, map}
use Rattle.std.specs.List.{range_with_len}
use Rattle.std.proofs.lemmas.Bool.{cases_cond}
use Rattle.std.proofs.lemmas.List.{append_assoc, append-nil, drop_at, get_or-map}
use Rattle.std.proofs.lemmas.List.FromFn.{length-range_with_len, get_or-range_with_len}
use Rattle.std.proofs.lemmas.Option.{none-some, same_Some, slice_get_within, get_or_from_slice_get}
use Rattle.std.proofs.Math.ListN.{length-map}
use Rattle.table_source_frames.specs.LineText.{begins_text, innermost_name, others_of, parts_of, path_texts, same_place}
use Rattle.table_source_frames.specs.LineText.{string_at, texts_in, texts_of}
use Rattle.table_source_frames.specs.Numbering.{numbered_after}
use Rattle.table_source_frames.specs.Steps.{StepRecord}
use Rattle.table_source_frames.proofs.NumberingLemmas.{with_cases}
use Rattle.table_source_frames.proofs.SameLemmas.{place_decides}

abbrev Place : Type 0
Place = Option (List ℕ)

pub length-texts_of : (strings : List ℕ) → length (texts_of strings) ≡ length strings
unfolding texts_of
length-texts_of strings =
    length-map (range_with_len 0 (length strings)) _ ∙ length-range_with_len 0 (length strings)

-- the text at an offset of the strings
pub string_there : (strings : List ℕ) (k : ℕ) (text : List ℕ) → slice_get (texts_of strings) k ≡ Some (Some text) → text ≡ string_at strings k
unfolding texts_of
string_there strings k text is =
    let f : ℕ → Place = λ offset. cond (begins_text strings offset) (Some (string_at strings offset)) None in
    let within : k < length strings = omega (arith, slice_get_within (texts_of strings) k (Some text) is, length-texts_of strings) in
    let there : Some text ≡ f k =
    sym (get_or_from_slice_get (texts_of strings) k (Some text) None is)
    ∙ get_or-map f (range_with_len 0 (length strings)) k 0 None (omega (arith, within, length-range_with_len 0 (length strings)))
    ∙ ap f (get_or-range_with_len 0 (length strings) k 0 within ∙ omega arith) in
    elim (cases_cond (begins_text strings k) (Some (string_at strings k)) None (Some text) there) [
      | inl e ↦ same_Some text (string_at strings k) e
      | inr e ↦ absurd (none-some text (sym e))
    ]

-- ---- the others

-- more texts are numbered: some of them come after those that have a number
after_texts : (places : List Place) (texts : List (List ℕ))
    → (more : List (List ℕ)) × (numbered_after same_place places (map (λ t. Some t) texts) ≡ places ++ map (λ t. Some t) more)
unfolding numbered_after
after_texts places [] = ([], sym (append-nil places))
after_texts places (t ∷ texts) = elim (with_cases same_place place_decides places (Some t)) [
  | inl h ↦
      let rest = after_texts places texts in
      (rest.0, ap (λ (ps : List Place). numbered_after same_place ps (map (λ (x : List ℕ). Some x) texts)) h.1 ∙ rest.1)
  | inr h ↦
      let rest = after_texts (places ++ Some t ∷ []) texts in (
        t ∷ rest.0,
        ap (λ (ps : List Place). numbered_after same_place ps (map (λ (x : List ℕ). Some x) texts)) h.1 ∙ rest.1
            ∙ append_assoc places (Some t ∷ []) (map (λ (x : List ℕ). Some x) rest.0),
      )
]

only_texts : (texts : List (List ℕ)) → filter_map (λ (t : Place). t) (map (λ (x : List ℕ). Some x) texts) ≡ texts
only_texts [] = refl
only_texts (t ∷ texts) = ap (λ (ts : List (List ℕ)). t ∷ ts) (only_texts texts)

get_front : {A : Type 0} (xs ys : List A) (k : ℕ) → k < length xs → slice_get (xs ++ ys) k ≡ slice_get xs k
get_front [] ys k l = absurd (omega arith)
get_front (x ∷ xs) ys zero l = refl
get_front (x ∷ xs) ys (suc k) l = get_front xs ys k (omega arith)

get_back : {A : Type 0} (xs ys : List A) (k n : ℕ) → length xs ≡ n → n ≤ k → slice_get (xs ++ ys) k ≡ slice_get ys (k - n)
get_back [] ys k n is past =
    let same : k ≡ k - n = omega (arith, is) in
    ap (slice_get ys) same
get_back (x ∷ xs) ys zero n is past = absurd (omega (arith, is))
get_back (x ∷ xs) ys (suc k) n is past =
    let less : length xs ≡ n - 1 = omega (arith, is) in
    let same : k - (n - 1) ≡ suc k - n = omega (arith, is) in
    get_back xs ys k (n - 1) less (omega (arith, is)) ∙ ap (slice_get ys) same

module _ (strings : List ℕ) (steps : List StepRecord) where
  -- the texts are those of the strings, and the others
  pub texts_are : (parts_of strings steps).texts ≡ texts_of strings ++ map (λ t. Some t) (others_of (parts_of strings steps))
  unfolding texts_in
  texts_are =
      let all : List (List ℕ) = filter_map innermost_name (parts_of strings steps).scopes ++ flat_map path_texts (parts_of strings steps).files in
      let after = after_texts (texts_of strings) all in
      let here : others_of (parts_of strings steps) ≡ after.0 =
      ap (λ (ps : List Place). filter_map (λ (t : Place). t) (drop (length strings) ps)) after.1
      ∙ ap (filter_map (λ (t : Place). t)) (drop_at (texts_of strings) (map (λ (x : List ℕ). Some x) after.0) (length strings) (length-texts_of strings))
      ∙ only_texts after.0 in
      after.1 ∙ ap (λ (ts : List (List ℕ)). texts_of strings ++ map (λ (x : List ℕ). Some x) ts) (sym here)

  pub length-texts : length (parts_of strings steps).texts ≡ length strings + length (others_of (parts_of strings steps))
  length-texts = omega (
    arith,
    ap length texts_are,
    length-append (texts_of strings) (map (λ (x : List ℕ). Some x) (others_of (parts_of strings steps))),
    length-texts_of strings,
    length-map (others_of (parts_of strings steps)) (λ (x : List ℕ). Some x),
  )

  -- a text before the end of the strings is one of theirs
  pub is_string : (k : ℕ) (text : List ℕ) → k < length strings → slice_get (parts_of strings steps).texts k ≡ Some (Some text) → text ≡ string_at strings k
  is_string k text within is =
      string_there strings k text
      (sym (get_front (texts_of strings) (map (λ (x : List ℕ). Some x) (others_of (parts_of strings steps))) k (omega (arith, within, length-texts_of strings)))
      ∙ ap (λ (ps : List Place). slice_get ps k) (sym texts_are) ∙ is)

  -- one after it is another
  pub is_other : (k : ℕ) (text : List ℕ) → length strings ≤ k → slice_get (parts_of strings steps).texts k ≡ Some (Some text)
      → slice_get (others_of (parts_of strings steps)) (k - length strings) ≡ Some text
  is_other k text past is =
      some_of (others_of (parts_of strings steps)) (k - length strings)
      (sym (get_back (texts_of strings) (map (λ (x : List ℕ). Some x) (others_of (parts_of strings steps))) k (length strings) (length-texts_of strings) past)
      ∙ ap (λ (ps : List Place). slice_get ps k) (sym texts_are) ∙ is)
    where
      some_of : (texts : List (List ℕ)) (j : ℕ) → slice_get (map (λ (x : List ℕ). Some x) texts) j ≡ Some (Some text) → slice_get texts j ≡ Some text
      some_of [] j e = absurd (none-some (Some text) e)
      some_of (t ∷ texts) zero e = ap Some (same_Some t text (same_Some (Some t) (Some text) e))
      some_of (t ∷ texts) (suc j) e = some_of texts j e
