-- The first parts of a file taken, one more at a time.
use Rattle.std.proofs.Common.{◌≡◌, ℕ, ◌+◌, Result, Ok, Err, List, [], ◌∷◌, ◌++◌, length, take, drop, Some, slice_get, refl, sym, ap, ◌∙◌, arith, length-append}
use Rattle.std.specs.Prelude.{OnErr, filter}
use Rattle.std.proofs.lemmas.List.{take-append-drop}
use Rattle.std.proofs.lemmas.Grind.{take_at_read}
use Rattle.std.proofs.lemmas.List.Elements.{filter-append}
use Rattle.std.proofs.lemmas.Option.{get_or_from_slice_get, slice_get_within}
use Rattle.std.proofs.Math.Seq.{take-append_seam}
use Rattle.archive_core.specs.Content.{Operations}
use Rattle.archive_image_admission.specs.File.{is_admissible, parts}
use Rattle.archive_image_admission.specs.Take.{admitted, taken_rows, HoldsFirstParts}
use Rattle.archive_image_admission.specs.declared.taken.Taken.{Taken}
use Rattle.archive_image_admission.proofs.Rows.{admitted-append, taken_rows-append}

-- the first i parts are taken, and these are their rows
pub record IsTaking (xs : List (List ℕ)) (i : ℕ) (old new : Operations) (rows : List Taken) : Type 0 where
  pub content : new ≡ admitted old (filter is_admissible (take i xs))
  pub rows_are : rows ≡ taken_rows old (take i xs)

pub taking_none : (xs : List (List ℕ)) (o : Operations) (rows : List Taken) → rows ≡ [] → IsTaking xs 0 o o rows
unfolding taken_rows
taking_none xs o rows is = record { content = refl; rows_are = is }

pub front_more : (xs : List (List ℕ)) (i : ℕ) (x : List ℕ) → slice_get xs i ≡ Some x → take (i + 1) xs ≡ take i xs ++ x ∷ []
front_more xs i x is =
    (take_at_read xs i x (slice_get_within xs i x is)).1
    ∙ ap (λ y. take i xs ++ y ∷ []) (get_or_from_slice_get xs i x x is)

pub content_more : (xs : List (List ℕ)) (i : ℕ) (x : List ℕ) (old mid new : Operations) (rows : List Taken)
    → IsTaking xs i old mid rows → slice_get xs i ≡ Some x → new ≡ admitted mid (filter is_admissible (x ∷ []))
    → new ≡ admitted old (filter is_admissible (take (i + 1) xs))
content_more xs i x old mid new rows before is new_is =
    new_is ∙ ap (λ (p : Operations). admitted p (filter is_admissible (x ∷ []))) before.content
    ∙ sym (admitted-append old (filter is_admissible (take i xs)) (filter is_admissible (x ∷ [])))
    ∙ ap (admitted old) (sym (filter-append is_admissible (take i xs) (x ∷ [])))
    ∙ ap (λ (zs : List (List ℕ)). admitted old (filter is_admissible zs)) (sym (front_more xs i x is))

pub taking_more : (xs : List (List ℕ)) (i : ℕ) (x : List ℕ) (old mid new : Operations) (rows more : List Taken) (row : Taken)
    → IsTaking xs i old mid rows → slice_get xs i ≡ Some x → new ≡ admitted mid (filter is_admissible (x ∷ [])) → row
    ∷ [] ≡ taken_rows mid (x ∷ []) → more ≡ rows ++ row ∷ []
    → IsTaking xs (i + 1) old new more
taking_more xs i x old mid new rows more row before is new_is row_is more_is = record {
  content = content_more xs i x old mid new rows before is new_is;
  rows_are =
      rw (front_more xs i x is, taken_rows-append old (take i xs) (x ∷ []), ← before.rows_are, ← before.content)
      (rw (← row_is) more_is);
}

-- what a filter keeps of the first i begins what it keeps of all
kept_front : (xs : List (List ℕ)) (i : ℕ) → filter is_admissible xs ≡ filter is_admissible (take i xs) ++ filter is_admissible (drop i xs)
kept_front xs i = ap (filter is_admissible) (sym (take-append-drop i xs)) ∙ filter-append is_admissible (take i xs) (drop i xs)

in_part : (file : List ℕ) (i : ℕ) (old new : Operations)
    → new ≡ admitted old (filter is_admissible (take i (parts file))) → HoldsFirstParts file old new
in_part file i old new is =
    let kept = filter is_admissible (take i (parts file)) in
    let rest = filter is_admissible (drop i (parts file)) in
    let whole = kept_front (parts file) i in
    record {
      count = length kept;
      some = omega (arith, ap length whole, length-append kept rest);
      content = is ∙ ap (admitted old) (sym (ap (take (length kept)) whole ∙ take-append_seam kept rest));
    }

module _ (file : List ℕ) where
  pub stopped_before : (i : ℕ) (old mid new : Operations) (rows : List Taken) → IsTaking (parts file) i old mid rows → new ≡ mid → HoldsFirstParts file old new
  stopped_before i old mid new rows before same = in_part file i old new (same ∙ before.content)

  pub stopped_behind : (i : ℕ) (x : List ℕ) (old mid new : Operations) (rows : List Taken)
      → IsTaking (parts file) i old mid rows → slice_get (parts file) i ≡ Some x
      → new ≡ admitted mid (filter is_admissible (x ∷ [])) → HoldsFirstParts file old new
  stopped_behind i x old mid new rows before is new_is =
      in_part file (i + 1) old new (content_more (parts file) i x old mid new rows before is new_is)

-- what holds whether or not a result is an error
pub errs : {T E P : Type 0} (r : Result T E) → P → OnErr r P
errs (Ok x) p = tt
errs (Err e) p = p
