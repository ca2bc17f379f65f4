-- What a taking that stopped leaves, and what it makes when it is asked for again.
use Rattle.std.proofs.Common.{◌≡◌, ℕ, List, ◌++◌, map, take, drop, sym, ap, ◌∙◌, subst, inl, inr}
use Rattle.std.specs.Prelude.{◌↔◌, Contains}
use Rattle.std.proofs.lemmas.List.{take-append-drop}
use Rattle.std.proofs.lemmas.List.Elements.{Contains-append_left, Contains-append_right, Contains-append_cases}
use Rattle.archive_core.specs.Record.{admission_record}
use Rattle.archive_core.specs.Content.{Operations, IsMade, IsBelow}
use Rattle.archive_core.proofs.Members.{in_map, to_map}
use Rattle.archive_core.proofs.Taken.{below_taken, taken_in_any_order}
use Rattle.archive_image_admission.specs.File.{admissible}
use Rattle.archive_image_admission.specs.Take.{admitted, HoldsFirstParts}
use Rattle.archive_image_admission.proofs.Rows.{admitted-append}

pub admitted_alike : (o : Operations) (images others : List (List ℕ)) → IsMade o
    → ((image : List ℕ) → Contains images image ↔ Contains others image) → admitted o images ≡ admitted o others
admitted_alike o images others is same =
    taken_in_any_order o (map admission_record images) (map admission_record others) is
    (λ r. (carried images others (λ image. (same image).0) r, carried others images (λ image. (same image).1) r))
  where
    carried : (xs ys : List (List ℕ)) → ((image : List ℕ) → Contains xs image → Contains ys image) → (r : List ℕ)
        → Contains (map admission_record xs) r → Contains (map admission_record ys) r
    carried xs ys all r has =
        let (image, there, is) = in_map admission_record xs r has in
        subst (Contains (map admission_record ys)) (sym is) (to_map admission_record ys image (all image there))

-- a content is below that with images more
pub grows : (o : Operations) (images : List (List ℕ)) → IsBelow o (admitted o images)
grows o images = below_taken o (map admission_record images)

split : (o : Operations) (k : ℕ) (xs : List (List ℕ)) → admitted (admitted o (take k xs)) (drop k xs) ≡ admitted o xs
split o k xs = sym (admitted-append o (take k xs) (drop k xs)) ∙ ap (admitted o) (take-append-drop k xs)

pub above_old : (file : List ℕ) (o mid : Operations) → HoldsFirstParts file o mid → IsBelow o mid
above_old file o mid part = subst (IsBelow o) (sym part.content) (grows o (take part.count (admissible file)))

pub below_asked : (file : List ℕ) (o mid : Operations) → HoldsFirstParts file o mid → IsBelow mid (admitted o (admissible file))
below_asked file o mid part =
    subst (λ (p : Operations). IsBelow p (admitted o (admissible file))) (sym part.content)
    (subst (IsBelow (admitted o (take part.count (admissible file)))) (split o part.count (admissible file))
    (grows (admitted o (take part.count (admissible file))) (drop part.count (admissible file))))

twice : (xs : List (List ℕ)) (k : ℕ) (image : List ℕ) → Contains (take k xs ++ xs) image → Contains xs image
twice xs k image has = elim (Contains-append_cases (take k xs) xs image has) [
  | inl first ↦ rw (take-append-drop k xs) at (Contains-append_left (take k xs) (drop k xs) image first)
  | inr rest ↦ rest
]

pub asked_again : (file : List ℕ) (o mid : Operations) → IsMade o → HoldsFirstParts file o mid → admitted mid (admissible file) ≡ admitted o (admissible file)
asked_again file o mid is part =
    ap (λ (p : Operations). admitted p (admissible file)) part.content
    ∙ sym (admitted-append o (take part.count (admissible file)) (admissible file))
    ∙ admitted_alike o (take part.count (admissible file) ++ admissible file) (admissible file) is
    (λ image. (twice (admissible file) part.count image, Contains-append_right (take part.count (admissible file)) (admissible file) image))
