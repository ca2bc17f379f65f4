-- The row of one more part.
use Rattle.std.proofs.Common.{◌≡◌, ℕ, Bool, true, false, List, [], ◌∷◌, ◌++◌, map, refl, ap, ◌∙◌}
use Rattle.std.specs.Prelude.{if◌then◌else◌, filter}
use Rattle.std.specs.List.{fold}
use Rattle.std.proofs.lemmas.List.{map-append}
use Rattle.std.proofs.lemmas.List.Sums.{fold-append}
use Rattle.sha2.specs.Sha256.{sha256}
use Rattle.archive_core.specs.declared.keys.SliceKey.{SliceKey}
use Rattle.archive_core.specs.declared.keys.Digest.{Digest}
use Rattle.archive_core.specs.Valid.{key_of}
use Rattle.archive_core.specs.Record.{admission_record}
use Rattle.archive_core.specs.Content.{Operations, with_record, changes}
use Rattle.archive_image_admission.specs.File.{is_admissible}
use Rattle.archive_image_admission.specs.Take.{admitted, taken_of, taken_rows}
use Rattle.archive_image_admission.specs.declared.taken.Taken.{Taken}
use Rattle.archive_image_admission.specs.declared.taken.Taken.TheVariants.{Added, Known, Skipped}

-- the answer of a take, as the definition of a row has it
pub row_of : (o : Operations) (image : List ℕ) (changed : Bool) (key : SliceKey) (digest : Digest) (taken : Taken)
    → taken ≡ (if changed then Added key digest else Known key digest) → key ≡ key_of image → digest.0 ≡ sha256 image
    → changed ≡ changes o (admission_record image)
    → taken ≡ taken_of o image
unfolding taken_of
row_of o image changed key digest taken is key_is digest_is answer =
    let digest' : digest ≡ record { 0 = sha256 image } = ap (λ (d : List ℕ). record { 0 = d }) digest_is in
    rw (is, key_is, digest', answer) refl

pub skipped_row : (o : Operations) (part : List ℕ) → false ≡ is_admissible part → Skipped ∷ [] ≡ taken_rows o (part ∷ [])
unfolding taken_rows
skipped_row o part e = ap (λ (b : Bool). if b then taken_of o part ∷ [] else Skipped ∷ []) e

pub taken_row : (o : Operations) (part : List ℕ) (row : Taken) → true ≡ is_admissible part → row ≡ taken_of o part → row ∷ [] ≡ taken_rows o (part ∷ [])
unfolding taken_rows
taken_row o part row e is = ap (λ (t : Taken). t ∷ []) is ∙ ap (λ (b : Bool). if b then taken_of o part ∷ [] else Skipped ∷ []) e

pub admitted-append : (o : Operations) (xs ys : List (List ℕ)) → admitted o (xs ++ ys) ≡ admitted (admitted o xs) ys
admitted-append o xs ys =
    ap (λ (rs : List (List ℕ)). fold with_record o rs) (map-append admission_record xs ys)
    ∙ fold-append with_record o (map admission_record xs) (map admission_record ys)

-- the first rows, with those of the parts after them
rows_by : (o : Operations) (x : List ℕ) (kept : List (List ℕ)) (rest all : Operations → List Taken) (more : List (List ℕ)) (b : Bool)
    → ((p : Operations) → all p ≡ rest p ++ taken_rows (admitted p kept) more)
    → (if b then taken_of o x ∷ all (admitted o (x ∷ [])) else Skipped ∷ all o)
    ≡ (if b then taken_of o x ∷ rest (admitted o (x ∷ [])) else Skipped ∷ rest o) ++ taken_rows (admitted o (if b then x ∷ kept else kept)) more
rows_by o x kept rest all more true step = ap (λ (rows : List Taken). taken_of o x ∷ rows) (step (admitted o (x ∷ [])))
rows_by o x kept rest all more false step = ap (λ (rows : List Taken). Skipped ∷ rows) (step o)

pub taken_rows-append : (o : Operations) (xs ys : List (List ℕ)) → taken_rows o (xs ++ ys) ≡ taken_rows o xs
    ++ taken_rows (admitted o (filter is_admissible xs)) ys
unfolding taken_rows
taken_rows-append o [] ys = refl
taken_rows-append o (x ∷ xs) ys =
    rows_by o x (filter is_admissible xs) (λ p. taken_rows p xs) (λ p. taken_rows p (xs ++ ys)) ys (is_admissible x) (λ p. taken_rows-append p xs ys)
