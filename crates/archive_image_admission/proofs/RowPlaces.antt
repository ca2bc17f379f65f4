-- Which row stands where.
use Rattle.std.proofs.Common.{◌≡◌, ℕ, zero, suc, Bool, true, false, List, [], ◌∷◌, length, take, Some, slice_get, refl, ap, arith, ◌∙◌}
use Rattle.std.specs.Prelude.{filter, if◌then◌else◌}
use Rattle.std.specs.FinSet as set
use Rattle.sha2.specs.Sha256.{sha256}
use Rattle.archive_core.specs.Valid.{IsValid, key_of}
use Rattle.archive_core.specs.Record.{admission_record, retirement_record}
use Rattle.archive_core.specs.Content.{Operations, changes}
use Rattle.archive_core.proofs.Made.{or_left, or_right}
use Rattle.archive_core.proofs.Taken.{known_changes}
use Rattle.archive_core.proofs.Entries.{covering_admission}
use Rattle.archive_image_admission.specs.File.{is_admissible}
use Rattle.archive_image_admission.specs.Take.{admitted, taken_of, taken_rows}
use Rattle.archive_image_admission.specs.declared.taken.Taken.{Taken}
use Rattle.archive_image_admission.specs.declared.taken.Taken.TheVariants.{Added, Known, Skipped}

count_by : (n : ℕ) (here there : Taken) (rows others : List Taken) (b : Bool) → length rows ≡ n → length others ≡ n
    → length (if b then here ∷ rows else there ∷ others) ≡ suc n
count_by n here there rows others b e f = grind arith

pub rows_number : (o : Operations) (xs : List (List ℕ)) → length (taken_rows o xs) ≡ length xs
unfolding taken_rows
rows_number o [] = refl
rows_number o (x ∷ xs) =
    count_by (length xs) (taken_of o x) Skipped (taken_rows (admitted o (x ∷ [])) xs) (taken_rows o xs)
    (is_admissible x) (rows_number (admitted o (x ∷ [])) xs) (rows_number o xs)

-- the rows after the first
behind : (o : Operations) (x : List ℕ) (kept : List (List ℕ)) (rest : Operations → List Taken) (i : ℕ) (row : Operations → Taken) (b : Bool)
    → ((p : Operations) → slice_get (rest p) i ≡ Some (row (admitted p kept)))
    → slice_get (if b then taken_of o x ∷ rest (admitted o (x ∷ [])) else Skipped ∷ rest o) (suc i) ≡ Some (row (admitted o (if b then x ∷ kept else kept)))
behind o x kept rest i row true step = step (admitted o (x ∷ []))
behind o x kept rest i row false step = step o

first_row : (row there : Taken) (rows others : List Taken) (b c : Bool) → b ≡ c
    → slice_get (if b then row ∷ rows else there ∷ others) 0 ≡ Some (if c then row else there)
first_row row there rows others b c same = grind arith

pub skipped_at : (o : Operations) (xs : List (List ℕ)) (i : ℕ) (part : List ℕ) → slice_get xs i ≡ Some part
    → is_admissible part ≡ false → slice_get (taken_rows o xs) i ≡ Some Skipped
unfolding taken_rows
skipped_at o [] i part is out = cc
skipped_at o (x ∷ xs) zero part is out =
    let same : x ≡ part = cc in
    first_row (taken_of o x) Skipped _ _ (is_admissible x) false (ap is_admissible same ∙ out)
skipped_at o (x ∷ xs) (suc i) part is out =
    behind o x [] (λ p. taken_rows p xs) i (λ p. Skipped) (is_admissible x) (λ p. skipped_at p xs i part is out)

pub taken_at : (o : Operations) (xs : List (List ℕ)) (i : ℕ) (part : List ℕ) → slice_get xs i ≡ Some part → is_admissible part ≡ true
    → slice_get (taken_rows o xs) i ≡ Some (taken_of (admitted o (filter is_admissible (take i xs))) part)
unfolding taken_rows
taken_at o [] i part is begins = cc
taken_at o (x ∷ xs) zero part is begins =
    let same : x ≡ part = cc in
    first_row (taken_of o x) Skipped _ _ (is_admissible x) true (ap is_admissible same ∙ begins)
    ∙ ap (λ y. Some (taken_of o y)) same
taken_at o (x ∷ xs) (suc i) part is begins =
    behind o x (filter is_admissible (take i xs)) (λ p. taken_rows p xs) i (λ p. taken_of p part) (is_admissible x) (λ p. taken_at p xs i part is begins)

-- a slice that is there is known
known_by : (o : Operations) (part : List ℕ) → changes o (admission_record part) ≡ false → taken_of o part ≡ Known (key_of part) (record { 0 = sha256 part })
unfolding taken_of
known_by o part same = ap (λ (b : Bool). if b then Added (key_of part) (record { 0 = sha256 part }) else Known (key_of part) (record { 0 = sha256 part })) same

pub there_is_known : (o : Operations) (part : List ℕ) → set.contains o (admission_record part) ≡ true → taken_of o part
    ≡ Known (key_of part) (record { 0 = sha256 part })
there_is_known o part there = known_by o part (known_changes o (admission_record part) (or_left _ _ there))

-- and so is one that a retirement covers
pub covered_is_known : (o : Operations) (part : List ℕ) → IsValid part → set.contains o (retirement_record (key_of part) (sha256 part)) ≡ true
    → taken_of o part ≡ Known (key_of part) (record { 0 = sha256 part })
covered_is_known o part valid retired =
    known_by o part (known_changes o (admission_record part)
    (or_right (set.contains o (admission_record part)) _
    (ap (set.contains o) (covering_admission part valid) ∙ retired)))
