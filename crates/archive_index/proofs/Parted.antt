-- A list of operations in two parts: its admissions, then its retirements, without those that are not new where they come.
use Rattle.std.proofs.Common.{◌≡◌, ℕ, ◌+◌, if◌then◌else◌, List, [], ◌∷◌, ◌++◌, Bool, true, false, not, ◌||◌, length, map, refl, sym, ap, ◌∙◌, arith}
use Rattle.std.specs.Ordering.{nat_cmp, eq_by_cmp}
use Rattle.std.specs.Cmp.Lexicographic.{slice_cmp, nat_list_cmp_total}
use Rattle.std.specs.List.{list_all}
use Rattle.std.proofs.lemmas.Bool.{not-true}
use Rattle.std.proofs.lemmas.List.{nil_from_length}
use Rattle.std.proofs.lemmas.List.Folds.{list_all-append}
use Rattle.std.specs.FinSet as set
use Rattle.std.specs.FinSet.{contains, contains-insert, contains-empty, same_set}
use Rattle.archive_core.specs.Record.{IsOperation, record_bytes}
use Rattle.archive_core.specs.Content.{Operations, is_admission, covering, is_covered, content_of, IsMade}
use Rattle.archive_core.specs.Content.{IsTakenInPart, with_record, with_records, changes, new_among}
use Rattle.archive_index.specs.InnerTaking.{IsBeside, IsParting, IsParted, with_both, new_of_both}
use Rattle.archive_core.specs.declared.operations.Operation.{Operation}
use Rattle.archive_core.proofs.Made.{bytes_same, and_left, and_right, kept, free, covers_same, made_again, made_alike}
use Rattle.archive_core.proofs.Made.{alike_insert, made_is_alike, below_transitive}
use Rattle.archive_core.proofs.Taken.{known_changes, with_known, below_taken, apart, tied_is, new_in_turn, new_of_none}
use Rattle.archive_index.proofs.Merged.{are_both}

-- ---- one operation more

inserted_swapped : (o : Operations) (r s : List ℕ) → set.insert (set.insert o r) s ≡ set.insert (set.insert o s) r
inserted_swapped o r s = same_set nat_list_cmp_total bytes_same _ _ (λ q. simp (contains-insert nat_list_cmp_total) (grind arith))

made_inserted : (o : Operations) (r s : List ℕ) → with_record (with_record o r) s ≡ content_of (set.insert (set.insert o r) s)
made_inserted o r s = made_alike (set.insert (content_of (set.insert o r)) s) (set.insert (set.insert o r) s)
    (alike_insert (content_of (set.insert o r)) (set.insert o r) s (made_is_alike (set.insert o r)))

-- two operations may be taken in either order
swapped : (o : Operations) (r s : List ℕ) → with_record (with_record o r) s ≡ with_record (with_record o s) r
swapped o r s = made_inserted o r s ∙ ap content_of (inserted_swapped o r s) ∙ sym (made_inserted o s r)

-- so one may be taken before others or after them
later : (o : Operations) (r : List ℕ) (rs : List (List ℕ)) → with_records (with_record o r) rs ≡ with_record (with_records o rs) r
later o r [] = refl
later o r (s ∷ rs) = ap (λ p. with_records p rs) (swapped o r s) ∙ later (with_record o s) r rs

pub with_behind : (o : Operations) (xs ys : List Operation) → with_records o (map record_bytes (xs ++ ys)) ≡ with_both o xs ys
with_behind o [] ys = refl
with_behind o (x ∷ xs) ys = with_behind (with_record o (record_bytes x)) xs ys

pub new_behind : (o : Operations) (xs ys : List Operation) → new_among o (map record_bytes (xs ++ ys)) ≡ new_of_both o xs ys
new_behind o [] ys = omega (arith, new_of_none o)
new_behind o (x ∷ xs) ys = omega (
  arith,
  new_behind (with_record o (record_bytes x)) xs ys,
  new_in_turn o (record_bytes x) (map record_bytes xs),
  new_in_turn o (record_bytes x) (map record_bytes (xs ++ ys)),
)

new_last : (o : Operations) (xs : List Operation) (x : Operation) → new_among o (map record_bytes (xs ++ x ∷ []))
    ≡ new_among o (map record_bytes xs) + (if changes (with_records o (map record_bytes xs)) (record_bytes x) then 1
    else 0)
new_last o xs x = omega (
  arith,
  new_behind o xs (x ∷ []),
  new_in_turn (with_records o (map record_bytes xs)) (record_bytes x) [],
  new_of_none (with_records o (map record_bytes (xs ++ x ∷ []))),
  ap (λ p. new_among p []) (with_behind o xs (x ∷ [])),
)

all_last : (test : Operation → Bool) (xs : List Operation) (x : Operation) → list_all test xs ≡ true → test x ≡ true → list_all test (xs ++ x ∷ []) ≡ true
all_last test xs x all one = grind (arith, list_all-append test xs (x ∷ []))

-- ---- the two contents, side by side

-- with an admission more, a set has the same retirements
pub admission_keeps : (o : Operations) (r q : List ℕ) → is_admission r ≡ true → is_admission q ≡ false → contains (with_record o r) q ≡ contains o q
admission_keeps o r q a n = kept (set.insert o r) q n ∙ contains-insert nat_list_cmp_total o r q ∙ ap (λ b. b || contains o q) (apart q r n a)

pub with_retirement : (o : Operations) (r q : List ℕ) → is_admission q ≡ false → contains (with_record o r) q
    ≡ (eq_by_cmp (slice_cmp nat_cmp) q r || contains o q)
with_retirement o r q n = kept (set.insert o r) q n ∙ contains-insert nat_list_cmp_total o r q

-- what is not covered is there where it was, or is that one
pub with_free : (o : Operations) (r q : List ℕ) → contains (with_record o r) (covering q) ≡ false
    → contains (with_record o r) q ≡ (eq_by_cmp (slice_cmp nat_cmp) q r || contains o q)
with_free o r q c = free (set.insert o r) q (sym (covers_same (set.insert o r) q) ∙ c) ∙ contains-insert nat_list_cmp_total o r q

pub beside_first : (o : Operations) → IsMade o → IsBeside o o o set.empty
beside_first o is = record {
  made_admitted = is;
  made_now = is;
  same = λ r n. refl;
  known = λ r n. grind (arith, contains-empty (slice_cmp nat_cmp) r);
  free = λ r a c. refl;
}

beside_admission : (old admitted now seen : Operations) (r : List ℕ) → IsBeside old admitted now seen → is_admission r
    ≡ true → IsBeside old (with_record admitted r) (with_record now r) seen
beside_admission old admitted now seen r beside a = record {
  made_admitted = made_again (set.insert admitted r);
  made_now = made_again (set.insert now r);
  same = λ q n. admission_keeps admitted r q a n ∙ beside.same q n;
  known = λ q n. admission_keeps now r q a n ∙ beside.known q n;
  free = λ q b c. grind (
    arith,
    admission_keeps now r (covering q) a refl,
    beside.known (covering q) refl,
    admission_keeps admitted r (covering q) a refl,
    beside.same (covering q) refl,
    beside.free q b,
    with_free now r q c,
    with_free admitted r q,
  );
}

pub beside_retirement : (old admitted now seen : Operations) (r : List ℕ) → IsBeside old admitted now seen
    → is_admission r ≡ false → IsBeside old admitted (with_record now r) (set.insert seen r)
beside_retirement old admitted now seen r beside n = record {
  made_admitted = beside.made_admitted;
  made_now = made_again (set.insert now r);
  same = beside.same;
  known = λ q m. grind (arith, with_retirement now r q m, beside.known q m, contains-insert nat_list_cmp_total seen r q);
  free = λ q a c. grind (arith, with_retirement now r (covering q) refl, beside.free q a, with_free now r q c, tied_is q r);
}

-- ---- the lists

-- a retirement is new after an admission where it is new before it
changes_alone : (o : Operations) (r : List ℕ) (q : List ℕ) → is_admission r ≡ true → is_admission q ≡ false → changes (with_record o r) q ≡ changes o q
unfolding changes
changes_alone o r q a n = rw (n, admission_keeps o r q a n) refl

unmoved : (o : Operations) (r : List ℕ) (xs : List Operation) → is_admission r ≡ true
    → list_all (λ operation. not (is_admission (record_bytes operation))) xs ≡ true
    → new_among (with_record o r) (map record_bytes xs) ≡ new_among o (map record_bytes xs)
unmoved o r [] a all = new_of_none (with_record o r) ∙ sym (new_of_none o)
unmoved o r (x ∷ xs) a all =
    let n = not-true (is_admission (record_bytes x)) (and_left _ _ all) in
    let one : ◌≡◌ {A = ℕ} (if changes (with_record o r) (record_bytes x) then 1 else 0)
    (if changes o (record_bytes x) then 1 else 0) =
    ap (λ b. if b then 1 else 0) (changes_alone o r (record_bytes x) a n) in
    let swap : new_among (with_record (with_record o r) (record_bytes x)) (map record_bytes xs)
    ≡ new_among (with_record (with_record o (record_bytes x)) r) (map record_bytes xs) =
    ap (λ p. new_among p (map record_bytes xs)) (swapped o r (record_bytes x)) in
    let rest = unmoved (with_record o (record_bytes x)) r xs a (and_right _ _ all) in
    omega (arith, one, swap, rest, new_in_turn (with_record o r) (record_bytes x) (map record_bytes xs), new_in_turn o (record_bytes x) (map record_bytes xs))

-- one that is there, or covered, counts for nothing
passed : (old : Operations) (all rest admissions retirements : List Operation) (seen more : Operations) (x : Operation)
    → IsParting old all (x ∷ rest) admissions retirements seen
    → (contains (with_both old admissions retirements) (record_bytes x) || is_covered (with_both old admissions retirements) (record_bytes x)) ≡ true
    → IsBeside old (with_records old (map record_bytes admissions)) (with_both old admissions retirements) more
    → IsParting old all rest admissions retirements more
passed old all rest admissions retirements seen more x parting known beside =
    let now = with_both old admissions retirements in
    let stays : with_record now (record_bytes x) ≡ now = with_known now (record_bytes x) parting.beside.made_now known in
    record {
      parts = parting.parts;
      beside = beside;
      content = ap (λ p. with_records p (map record_bytes rest)) (sym stays) ∙ parting.content;
      counted = omega (
        arith,
        rw (
          new_in_turn now (record_bytes x) (map record_bytes rest),
          stays,
          known_changes now (record_bytes x) known,
        ) at parting.counted,
      );
    }

-- an admission that a retirement before it covers is passed over
pub admission_passed : (old : Operations) (all rest admissions retirements : List Operation) (seen : Operations)
    (x : Operation) → IsParting old all (x ∷ rest) admissions retirements seen
    → is_admission (record_bytes x) ≡ true → contains seen (covering (record_bytes x)) ≡ true → IsParting old all rest admissions retirements seen
admission_passed old all rest admissions retirements seen x parting a there =
    passed old all rest admissions retirements seen seen x parting (grind (arith, parting.beside.known (covering (record_bytes x)) refl)) parting.beside

-- so is a retirement that came before
pub retirement_passed : (old : Operations) (all rest admissions retirements : List Operation) (seen : Operations)
    (x : Operation) → IsParting old all (x ∷ rest) admissions retirements seen
    → is_admission (record_bytes x) ≡ false → contains seen (record_bytes x) ≡ true
    → IsParting old all rest admissions retirements (set.insert seen (record_bytes x))
retirement_passed old all rest admissions retirements seen x parting n there =
    let now = with_both old admissions retirements in
    let admitted = with_records old (map record_bytes admissions) in
    let known : (contains now (record_bytes x) || is_covered now (record_bytes x)) ≡ true = grind (arith, parting.beside.known (record_bytes x) n) in
    passed old all rest admissions retirements seen (set.insert seen (record_bytes x)) x parting known
    (rw (with_known now (record_bytes x) parting.beside.made_now known) at (beside_retirement old admitted now seen (record_bytes x) parting.beside n))

-- an admission that none before it covers changes the one content where it changes the other
changes_alike : (old admitted now seen : Operations) (r : List ℕ) → IsBeside old admitted now seen → is_admission r
    ≡ true → contains seen (covering r) ≡ false → changes now r ≡ changes admitted r
unfolding changes
changes_alike old admitted now seen r beside a unseen = grind (arith, beside.known (covering r) refl, beside.same (covering r) refl, beside.free r a)

-- an admission goes after the admissions
pub admission_put : (old : Operations) (all rest admissions retirements : List Operation) (seen : Operations)
    (x : Operation) → IsParting old all (x ∷ rest) admissions retirements seen
    → is_admission (record_bytes x) ≡ true → IsOperation x → contains seen (covering (record_bytes x)) ≡ false
    → IsParting old all rest (admissions ++ x ∷ []) retirements seen
admission_put old all rest admissions retirements seen x parting a is unseen =
    let admitted = with_records old (map record_bytes admissions) in
    let now = with_both old admissions retirements in
    let admitted_is : with_records old (map record_bytes (admissions ++ x ∷ []))
    ≡ with_record admitted (record_bytes x) = with_behind old admissions (x ∷ []) in
    let now_is : with_both old (admissions ++ x ∷ []) retirements ≡ with_record now (record_bytes x) =
    ap (λ p. with_records p (map record_bytes retirements)) admitted_is
    ∙ later admitted (record_bytes x) (map record_bytes retirements) in
    record {
      parts = record {
        admitted = all_last (λ operation. is_admission (record_bytes operation)) admissions x parting.parts.admitted a;
        retired = parting.parts.retired;
        are_admissions = are_both admissions (x ∷ []) parting.parts.are_admissions (is, tt);
        are_retirements = parting.parts.are_retirements;
      };
      beside = rw (now_is, admitted_is) (beside_admission old admitted now seen (record_bytes x) parting.beside a);
      content = rw now_is parting.content;
      counted =
          let behind = unmoved admitted (record_bytes x) retirements a parting.parts.retired in
          rw (now_is, admitted_is, behind, new_last old admissions x)
          (omega (
            arith,
            parting.counted,
            new_in_turn now (record_bytes x) (map record_bytes rest),
            ap {B = ℕ} (λ b. if b then 1 else 0) (changes_alike old admitted now seen (record_bytes x) parting.beside
                a unseen),
          ));
    }

-- and a retirement after the retirements
pub retirement_put : (old : Operations) (all rest admissions retirements : List Operation) (seen : Operations)
    (x : Operation) → IsParting old all (x ∷ rest) admissions retirements seen
    → is_admission (record_bytes x) ≡ false → IsOperation x → IsParting old all rest admissions (retirements ++ x ∷ []) (set.insert seen (record_bytes x))
retirement_put old all rest admissions retirements seen x parting n is =
    let admitted = with_records old (map record_bytes admissions) in
    let now = with_both old admissions retirements in
    let now_is : with_both old admissions (retirements ++ x ∷ []) ≡ with_record now (record_bytes x) = with_behind admitted retirements (x ∷ []) in
    record {
      parts = record {
        admitted = parting.parts.admitted;
        retired = all_last (λ operation. not (is_admission (record_bytes operation))) retirements x parting.parts.retired (ap not n);
        are_admissions = parting.parts.are_admissions;
        are_retirements = are_both retirements (x ∷ []) parting.parts.are_retirements (is, tt);
      };
      beside = rw now_is (beside_retirement old admitted now seen (record_bytes x) parting.beside n);
      content = rw now_is parting.content;
      counted = rw (now_is, new_last admitted retirements x) (omega (arith, parting.counted, new_in_turn now (record_bytes x) (map record_bytes rest)));
    }

-- in the words of the lists that are there then
pub parting_as : (old : Operations) (all rest admissions retirements more : List Operation)
    (seen more_seen : Operations) (x y : Operation) → IsParting old all rest admissions (retirements ++ x ∷ []) seen
    → more ≡ retirements ++ y ∷ [] → y ≡ x → more_seen ≡ seen → IsParting old all rest admissions more more_seen
parting_as old all rest admissions retirements more seen more_seen x y parting more_is same seen_is = rw (more_is, same, seen_is) parting

-- at first none came
pub parting_none : (old : Operations) (all left admissions retirements : List Operation) (seen : Operations)
    → IsMade old → left ≡ all → admissions ≡ [] → retirements ≡ [] → seen ≡ set.empty
    → IsParting old all left admissions retirements seen
parting_none old all left admissions retirements seen is same no_admissions no_retirements unseen = rw (same, no_admissions, no_retirements, unseen) (record {
  parts = record { admitted = refl; retired = refl; are_admissions = tt; are_retirements = tt };
  beside = beside_first old is;
  content = refl;
  counted = omega (arith, new_of_none old);
})

-- and in the end all came
pub parted : (old : Operations) (all left admissions retirements : List Operation) (seen : Operations)
    → IsParting old all left admissions retirements seen → length left ≡ 0 → IsParted old all admissions retirements
parted old all left admissions retirements seen parting none =
    let at = rw (nil_from_length left none) at parting in
    record { parts = at.parts; content = at.content; counted = omega (arith, at.counted, new_of_none (with_both old admissions retirements)) }

-- ---- parts that are taken

-- a part of the admissions is a part of all
pub admissions_in_part : (old mid : Operations) (all admissions retirements : List Operation)
    → IsParted old all admissions retirements → IsTakenInPart old (map record_bytes admissions) mid
    → IsTakenInPart old (map record_bytes all) mid
admissions_in_part old mid all admissions retirements is part = record {
  content = part.content;
  above_old = part.above_old;
  below_all = rw (← is.content) (below_transitive mid _ _ part.below_all
      (below_taken (with_records old (map record_bytes admissions)) (map record_bytes retirements)));
}

-- so is a part of the retirements, after the admissions
pub retirements_in_part : (old admitted mid : Operations) (all admissions retirements : List Operation)
    → IsParted old all admissions retirements → admitted ≡ with_records old (map record_bytes admissions)
    → IsTakenInPart admitted (map record_bytes retirements) mid → IsTakenInPart old (map record_bytes all) mid
retirements_in_part old admitted mid all admissions retirements is taken part = record {
  content = part.content;
  above_old = below_transitive old admitted mid (rw taken (below_taken old (map record_bytes admissions))) part.above_old;
  below_all = rw (taken, is.content) at part.below_all;
}
