-- Admissions, and after them retirements: as many are new in their turn as there are of them, each once, that change the content.
use Rattle.std.proofs.Common.{◌≡◌, ℕ, ◌+◌, if◌then◌else◌, Bool, true, false, not, cond, ◌||◌, ◌&&◌, List, [], ◌∷◌, ◌++◌, map, filter, refl, sym, ap, ◌∙◌, arith}
use mathlib.Core.Bool.{true≢false}
use Rattle.std.specs.Ordering.{nat_cmp, eq_by_cmp}
use Rattle.std.specs.Cmp.Lexicographic.{slice_cmp, nat_list_cmp_total}
use Rattle.std.specs.List.{AllByRecursion, count_by, list_all}
use Rattle.std.specs.List.Sorted.{IsStrictlySortedBy}
use Rattle.std.proofs.lemmas.Bool.{not-true, not-false}
use Rattle.std.specs.FinSet as set
use Rattle.std.specs.FinSet.{contains, from_list, same_set, contains-insert, len-insert}
use Rattle.std.proofs.lemmas.List.Kept.{IsStrictlySortedBy-filter}
use Rattle.std.proofs.lemmas.List.Sums.{length-filter}
use Rattle.join_core.proofs.Place.{len_listed}
use Rattle.archive_core.specs.Record.{record_bytes}
use Rattle.archive_core.specs.Content.{Operations, is_admission, covering, is_covered, content_of, IsMade, joined, with_record, changes, new_among}
use Rattle.archive_core.specs.declared.operations.Operation.{Operation}
use Rattle.archive_core.proofs.Made.{bytes_same, by_test, or_left, or_right, made_again, made_empty, and_left, and_right, and_false}
use Rattle.archive_core.proofs.Taken.{contains_with, known_changes, taken_are_joined, with_known, new_in_turn, new_of_none}
use Rattle.archive_index.specs.InTurn.{AreSortedWithSameEffect}
use Rattle.archive_index.specs.InnerOrder.{IsOrderOf}
use Rattle.archive_index.specs.InnerTaking.{AreParts, IsParted}
use Rattle.archive_index.proofs.Held.{each_member}
use Rattle.archive_index.proofs.Merged.{contains_filtered, are_both}
use Rattle.archive_index.proofs.Parted.{admission_keeps, with_free, with_retirement, with_behind, new_behind}

-- ---- one operation more

-- it is known from then on
known_again : (o : Operations) (r : List ℕ) → IsMade o → changes (with_record o r) r ≡ false
known_again o r is = by_test (changes (with_record o r) r ≡ false) (is_covered o r)
    (λ c. rw (with_known o r is (or_right (contains o r) _ c)) (known_changes o r (or_right (contains o r) _ c)))
    (λ f. known_changes (with_record o r) r (or_left _ (is_covered (with_record o r) r) (contains_with o r f)))

-- another one that is no slice, or comes to a slice, changes the content as before
changes_other : (o : Operations) (r q : List ℕ) → (is_admission q ≡ true → is_admission r ≡ true)
    → eq_by_cmp (slice_cmp nat_cmp) q r ≡ false → changes (with_record o r) q ≡ changes o q
unfolding changes
changes_other o r q kinds untied = by_test (not (contains (with_record o r) q || is_covered (with_record o r) q)
    ≡ not (contains o q || is_covered o q)) (is_admission q)
    (λ a. grind (arith, admission_keeps o r (covering q) (kinds a) refl, with_free o r q))
    (λ n. grind (arith, with_retirement o r q n))

-- ---- slices, and after them retirements

-- no slice comes after a retirement
AreInKinds : List (List ℕ) → Type 0
AreInKinds [] = Unit {0}
AreInKinds (r ∷ rs) = AllByRecursion (λ q. is_admission q ≡ true → is_admission r ≡ true) rs × AreInKinds rs

-- those that change the content, each once
abbrev news : Operations → List (List ℕ) → Operations
news o rs = from_list {R = slice_cmp nat_cmp} (filter (changes o) rs)

other_news : (t c d e : Bool) → (t ≡ false → c ≡ true → e ≡ d) → (t || (c && d)) ≡ (t || (c && e))
other_news t c d e f = grind arith

-- with one that changes it the others are the same
news_same : (o : Operations) (r : List ℕ) (rs : List (List ℕ))
    → AllByRecursion (λ q. is_admission q ≡ true → is_admission r ≡ true) rs → set.insert (news o rs) r
    ≡ set.insert (news (with_record o r) rs) r
news_same o r rs kinds = same_set nat_list_cmp_total bytes_same _ _ (λ q.
    rw (
      contains-insert nat_list_cmp_total (news o rs) r q,
      contains-insert nat_list_cmp_total (news (with_record o r) rs) r q,
      contains_filtered (changes o) rs q,
      contains_filtered (changes (with_record o r)) rs q,
    )
    (other_news _ _ _ _ (λ untied there. changes_other o r q (each_member (λ x. is_admission x ≡ true → is_admission r ≡ true) rs kinds q there) untied)))

-- so as many are new in their turn as there are of them, each once
counted_each : (o : Operations) (rs : List (List ℕ)) → IsMade o → AreInKinds rs → new_among o rs ≡ set.len (news o rs)
unfolding AreInKinds changes
counted_each o [] is kinds = new_of_none o ∙ sym (set.len-empty (slice_cmp nat_cmp))
counted_each o (r ∷ rs) is kinds = new_in_turn o r rs ∙ by (changes o r) refl
    (counted_each (with_record o r) rs (made_again (set.insert o r)) kinds.1) (counted_each o rs is kinds.1)
  where
    by : (b : Bool) → changes o r ≡ b → new_among (with_record o r) rs ≡ set.len (news (with_record o r) rs) → new_among o rs ≡ set.len (news o rs)
        → (if b then 1 else 0) + new_among (with_record o r) rs
        ≡ set.len (from_list {R = slice_cmp nat_cmp} (cond b (r ∷ filter (changes o) rs) (filter (changes o) rs)))
    by true new rest rest_old =
        let absent : contains (news (with_record o r) rs) r ≡ false = contains_filtered (changes (with_record o r)) rs r
        ∙ rw (known_again o r is) (and_false (contains (from_list {R = slice_cmp nat_cmp} rs) r)) in
        rw (news_same o r rs kinds.0, len-insert nat_list_cmp_total (news (with_record o r) rs) r, absent, rest) (omega arith)
    by false old rest rest_old = rw (with_known o r is (not-false (contains o r || is_covered o r) old)) (omega arith)

-- ---- the parts of a list, sorted together

any_kind : (k : Bool) (rs : List (List ℕ)) → k ≡ true → AllByRecursion (λ q. is_admission q ≡ true → k ≡ true) rs
any_kind k [] is = tt
any_kind k (r ∷ rs) is = (λ _. is, any_kind k rs is)

retirements_alone : (k : Bool) (rs : List Operation) → list_all
    (λ operation. not (is_admission (record_bytes operation))) rs ≡ true
    → AllByRecursion (λ q. is_admission q ≡ true → k ≡ true) (map record_bytes rs)
retirements_alone k [] all = tt
retirements_alone k (x ∷ xs) all = (
  λ a. absurd (true≢false
      (sym a ∙ not-true (is_admission (record_bytes x)) (and_left _ _ all))),
  retirements_alone k xs (and_right _ _ all),
)

retirements_kinds : (rs : List Operation) → list_all (λ operation. not (is_admission (record_bytes operation))) rs ≡ true → AreInKinds (map record_bytes rs)
unfolding AreInKinds
retirements_kinds [] all = tt
retirements_kinds (x ∷ xs) all = (retirements_alone (is_admission (record_bytes x)) xs (and_right _ _ all), retirements_kinds xs (and_right _ _ all))

parts_kinds : (admissions retirements : List Operation)
    → list_all (λ operation. is_admission (record_bytes operation)) admissions ≡ true
    → list_all (λ operation. not (is_admission (record_bytes operation))) retirements ≡ true
    → AreInKinds (map record_bytes (admissions ++ retirements))
unfolding AreInKinds
parts_kinds [] retirements all others = retirements_kinds retirements others
parts_kinds (x ∷ xs) retirements all others = (
  any_kind (is_admission (record_bytes x))
      (map record_bytes (xs ++ retirements)) (and_left _ _ all),
  parts_kinds xs retirements (and_right _ _ all) others,
)

-- of a list that ascends those are each once that change the content
counted_once : (o : Operations) (rs : List (List ℕ)) → IsStrictlySortedBy (slice_cmp nat_cmp) rs → set.len (news o rs) ≡ count_by (changes o) rs
counted_once o rs up = len_listed nat_list_cmp_total bytes_same (filter (changes o) rs)
    (IsStrictlySortedBy-filter (slice_cmp nat_cmp) (changes o) rs up) ∙ length-filter (changes o) rs

news_of_same : (o : Operations) (rs ss : List (List ℕ)) → from_list {R = slice_cmp nat_cmp} rs ≡ from_list ss → news o rs ≡ news o ss
news_of_same o rs ss same = same_set nat_list_cmp_total bytes_same (news o rs) (news o ss)
    (λ q. contains_filtered (changes o) rs q ∙ ap (λ s. contains s q && changes o q) same
    ∙ sym (contains_filtered (changes o) ss q))

pub in_turn : (all admissions retirements both sorted : List Operation)
    → ((old : Operations) → IsMade old → IsParted old all admissions retirements) → both ≡ admissions ++ retirements
    → IsOrderOf both sorted → AreSortedWithSameEffect all sorted
in_turn all admissions retirements both sorted parted is order =
    let parts : AreParts admissions retirements = (parted set.empty made_empty).parts in
    let same : from_list {R = slice_cmp nat_cmp} (map record_bytes sorted)
    ≡ from_list (map record_bytes (admissions ++ retirements)) = order.same
    ∙ ap (λ (xs : List Operation). from_list {R = slice_cmp nat_cmp} (map record_bytes xs)) is in
    record {
      ascending = order.ascending;
      are = order.are (rw is (are_both admissions retirements parts.are_admissions parts.are_retirements));
      content = λ old made.
          taken_are_joined old (map record_bytes sorted) made
          ∙ ap (λ s. joined old (content_of s)) same
          ∙ sym (taken_are_joined old (map record_bytes (admissions ++ retirements)) made)
          ∙ with_behind old admissions retirements
          ∙ (parted old made).content;
      counted = λ old made.
          sym (counted_once old (map record_bytes sorted) order.ascending)
          ∙ ap set.len (news_of_same old (map record_bytes sorted) (map record_bytes (admissions ++ retirements)) same)
          ∙ sym (counted_each old (map record_bytes (admissions ++ retirements)) made (parts_kinds admissions retirements parts.admitted parts.retired))
          ∙ new_behind old admissions retirements
          ∙ (parted old made).counted;
    }
