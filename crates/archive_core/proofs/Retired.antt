-- What searches among retirements find, and what is there with one more.
use Rattle.std.proofs.Common.{◌≡◌, ℕ, zero, suc, ◌+◌, ◌==◌, Bool, true, false, ◌||◌, cond, List, [], ◌∷◌, ◌++◌, length}
use Rattle.std.proofs.Common.{length-drop, get_or, take, drop, Result, Ok, Err, refl, sym, ap, ◌∙◌, arith, inl, inr}
use Rattle.std.proofs.Common.{◌⊎◌}
use Rattle.std.proofs.lemmas.Bool.{false≢true, cases_lt}
use Rattle.std.proofs.lemmas.Bool.Decides.{nat_tests}
use Rattle.std.proofs.lemmas.Cmp.{eq_by_cmp_equiv}
use Rattle.std.proofs.lemmas.List.{take_at, take-append-drop}
use Rattle.std.proofs.lemmas.List.Folds.{list_any-append}
use Rattle.std.proofs.lemmas.List.Sorted.{searchable_from_sorted}
use Rattle.std.proofs.lemmas.Map.Keys.{Less-from_sorted}
use Rattle.std.specs.Prelude.{is_ok}
use Rattle.std.specs.declared.cmp.Ordering.{Ordering}
use Rattle.std.specs.declared.cmp.Ordering.TheVariants.{Less, Equal}
use Rattle.std.specs.Ordering.{nat_cmp, eq_by_cmp, is_eq, is_gt, is_lt, ordering_reverse, ordering_then}
use Rattle.std.specs.Cmp.{tied_itself, nat_cmp_total}
use Rattle.std.specs.Cmp.Lexicographic.{slice_cmp, nat_list_cmp_total}
use Rattle.std.specs.List.{AllByRecursion, list_all, list_any}
use Rattle.std.specs.List.Sorted.{IsStrictlySortedBy, IsBinarySearchResult, IsSearchInRange, IsSortedBy}
use Rattle.std.specs.FinSet as set
use Rattle.std.specs.FinSet.{contains, contains-from_list, contains-insert, from_list, from_list_push, same_set}
use Rattle.join_core.specs.InnerSearch.{IsFound}
use Rattle.join_core.proofs.Place.{insert_present}
use Rattle.archive_core.specs.declared.keys.SliceKey.{SliceKey}
use Rattle.archive_core.specs.Key.{key_bytes}
use Rattle.archive_core.specs.Record.{retirement_record}
use Rattle.archive_core.proofs.Made.{and_left, and_right, bytes_same, by_test, or_left}
use Rattle.archive_core.proofs.Members.{in_made}

abbrev order : List ℕ → List ℕ → Ordering
order = slice_cmp nat_cmp

abbrev set_of : List (List ℕ) → set.FinSet order
set_of xs = from_list xs

-- ---- prefixes

-- what is below another does not begin with more
pub begins_below : (n : ℕ) (x y : List ℕ) → order x y ≡ Less → is_lt (order (take n y) (take n x)) ≡ false
begins_below zero x y h = refl
begins_below (suc n) [] [] h = refl
begins_below (suc n) [] (b ∷ bs) h = refl
begins_below (suc n) (a ∷ ass) [] h = absurd cc
begins_below (suc n) (a ∷ ass) (b ∷ bs) h =
    below (nat_cmp a b) (nat_cmp b a) (order ass bs) (order (take n bs) (take n ass)) (nat_cmp_total.antisymm b a) h
    (begins_below n ass bs)
  where
    below : (p q r s : Ordering) → q ≡ ordering_reverse p → ordering_then p r ≡ Less → (r ≡ Less → is_lt s ≡ false) → is_lt (ordering_then q s) ≡ false
    below p q r s turned h rest = grind arith

prefixes_sorted : (n : ℕ) (xs : List (List ℕ)) → IsStrictlySortedBy order xs → IsSortedBy (λ x y. is_lt (order (take n x) (take n y))) xs
prefixes_sorted n xs h i d _ lt = begins_below n _ _ (Less-from_sorted order xs i (i + 1) d h (omega arith) lt)

-- a search by how they begin finds one where one is there
pub prefix_there : (xs : List (List ℕ)) (prefix : List ℕ) (r : Result ℕ ℕ) → IsStrictlySortedBy order xs
    → IsSearchInRange r (length xs) → IsBinarySearchResult (λ x. order (take 25 x) prefix) xs r
    → (c : List ℕ) → take 25 c ≡ prefix → contains (set_of xs) c ≡ true → is_ok r ≡ true
prefix_there xs prefix (Ok i) up lt at c e h = refl
prefix_there xs prefix (Err i) up le parted c e h =
    let found = (in_made nat_list_cmp_total bytes_same xs c).1 h in
    let parts = parted (searchable_from_sorted nat_list_cmp_total (take 25) xs prefix (prefixes_sorted 25 xs up)) in
    let tied : order (take 25 (get_or xs found.0 c)) prefix
    ≡ Equal = ap (λ (t : List ℕ). order (take 25 t) prefix) found.2 ∙ ap (λ (t : List ℕ). order t prefix) e
    ∙ tied_itself nat_list_cmp_total prefix in
    elim (cases_lt found.0 i) [
      | inl lt ↦ cc (parts.0 found.0 c (omega arith) lt)
      | inr ge ↦ cc (parts.1 found.0 c ge found.1)
    ]

-- what is at most another does not begin with more
begins_at_most : (n : ℕ) (x y : List ℕ) → is_gt (order x y) ≡ false → is_lt (order (take n y) (take n x)) ≡ false
begins_at_most n x y h = grind (arith, begins_below n x y, bytes_same x y, tied_itself nat_list_cmp_total (take n y))

-- what lies between two that begin alike begins so
pub begins_between : (n : ℕ) (low x high prefix : List ℕ) → take n low ≡ prefix → take n high ≡ prefix
    → is_gt (order low x) ≡ false → is_gt (order x high) ≡ false → is_eq (order (take n x) prefix) ≡ true
begins_between n low x high prefix l h above below = between (order (take n x) prefix) (order prefix (take n x)) (nat_list_cmp_total.antisymm prefix (take n x))
    (ap (λ (t : List ℕ). is_lt (order (take n x) t)) (sym l) ∙ begins_at_most n low x above)
    (ap (λ (t : List ℕ). is_lt (order t (take n x))) (sym h) ∙ begins_at_most n x high below)
  where
    between : (o p : Ordering) → p ≡ ordering_reverse o → is_lt o ≡ false → is_lt p ≡ false → is_eq o ≡ true
    between o p turned not_less not_more = grind arith

-- no bytes are below as many zeros
zeros_least : (zeros rest : List ℕ) → length zeros ≡ length rest → list_all (λ n. n == 0) zeros ≡ true → is_gt (order zeros rest) ≡ false
zeros_least [] [] long zero_each = refl
zeros_least [] (b ∷ bs) long zero_each = refl
zeros_least (a ∷ ass) [] long zero_each = absurd (omega (arith, long))
zeros_least (a ∷ ass) (b ∷ bs) long zero_each =
    first (order ass bs) (and_left (a == 0) _ zero_each)
    (zeros_least ass bs (omega (arith, long)) (and_right (a == 0) _ zero_each))
  where
    first : (r : Ordering) → (a == 0) ≡ true → is_gt r ≡ false → is_gt (ordering_then (nat_cmp a b) r) ≡ false
    first r none rest = grind (arith, nat_tests)

same_prefix : (prefix x y : List ℕ) → order (prefix ++ x) (prefix ++ y) ≡ order x y
same_prefix [] x y = refl
same_prefix (a ∷ ass) x y = rw (tied_itself nat_cmp_total a) (same_prefix ass x y)

-- a prefix with zeros after it is at most what begins so
pub least_begins : (prefix zeros r : List ℕ) → length prefix ≡ 25 → length zeros ≡ 32 → list_all (λ n. n == 0) zeros
    ≡ true → take 25 r ≡ prefix → length r ≡ 57 → is_gt (order (prefix ++ zeros) r) ≡ false
least_begins prefix zeros r f z each begins long =
    let whole : prefix ++ drop 25 r ≡ r = ap (λ (t : List ℕ). t ++ drop 25 r) (sym begins) ∙ take-append-drop 25 r in
    ap (λ (t : List ℕ). is_gt (order (prefix ++ zeros) t)) (sym whole) ∙ ap is_gt (same_prefix prefix zeros (drop 25 r))
    ∙ zeros_least zeros (drop 25 r) (omega (arith, z, length-drop 25 r, long)) each

-- ---- what is there

-- none is there that begins otherwise
pub nothing_there : (xs : List (List ℕ)) (c : List ℕ) (b : Bool) → (contains (set_of xs) c ≡ true → b ≡ true) → b ≡ false → contains (set_of xs) c ≡ false
nothing_there xs c b h none = by_test _ (contains (set_of xs) c) (λ t. absurd (false≢true (sym none ∙ h t))) (λ f. f)

-- a retirement begins with its key
pub retirement_prefix : (key : SliceKey) (digest : List ℕ) → length (key_bytes key) ≡ 24 → take 25 (retirement_record key digest) ≡ 1 ∷ key_bytes key
retirement_prefix key digest long = ap (λ (t : List ℕ). 1 ∷ t) (take_at (key_bytes key) digest 24 long)

-- what a search says that its result is
pub is_there : (xs : List (List ℕ)) (x : List ℕ) (r : Result ℕ ℕ) → IsFound order xs x r → is_ok r ≡ contains (set_of xs) x
is_there xs x (Ok i) found = sym found.present
is_there xs x (Err i) found = sym found.absent.absent

-- among two lists is what is among either
pub in_both : (xs ys : List (List ℕ)) (q : List ℕ) → contains (set_of (xs ++ ys)) q ≡ (contains (set_of xs) q || contains (set_of ys) q)
in_both xs ys q =
    contains-from_list nat_list_cmp_total (xs ++ ys) q ∙ list_any-append (eq_by_cmp order q) xs ys
    ∙ (λ i. sym (contains-from_list nat_list_cmp_total xs q) i || sym (contains-from_list nat_list_cmp_total ys q) i)

pub in_first : (xs ys zs : List (List ℕ)) (q : List ℕ) → xs ++ ys ≡ zs → contains (set_of xs) q ≡ true → contains (set_of zs) q ≡ true
in_first xs ys zs q is there = ap (λ (t : List (List ℕ)). contains (set_of t) q) (sym is) ∙ in_both xs ys q ∙ or_left _ (contains (set_of ys) q) there

pub in_second : (xs ys zs : List (List ℕ)) (q : List ℕ) → xs ++ ys ≡ zs → contains (set_of xs) q ≡ false → contains (set_of zs) q ≡ contains (set_of ys) q
in_second xs ys zs q is none = ap (λ (t : List (List ℕ)). contains (set_of t) q) (sym is) ∙ in_both xs ys q ∙ ap (λ b. b || contains (set_of ys) q) none

-- whether a set of std has a key
pub held_by : (ks : List (List ℕ)) (k : List ℕ) → list_any (λ x. eq_by_cmp order k x) ks ≡ contains (set_of ks) k
held_by ks k = sym (contains-from_list nat_list_cmp_total ks k)

-- one more in the first is one more in both
pub first_more : (xs ys zs : List (List ℕ)) (x : List ℕ) → set_of zs ≡ set.insert (set_of xs) x → set_of (zs ++ ys) ≡ set.insert (set_of (xs ++ ys)) x
first_more xs ys zs x more = same_set nat_list_cmp_total bytes_same _ _ (λ q.
    let grown : contains (set_of zs) q ≡ contains (set.insert (set_of xs) x) q = ap (λ s. contains s q) more in
    grind (
      arith,
      in_both zs ys q,
      in_both xs ys q,
      contains-insert nat_list_cmp_total (set_of xs) x q,
      contains-insert nat_list_cmp_total (set_of (xs ++ ys)) x q,
    ))

-- so is one more in the second
pub second_more : (xs ys zs : List (List ℕ)) (x : List ℕ) → set_of zs ≡ set.insert (set_of ys) x → set_of (xs ++ zs) ≡ set.insert (set_of (xs ++ ys)) x
second_more xs ys zs x more = same_set nat_list_cmp_total bytes_same _ _ (λ q.
    let grown : contains (set_of zs) q ≡ contains (set.insert (set_of ys) x) q = ap (λ s. contains s q) more in
    grind (
      arith,
      in_both xs zs q,
      in_both xs ys q,
      contains-insert nat_list_cmp_total (set_of ys) x q,
      contains-insert nat_list_cmp_total (set_of (xs ++ ys)) x q,
    ))

-- ---- one less

all_front : (P : List ℕ → Type 0) (xs : List (List ℕ)) (y : List ℕ) → AllByRecursion P (xs ++ y ∷ []) → AllByRecursion P xs
all_front P [] y all = tt
all_front P (x ∷ xs) y all = (all.0, all_front P xs y all.1)

sorted_front : (xs : List (List ℕ)) (y : List ℕ) → IsStrictlySortedBy order (xs ++ y ∷ []) → IsStrictlySortedBy order xs
unfolding IsStrictlySortedBy
sorted_front [] y up = tt
sorted_front (x ∷ xs) y up = (all_front (λ z. order x z ≡ Less) xs y up.0, sorted_front xs y up.1)

-- what ascends still does without the last
pub sorted_without : (old new : List (List ℕ)) (r : List ℕ) → (new ≡ old) ⊎ (old ≡ new ++ r ∷ []) → IsStrictlySortedBy order old → IsStrictlySortedBy order new
sorted_without old new r (inl same) up = rw same up
sorted_without old new r (inr more) up = sorted_front new r (rw more at up)

-- with the record itself all are there that were
pub others_stay : (old new ys : List (List ℕ)) (r : List ℕ) → (new ≡ old) ⊎ (old ≡ new ++ r ∷ [])
    → set.insert (set_of (new ++ ys)) r ≡ set.insert (set_of (old ++ ys)) r
others_stay old new ys r (inl same) = ap (λ (t : List (List ℕ)). set.insert (set_of (t ++ ys)) r) same
others_stay old new ys r (inr more) =
    let one : set_of (old ++ ys) ≡ set.insert (set_of (new ++ ys)) r =
    first_more new ys old r (ap set_of more ∙ from_list_push nat_list_cmp_total bytes_same new r) in
    let there : contains (set_of (old ++ ys)) r ≡ true = ap (λ s. contains s r) one
    ∙ contains-insert nat_list_cmp_total (set_of (new ++ ys)) r r
    ∙ or_left _ (contains (set_of (new ++ ys)) r) (ap is_eq (tied_itself nat_list_cmp_total r)) in
    sym one ∙ sym (insert_present nat_list_cmp_total bytes_same (set_of (old ++ ys)) r there)

-- a set of std with one key more has that and those that it had
pub inserted : (old new : List (List ℕ)) (k : List ℕ)
    → ((q : List ℕ) → list_any (λ x. eq_by_cmp order q x) new
    ≡ cond (eq_by_cmp order k q) true (list_any (λ x. eq_by_cmp order q x) old)) → set_of new
    ≡ set.insert (set_of old) k
inserted old new k each = same_set nat_list_cmp_total bytes_same _ _ (λ q.
    let turned : eq_by_cmp order k q ≡ eq_by_cmp order q k = (eq_by_cmp_equiv nat_list_cmp_total).symm k q in
    grind (
      arith,
      contains-from_list nat_list_cmp_total new q,
      each q,
      contains-from_list nat_list_cmp_total old q,
      contains-insert nat_list_cmp_total (set_of old) k q,
    ))
