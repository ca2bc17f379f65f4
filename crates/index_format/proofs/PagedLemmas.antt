-- Entries in the bytes that they fill, and the places that halving finds among them.
use Rattle.std.proofs.Common.{◌≡◌, ℕ, zero, suc, ◌+◌, ◌*◌, ◌-◌, ◌<◌, ◌≤◌, List, [], ◌∷◌, ◌++◌, length, take, drop}
use Rattle.std.proofs.Common.{get_or, refl, sym, ap, ◌∙◌, subst, arith, Bool, true, false, nat_lt}
use Rattle.std.specs.Prelude.{slice_index_or, Decides}
use Rattle.std.specs.declared.cmp.Ordering.{Ordering}
use Rattle.std.specs.declared.cmp.Ordering.TheVariants.{Less, Equal, Greater}
use Rattle.std.specs.Ordering.{nat_cmp, is_lt, is_le}
use Rattle.std.specs.Cmp.Lexicographic.{slice_cmp}
use Rattle.std.specs.List.{AllByRecursion, AllWithin, concat}
use Rattle.std.specs.List.Sorted.{IsStrictlySortedBy}
use Rattle.std.proofs.lemmas.Bool.Decides.{nat_tests}
use Rattle.std.proofs.lemmas.List.{drop_at, drop-drop, get_or_default, take-append-le, take_at}
use Rattle.archive_core.proofs.Made.{by_test}
use Rattle.table_checked_pages.specs.Halving.{IsEdge}
use Rattle.index_format.specs.Paged.{FillBytes, IsRunWithin, is_up_to}
use Rattle.index_format.proofs.Ascending.{less_is}
use Rattle.index_format.proofs.RunLemmas.{begins, parts}

abbrev order : List ℕ → List ℕ → Ordering
order = slice_cmp nat_cmp

-- how an entry begins, in the bytes of all
front_of : (entries : List (List ℕ)) (k : ℕ) → AllByRecursion (λ e. length e ≡ 122) entries → k < length entries
    → take 17 (drop (122 * k) (concat entries)) ≡ take 17 (get_or entries k [])
front_of [] k long lt = absurd (omega arith)
front_of (e ∷ es) zero long lt = take-append-le 17 e (concat es) (omega (arith, long.0))
front_of (e ∷ es) (suc k) long lt =
    let all : List ℕ = e ++ concat es in
    let far : 122 * suc k ≡ 122 + 122 * k = omega arith in
    ap (λ (n : ℕ). take 17 (drop n all)) far ∙ ap (take 17) (sym (drop-drop (122 * k) 122 all))
    ∙ ap (λ (b : List ℕ). take 17 (drop (122 * k) b)) (drop_at e (concat es) 122 long.0)
    ∙ front_of es k long.1 (omega arith)

-- and so it is read
pub front_read : (buf all : List ℕ) (entries : List (List ℕ)) (count k : ℕ) → FillBytes entries count all → k < count
    → length buf ≡ 17 → buf ≡ take (length buf) (drop (122 * k) all) → buf ≡ take 17 (slice_index_or entries k [])
front_read buf all entries count k fill lt long read =
    read ∙ ap (λ (n : ℕ). take n (drop (122 * k) all)) long
    ∙ ap (λ (b : List ℕ). take 17 (drop (122 * k) b)) (sym fill.whole)
    ∙ front_of entries k fill.long (omega (arith, fill.many, lt))

-- the bytes of a whole entry
entry_of : (entries : List (List ℕ)) (k : ℕ) → AllByRecursion (λ e. length e ≡ 122) entries → k < length entries
    → take 122 (drop (122 * k) (concat entries)) ≡ get_or entries k []
entry_of [] k long lt = absurd (omega arith)
entry_of (e ∷ es) zero long lt = take_at e (concat es) 122 long.0
entry_of (e ∷ es) (suc k) long lt =
    let all : List ℕ = e ++ concat es in
    let far : 122 * suc k ≡ 122 + 122 * k = omega arith in
    ap (λ (n : ℕ). take 122 (drop n all)) far ∙ ap (take 122) (sym (drop-drop (122 * k) 122 all))
    ∙ ap (λ (b : List ℕ). take 122 (drop (122 * k) b)) (drop_at e (concat es) 122 long.0)
    ∙ entry_of es k long.1 (omega arith)

-- and so it is read
pub entry_read : (buf all : List ℕ) (entries : List (List ℕ)) (count k : ℕ) → FillBytes entries count all → k < count
    → length buf ≡ 122 → buf ≡ take (length buf) (drop (122 * k) all) → buf ≡ slice_index_or entries k []
entry_read buf all entries count k fill lt long read =
    read ∙ ap (λ (n : ℕ). take n (drop (122 * k) all)) long
    ∙ ap (λ (b : List ℕ). take 122 (drop (122 * k) b)) (sym fill.whole)
    ∙ entry_of entries k fill.long (omega (arith, fill.many, lt))

-- what is compared decides
pub up_decides : (b with : Bool) (r : Ordering) (x y w : List ℕ) → b ≡ is_up_to with r → r ≡ slice_cmp nat_cmp x w → x ≡ y
    → Decides b (is_up_to with (slice_cmp nat_cmp y w) ≡ true)
up_decides b with r x y w said compared same =
    let is : b ≡ is_up_to with (slice_cmp nat_cmp y w) = said ∙ ap (is_up_to with) (compared ∙ ap (λ (t : List ℕ). slice_cmp nat_cmp t w) same) in
    (λ h. sym is ∙ h, λ h. is ∙ h)

-- an edge among entries that ascend parts them, from one number up to another
edge_point : (test : Ordering → Bool) (less : test Less ≡ true) (greater : test Greater ≡ false) (n : ℕ) (w : List ℕ)
    (entries : List (List ℕ)) (from to place : ℕ) → IsStrictlySortedBy order entries
    → AllByRecursion (λ e. n ≤ length e) entries → to ≤ length entries → from ≤ to
    → IsEdge (λ k. test (order (take n (slice_index_or entries k [])) w) ≡ true) from to place
    → AllWithin (λ e. test (begins n w e) ≡ true) entries from place
    × AllWithin (λ e. test (begins n w e) ≡ false) entries place to
edge_point test less greater n w entries from to place ascending long all le edge =
    let within : place ≤ to = edge.most le in
    let P : List ℕ → Type 0 = λ e. test (begins n w e) ≡ true in
    let parted = parts test less greater n w entries ascending long in
    let same : (k : ℕ) (d : List ℕ) → k < length entries → get_or entries k [] ≡ get_or entries k d =
    λ k d lt. get_or_default entries k [] d lt in
    let before : AllWithin P entries from place =
    λ k d low lt. subst P (same k d (omega (arith, within, all, lt)))
    (parted k (place - 1) [] (omega (arith, lt)) (omega (arith, within, all, lt)) (edge.before (omega (arith, low, lt)))) in
    let behind : AllWithin (λ e. test (begins n w e) ≡ false) entries place to =
    λ k d low lt. by_test _ (test (begins n w (get_or entries k d)))
    (λ yes. absurd (edge.at (omega (arith, low, lt))
    (parted place k [] low (omega (arith, lt, all)) (subst P (sym (same k d (omega (arith, lt, all)))) yes))))
    (λ no. no) in
    (before, behind)

long_enough : (n : ℕ) (entries : List (List ℕ)) → n ≤ 122 → AllByRecursion (λ e. length e ≡ 122) entries
    → AllByRecursion (λ e. n ≤ length e) entries
long_enough n [] le long = tt
long_enough n (e ∷ es) le long = (omega (arith, long.0, le), long_enough n es le long.1)

at_least : (r : Ordering) → is_lt r ≡ false → is_le r ≡ true → r ≡ Equal
at_least r h g = grind arith

above : (r : Ordering) → is_le r ≡ false → r ≡ Greater
above r h = grind arith

-- the run between the two edges
pub run_between : (tag : ℕ) (uuid w all : List ℕ) (entries : List (List ℕ)) (count from to start stop : ℕ)
    → w ≡ tag ∷ uuid → FillBytes entries count all → IsStrictlySortedBy (slice_cmp nat_cmp) entries → from ≤ to → to ≤ count
    → IsEdge (λ k. is_up_to false (slice_cmp nat_cmp (take 17 (slice_index_or entries k [])) w) ≡ true) from to start
    → IsEdge (λ k. is_up_to true (slice_cmp nat_cmp (take 17 (slice_index_or entries k [])) w) ≡ true) start to stop
    → IsRunWithin tag uuid entries from to start stop
run_between tag uuid w all entries count from to start stop w_is fill ascending le few first second =
    let short : to ≤ length entries = omega (arith, few, fill.many) in
    let long = long_enough 17 entries (omega arith) fill.long in
    let within : start ≤ to = first.most le in
    let last : stop ≤ to = second.most within in
    let E : (Ordering → Bool) → ℕ → ℕ → List ℕ → Type 0 =
    λ test low place v. IsEdge (λ k. test (order (take 17 (slice_index_or entries k [])) v) ≡ true) low to place in
    let p = edge_point is_lt refl refl 17 (tag ∷ uuid) entries from to start ascending long short le (subst (E is_lt from start) w_is first) in
    let q = edge_point is_le refl refl 17 (tag ∷ uuid) entries start to stop ascending long short within (subst (E is_le start stop) w_is second) in
    record {
      least = first.least;
      ordered = second.least;
      most = last;
      before = λ k d low lt. less_is _ (p.0 k d low lt);
      inside = λ k d low lt. at_least _ (p.1 k d low (omega (arith, lt, last))) (q.0 k d low lt);
      behind = λ k d low lt. above _ (q.1 k d low lt);
    }

-- an edge that is found near is one up to the end
pub edge_near : (P : ℕ → Type 0) (start near to stop : ℕ) → near ≤ to → stop < near → IsEdge P start near stop → IsEdge P start to stop
edge_near P start near to stop far lt edge = record {
  least = edge.least;
  most = λ le. omega (arith, lt, far);
  before = edge.before;
  at = λ within. edge.at lt;
}

-- and where all that are near pass, the next one is
pub edge_far : (P : ℕ → Type 0) (start near to stop last : ℕ) → start ≤ near → near ≤ to → near ≤ stop
    → IsEdge P start near stop → IsEdge P near to last → IsEdge P start to last
edge_far P start near to stop last low far all first second = record {
  least = omega (arith, low, second.least);
  most = λ le. second.most far;
  before = λ more. by_test _ (nat_lt near last)
      (λ yes. let behind : near < last = grind (arith, nat_tests) in second.before behind)
      (λ no.
      let none : last ≤ near = grind (arith, nat_tests) in
      let same : stop - 1 ≡ last - 1 = omega (arith, none, second.least, all, first.most low) in
      subst P same (first.before (omega (arith, more, none, all))));
  at = second.at;
}
