-- What the checks of the entries of a part say.
use Rattle.std.proofs.Common.{◌≡◌, ℕ, zero, suc, ◌+◌, ◌<◌, Bool, true, false, not, cond, List, [], ◌∷◌, ◌++◌, length, map, take, get_or}
use Rattle.std.proofs.Common.{refl, sym, ap, ◌∙◌, subst, arith}
use Rattle.std.specs.Prelude.{Ok, filter}
use Rattle.std.specs.List.{AllByRecursion}
use Rattle.std.specs.List.Sorted.{IsStrictlySortedBy}
use Rattle.std.specs.Ordering.{is_lt, nat_cmp}
use Rattle.std.specs.declared.cmp.Ordering.{Ordering}
use Rattle.std.specs.declared.cmp.Ordering.TheVariants.{Less}
use Rattle.std.specs.Cmp.Lexicographic.{slice_cmp, nat_list_cmp_total}
use Rattle.std.proofs.lemmas.List.{get_or-map, length-map, take_more}
use Rattle.std.proofs.lemmas.List.Elements.{All-from_recursion, All-weaker, recursion_from_All}
use Rattle.archive_core.proofs.Made.{by_test}
use Rattle.archive_records.specs.Text.{last_of}
use Rattle.index_format.specs.Entry.{has_tag}
use Rattle.index_format.specs.InnerPaged.{PassInPart, bytes_of, numbers_of}
use Rattle.index_format.specs.Paged.{only}
use Rattle.index_format.specs.Spread.{AreNumbers, spread}
use Rattle.index_format.specs.Text.{PassChecks, check_entry}
use Rattle.index_format.specs.declared.index_fault.IndexFaultKind.TheVariants.{BadTag, BadKind, BadLength, NotAscending, BadTable}
use Rattle.index_format.specs.declared.paged_entry.PagedEntry.{PagedEntry}
use Rattle.index_format.proofs.Ascending.{less_is}
use Rattle.index_format.proofs.Checks.{failed, fine, passed}
use Rattle.index_format.proofs.PartLemmas.{filter_spread}

abbrev order : List ℕ → List ℕ → Ordering
order = slice_cmp nat_cmp

pub pass_checks : (end : ℕ) (low : List ℕ) (xs : List (List ℕ)) → PassInPart end low xs → PassChecks end low xs
pass_checks end low [] h = tt
pass_checks end low (x ∷ xs) h = (h.0, h.1, pass_checks end x xs h.3)

-- their fronts ascend
pub fronts_up : (end : ℕ) (low : List ℕ) (xs : List (List ℕ)) → PassInPart end low xs
    → AllByRecursion (λ y. order (take 74 low) y ≡ Less) (map (take 74) xs) × IsStrictlySortedBy order (map (take 74) xs)
unfolding IsStrictlySortedBy
fronts_up end low [] h = (tt, tt)
fronts_up end low (x ∷ xs) h =
    let rest = fronts_up end x xs h.3 in
    let above = λ (a : List ℕ) (y : List ℕ). order (take 74 a) y ≡ Less in (
      (
        h.2,
        recursion_from_All (above low) (map (take 74) xs) (All-weaker (above x) (above low) (λ y. nat_list_cmp_total.trans (take 74 low) (take 74 x) y h.2)
            (map (take 74) xs) (All-from_recursion (above x) (map (take 74) xs) rest.0)),
      ),
      rest,
    )

-- one entry more
pub part_push : (end : ℕ) (low : List ℕ) (xs : List (List ℕ)) (x : List ℕ) → PassInPart end low xs → length x ≡ 122
    → check_entry end (last_of low xs) x ≡ Ok tt → order (take 74 (last_of low xs)) (take 74 x) ≡ Less → PassInPart end low (xs ++ x ∷ [])
part_push end low [] x a long h up = (long, h, up, tt)
part_push end low (y ∷ ys) x a long h up = (a.0, a.1, a.2, part_push end y ys x a.3 long h up)

-- one of them
pub part_at : (end : ℕ) (low : List ℕ) (xs : List (List ℕ)) (i : ℕ) → PassInPart end low xs → i < length xs
    → (check_entry end (last_of low (take i xs)) (get_or xs i []) ≡ Ok tt)
    × (order (take 74 (last_of low (take i xs))) (take 74 (get_or xs i [])) ≡ Less)
part_at end low [] i h lt = absurd (omega (arith, lt))
part_at end low (x ∷ xs) zero h lt = (h.1, h.2)
part_at end low (x ∷ xs) (suc i) h lt = part_at end x xs i h.3 (omega (arith, lt))

-- ---- those that pass a test

check_lower : (end : ℕ) (low x y : List ℕ) → check_entry end low x ≡ Ok tt → check_entry end x y ≡ Ok tt → check_entry end low y ≡ Ok tt
unfolding check_entry
check_lower end low x y h g =
    let p = passed end x y g in
    let q = passed end low x h in
    let above : is_lt (slice_cmp nat_cmp low y) ≡ true =
    ap is_lt (nat_list_cmp_total.trans low x y (less_is (slice_cmp nat_cmp low x) q.above) (less_is (slice_cmp nat_cmp x y) p.above)) in
    λ i. cond (not (p.tag i)) (failed BadTag) (cond (not (p.kind i)) (failed BadKind)
    (cond (not (p.length_is i)) (failed BadLength) (cond (not (above i)) (failed NotAscending) (cond (not (p.claim i)) (failed BadTable) fine))))

lower : (end : ℕ) (low x : List ℕ) (ys : List (List ℕ)) → check_entry end low x ≡ Ok tt → order (take 74 low) (take 74 x) ≡ Less
    → PassInPart end x ys → PassInPart end low ys
lower end low x [] c up h = tt
lower end low x (y ∷ ys) c up h =
    (h.0, check_lower end low x y c h.1, nat_list_cmp_total.trans (take 74 low) (take 74 x) (take 74 y) up h.2, h.3)

pub part_filter : (p : List ℕ → Bool) (end : ℕ) (low : List ℕ) (xs : List (List ℕ)) → PassInPart end low xs → PassInPart end low (filter p xs)
part_filter p end low [] h = tt
part_filter p end low (x ∷ xs) h = by_test _ (p x)
    (λ yes. subst (λ (b : Bool). PassInPart end low (cond b (x ∷ filter p xs) (filter p xs))) (sym yes) (h.0, h.1, h.2, part_filter p end x xs h.3))
    (λ no. subst (λ (b : Bool). PassInPart end low (cond b (x ∷ filter p xs) (filter p xs))) (sym no)
    (lower end low x (filter p xs) h.1 h.2 (part_filter p end x xs h.3)))

-- ---- so what was read passes if all do

abbrev some : List ℕ → Bool
some [] = false
some (x ∷ xs) = true

has_some : (e : List ℕ) → length e ≡ 122 → some e ≡ true
has_some [] long = absurd (omega (arith, long))
has_some (x ∷ xs) long = refl

long_bytes : (read : List PagedEntry) → filter some (bytes_of read) ≡ bytes_of read
long_bytes [] = refl
long_bytes (e ∷ read) = λ i. cond (has_some e.bytes e.long i) (e.bytes ∷ long_bytes read i) (long_bytes read i)

some_kept : (p : List ℕ → Bool) (entries : List (List ℕ)) → AllByRecursion (λ e. length e ≡ 122) entries → filter some (only p entries) ≡ filter p entries
some_kept p [] long = refl
some_kept p (e ∷ es) long = by_test _ (p e)
    (λ yes.
    (λ i. cond (some (cond (yes i) e [])) (cond (yes i) e [] ∷ filter some (only p es)) (filter some (only p es)))
    ∙ (λ i. cond (has_some e long.0 i) (e ∷ some_kept p es long.1 i) (some_kept p es long.1 i))
    ∙ sym (λ i. cond (yes i) (e ∷ filter p es) (filter p es)))
    (λ no.
    (λ i. cond (some (cond (no i) e [])) (cond (no i) e [] ∷ filter some (only p es)) (filter some (only p es)))
    ∙ some_kept p es long.1
    ∙ sym (λ i. cond (no i) (e ∷ filter p es) (filter p es)))

pub read_bytes : (p : List ℕ → Bool) (count : ℕ) (read : List PagedEntry) (entries : List (List ℕ)) → length (numbers_of read) ≡ length (bytes_of read)
    → AreNumbers count (numbers_of read) → AllByRecursion (λ e. length e ≡ 122) entries
    → spread count (numbers_of read) (bytes_of read) ≡ only p entries → bytes_of read ≡ filter p entries
read_bytes p count read entries many numbers long is =
    sym (long_bytes read) ∙ sym (filter_spread some count (numbers_of read) (bytes_of read) refl many numbers)
    ∙ ap (filter some) is ∙ some_kept p entries long

pub long_part : (end : ℕ) (low : List ℕ) (xs : List (List ℕ)) → PassInPart end low xs → AllByRecursion (λ e. length e ≡ 122) xs
long_part end low [] h = tt
long_part end low (x ∷ xs) h = (h.0, long_part end x xs h.3)

pub tags_in_part : (end : ℕ) (low : List ℕ) (xs : List (List ℕ)) → PassInPart end low xs → AllByRecursion (λ e. has_tag e ≡ true) xs
tags_in_part end low [] h = tt
tags_in_part end low (x ∷ xs) h = ((passed end low x h.1).tag, tags_in_part end x xs h.3)

-- ---- entries of an index pass as a part

above_none : (xs : List (List ℕ)) → AllByRecursion (λ e. length e ≡ 122) xs → AllByRecursion (λ y. order (take 74 []) y ≡ Less) (map (take 74) xs)
above_none [] long = tt
above_none ([] ∷ xs) long = absurd (omega (arith, long.0))
above_none ((a ∷ x) ∷ xs) long = (refl, above_none xs long.1)

pass_after : (end : ℕ) (low : List ℕ) (xs : List (List ℕ)) → PassChecks end low xs
    → AllByRecursion (λ y. order (take 74 low) y ≡ Less) (map (take 74) xs) → IsStrictlySortedBy order (map (take 74) xs) → PassInPart end low xs
unfolding IsStrictlySortedBy
pass_after end low [] h first up = tt
pass_after end low (x ∷ xs) h first up = (h.0, h.1, first.0, pass_after end x xs h.2 up.0 up.1)

long_all : (end : ℕ) (low : List ℕ) (xs : List (List ℕ)) → PassChecks end low xs → AllByRecursion (λ e. length e ≡ 122) xs
long_all end low [] h = tt
long_all end low (x ∷ xs) h = (h.0, long_all end x xs h.2)

pub pass_as_part : (end : ℕ) (xs : List (List ℕ)) → PassChecks end [] xs → IsStrictlySortedBy order (map (take 74) xs) → PassInPart end [] xs
pass_as_part end xs h up = pass_after end [] xs h (above_none xs (long_all end [] xs h)) up

pub many_read : (read : List PagedEntry) → length (numbers_of read) ≡ length (bytes_of read)
many_read [] = refl
many_read (e ∷ read) = ap suc (many_read read)

-- ---- one entry after another

-- its bytes among all
pub bytes_there : (read : List PagedEntry) (i : ℕ) (e : PagedEntry) → i < length read → e ≡ get_or read i e
    → get_or (bytes_of read) i [] ≡ e.bytes
bytes_there read i e lt is =
    get_or-map (λ (x : PagedEntry). x.bytes) read i e [] lt ∙ sym (ap (λ (x : PagedEntry). x.bytes) is)

-- the bytes of one entry more
pub bytes_next : (read : List PagedEntry) (i : ℕ) (e : PagedEntry) → i < length read → e ≡ get_or read i e
    → take (i + 1) (bytes_of read) ≡ take i (bytes_of read) ++ e.bytes ∷ []
bytes_next read i e lt is =
    let within : i < length (bytes_of read) = omega (arith, lt, length-map read (λ (x : PagedEntry). x.bytes)) in
    take_more (bytes_of read) i [] within
    ∙ ap (λ (x : List ℕ). take i (bytes_of read) ++ x ∷ []) (bytes_there read i e lt is)

-- its number among all
number_there : (read : List PagedEntry) (i : ℕ) (e : PagedEntry) → i < length read → e ≡ get_or read i e
    → get_or (numbers_of read) i 0 ≡ e.number
number_there read i e lt is =
    get_or-map (λ (x : PagedEntry). x.number) read i e 0 lt ∙ sym (ap (λ (x : PagedEntry). x.number) is)

-- the number of one entry more
pub number_next : (read : List PagedEntry) (i : ℕ) (e : PagedEntry) → i < length read → e ≡ get_or read i e
    → take (i + 1) (numbers_of read) ≡ take i (numbers_of read) ++ e.number ∷ []
number_next read i e lt is =
    let within : i < length (numbers_of read) = omega (arith, lt, length-map read (λ (x : PagedEntry). x.number)) in
    take_more (numbers_of read) i 0 within
    ∙ ap (λ (n : ℕ). take i (numbers_of read) ++ n ∷ []) (number_there read i e lt is)

-- the number of each is below their count
pub number_below : (count : ℕ) (read : List PagedEntry) (i : ℕ) (e : PagedEntry) → AreNumbers count (numbers_of read)
    → i < length read → e ≡ get_or read i e → e.number < count
number_below count read i e numbers lt is =
    let within : i < length (numbers_of read) = omega (arith, lt, length-map read (λ (x : PagedEntry). x.number)) in
    omega (arith, numbers.below i 0 within, number_there read i e lt is)
