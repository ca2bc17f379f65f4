-- What the checks of entries say.
use Rattle.std.proofs.Common.{◌≡◌, ℕ, ◌+◌, ◌*◌, ◌≤◌, Bool, true, not, cond, List, [], ◌∷◌, ◌++◌, length, take, drop}
use Rattle.std.proofs.Common.{refl, sym, ap, ◌∙◌, subst, arith, length-append, append_assoc}
use Rattle.std.specs.Prelude.{Result, Ok, Err}
use Rattle.std.specs.List.{concat, AllByRecursion}
use Rattle.std.specs.List.Sorted.{IsStrictlySortedBy}
use Rattle.std.specs.Ordering.{nat_cmp, is_lt}
use Rattle.std.specs.declared.cmp.Ordering.TheVariants.{Less}
use Rattle.std.specs.Cmp.Lexicographic.{slice_cmp, nat_list_cmp_total}
use Rattle.std.proofs.lemmas.List.Elements.{All-from_recursion, All-weaker, recursion_from_All}
use Rattle.std.proofs.Math.Seq.{take-append_seam, take-add}
use Rattle.archive_core.proofs.Records.{same_parts}
use Rattle.archive_records.specs.Text.{last_of}
use Rattle.archive_records.proofs.Puts.{concat-push}
use Rattle.index_format.specs.Entry.{has_kind, has_length, has_tag}
use Rattle.index_format.specs.Entry.{has_claim}
use Rattle.index_format.specs.Text.{PassChecks, check_entry}
use Rattle.index_format.specs.declared.index_fault.IndexFaultKind.{IndexFaultKind}
use Rattle.index_format.specs.declared.index_fault.IndexFaultKind.TheVariants.{BadTag, BadKind, BadLength, NotAscending, BadTable}
use Rattle.index_format.proofs.Ascending.{less_is}

abbrev pub fine : Result (Unit {0}) IndexFaultKind
fine = Ok tt

abbrev pub failed : IndexFaultKind → Result (Unit {0}) IndexFaultKind
failed kind = Err kind

all_pass : (a b c d e : Bool)
    → cond (not a) (failed BadTag) (cond (not b) (failed BadKind)
    (cond (not c) (failed BadLength) (cond (not d) (failed NotAscending) (cond (not e) (failed BadTable) fine))))
    ≡ fine
    → (a ≡ true) × (b ≡ true) × (c ≡ true) × (d ≡ true) × (e ≡ true)
all_pass a b c d e h = grind arith

-- an entry that passes its checks
pub record IsPassed (end : ℕ) (last e : List ℕ) : Type 0 where
  pub tag : has_tag e ≡ true
  pub kind : has_kind e ≡ true
  pub length_is : has_length e ≡ true
  pub above : is_lt (slice_cmp nat_cmp last e) ≡ true
  pub claim : has_claim end e ≡ true

pub passed : (end : ℕ) (last e : List ℕ) → check_entry end last e ≡ Ok tt → IsPassed end last e
unfolding check_entry
passed end last e h =
    let p = all_pass (has_tag e) (has_kind e) (has_length e) (is_lt (slice_cmp nat_cmp last e)) (has_claim end e) h in
    record { tag = p.0; kind = p.1; length_is = p.2; above = p.3; claim = p.4 }

-- ---- one entry more

pub pass_push : (end : ℕ) (low : List ℕ) (xs : List (List ℕ)) (x : List ℕ) → PassChecks end low xs → length x ≡ 122
    → check_entry end (last_of low xs) x ≡ Ok tt → PassChecks end low (xs ++ x ∷ [])
pass_push end low [] x a long h = (long, h, tt)
pass_push end low (y ∷ ys) x a long h = (a.0, a.1, pass_push end y ys x a.2 long h)

pub long_entries : (end : ℕ) (low : List ℕ) (xs : List (List ℕ)) → PassChecks end low xs → length (concat xs) ≡ 122 * length xs
long_entries end low [] a = refl
long_entries end low (x ∷ xs) a = omega (arith, length-append x (concat xs), a.0, long_entries end x xs a.2)

-- entries that pass their checks are strictly sorted, and above what they are after
pub pass_ascending : (end : ℕ) (low : List ℕ) (xs : List (List ℕ)) → PassChecks end low xs
    → AllByRecursion (λ y. slice_cmp nat_cmp low y ≡ Less) xs × IsStrictlySortedBy (slice_cmp nat_cmp) xs
unfolding IsStrictlySortedBy
pass_ascending end low [] a = (tt, tt)
pass_ascending end low (x ∷ xs) a =
    let rest = pass_ascending end x xs a.2 in
    let lt = less_is (slice_cmp nat_cmp low x) (passed end low x a.1).above in
    let above = λ (low : List ℕ) (y : List ℕ). slice_cmp nat_cmp low y ≡ Less in (
      (
        lt,
        recursion_from_All (above low) xs (All-weaker (above x) (above low) (λ y. nat_list_cmp_total.trans low x y lt)
            xs (All-from_recursion (above x) xs rest.0)),
      ),
      rest,
    )

-- the bytes of one entry more
pub concat_more : (bytes : List ℕ) (xs : List (List ℕ)) (k : ℕ) → concat xs ≡ take (122 * k) bytes
    → concat (xs ++ take 122 (drop (122 * k) bytes) ∷ []) ≡ take (122 * (k + 1)) bytes
concat_more bytes xs k whole =
    let next : 122 * k + 122 ≡ 122 * (k + 1) = omega arith in
    concat-push xs (take 122 (drop (122 * k) bytes)) ∙ ap (λ (t : List ℕ). t ++ take 122 (drop (122 * k) bytes)) whole
    ∙ sym (take-add (122 * k) 122 bytes) ∙ ap (λ (n : ℕ). take n bytes) next

-- ---- bytes begin with entries in one way

-- no entry that passes its checks is next
abbrev pub IsStop : ℕ → List ℕ → List ℕ → Type 0
IsStop end last rest = 122 ≤ length rest → check_entry end last (take 122 rest) ≡ Ok tt → ⊥

entry_next : (end : ℕ) (last x s rest : List ℕ) → length x ≡ 122 → check_entry end last x ≡ Ok tt → s ≡ x ++ rest → IsStop end last s → ⊥
entry_next end last x s rest long h is stop =
    let beginning : take 122 s ≡ x = ap (take 122) is ∙ ap (λ (n : ℕ). take n (x ++ rest)) (sym long) ∙ take-append_seam x rest in
    stop (omega (arith, ap length is, length-append x rest, long)) (ap (check_entry end last) beginning ∙ h)

pub one_front : (end : ℕ) (low : List ℕ) (xs ys : List (List ℕ)) (s r t : List ℕ) → PassChecks end low xs
    → PassChecks end low ys → s ≡ concat xs ++ r → s ≡ concat ys ++ t
    → IsStop end (last_of low xs) r → IsStop end (last_of low ys) t → (xs ≡ ys) × (r ≡ t)
one_front end low [] [] s r t a b p q u v = (refl, sym p ∙ q)
one_front end low [] (y ∷ ys) s r t a b p q u v =
    absurd (entry_next end low y r (concat ys ++ t) b.0 b.1 (sym p ∙ q ∙ append_assoc y (concat ys) t) u)
one_front end low (x ∷ xs) [] s r t a b p q u v =
    absurd (entry_next end low x t (concat xs ++ r) a.0 a.1 (sym q ∙ p ∙ append_assoc x (concat xs) r) v)
one_front end low (x ∷ xs) (y ∷ ys) s r t a b p q u v =
    let parts = same_parts x y (concat xs ++ r) (concat ys ++ t) (a.0 ∙ sym b.0)
    (sym (append_assoc x (concat xs) r) ∙ sym p ∙ q ∙ append_assoc y (concat ys) t) in
    let rest = one_front end x xs ys (concat xs ++ r) r t a.2
    (subst (λ (l : List ℕ). PassChecks end l ys) (sym parts.0) b.2) refl parts.1 u
    (subst (λ (l : List ℕ). IsStop end (last_of l ys) t) (sym parts.0) v) in
    (cc (parts.0, rest.0), rest.1)
