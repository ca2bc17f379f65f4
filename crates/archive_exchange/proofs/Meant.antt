-- The set of what reaches a site, in words.
use Rattle.std.proofs.Common.{◌≡◌, ℕ, zero, suc, ◌<◌, Bool, true, false, not, ◌&&◌, ◌||◌, if◌then◌else◌, nat_lt, List}
use Rattle.std.proofs.Common.{refl, sym, ◌∙◌, arith, inl, inr, slice_get}
use Rattle.std.proofs.lemmas.Bool.{cases_eq, ltb-true}
use Rattle.std.proofs.lemmas.Bool.Decides.{nat_tests}
use Rattle.std.specs.Ordering.{nat_cmp}
use Rattle.std.specs.Cmp.Lexicographic.{slice_cmp, nat_list_cmp_total}
use Rattle.std.specs.FinSet as set
use Rattle.std.specs.FinSet.{contains, contains-union, contains-empty}
use Rattle.archive_core.specs.Content.{Operations}
use Rattle.archive_exchange.specs.World.{Event}
use Rattle.archive_exchange.specs.Reached.{each_between, some_between, union_below, is_of, stops, saves, is_kept, given, reaching, Reaches}
use Rattle.archive_exchange.proofs.Between.{and_left, and_right}
use Rattle.archive_exchange.proofs.Kept.{either}

in_union : (n : ℕ) (f : ℕ → Operations) (q : List ℕ) → contains (union_below n f) q ≡ true → (k : ℕ) × (k < n) × (contains (f k) q ≡ true)
in_union zero f q h = cc (contains-empty (slice_cmp nat_cmp) q)
in_union (suc n) f q h = either _ (contains (union_below n f) q) (contains (f n) q)
    (λ a. let found = in_union n f q a in (found.0, omega (arith, found.1), found.2))
    (λ b. (n, omega arith, b))
    (sym (contains-union nat_list_cmp_total (union_below n f) (f n) q) ∙ h)

to_union : (n : ℕ) (f : ℕ → Operations) (q : List ℕ) (k : ℕ) → k < n → contains (f k) q ≡ true → contains (union_below n f) q ≡ true
to_union zero f q k l h = absurd (omega arith)
to_union (suc n) f q k l h =
    let both = contains-union nat_list_cmp_total (union_below n f) (f n) q in
    elim (cases_eq k n) [
      | inl e ↦ let here : contains (f n) q ≡ true = rw (← e) h in grind arith
      | inr m ↦ let before = to_union n f q k (omega arith) h in grind arith
    ]

from_some : (k n : ℕ) (p : ℕ → Bool) → some_between k n p ≡ true → (t : ℕ) × (k < t) × (t < n) × (p t ≡ true)
from_some k zero p h = cc
from_some k (suc n) p h = either _ (nat_lt k n && p n) (some_between k n p)
    (λ a. (n, ltb-true k n (and_left (nat_lt k n) (p n) a), omega arith, and_right (nat_lt k n) (p n) a))
    (λ b. let found = from_some k n p b in (found.0, found.1, omega (arith, found.2), found.3))
    h

to_some : (k n : ℕ) (p : ℕ → Bool) (t : ℕ) → k < t → t < n → p t ≡ true → some_between k n p ≡ true
to_some k zero p t a b h = absurd (omega arith)
to_some k (suc n) p t a b h = elim (cases_eq t n) [
  | inl e ↦ let here : p n ≡ true = rw (← e) h in grind (arith, nat_tests)
  | inr m ↦ let before = to_some k n p t a (omega arith) h in grind arith
]

from_each : (k n : ℕ) (p : ℕ → Bool) → each_between k n p ≡ true → (s : ℕ) → k < s → s < n → p s ≡ true
from_each k zero p h s a b = absurd (omega arith)
from_each k (suc n) p h s a b = elim (cases_eq s n) [
  | inl e ↦ rw e (grind (arith, nat_tests))
  | inr m ↦ from_each k n p (and_right _ _ h) s a (omega arith)
]

to_each : (k n : ℕ) (p : ℕ → Bool) → ((s : ℕ) → k < s → s < n → p s ≡ true) → each_between k n p ≡ true
to_each k zero p h = refl
to_each k (suc n) p h =
    let before = to_each k n p (λ s a b. h s a (omega arith)) in
    let here : k < n → p n ≡ true = λ l. h n l (omega arith) in
    grind (arith, nat_tests)

in_if : (b : Bool) (o : Operations) (q : List ℕ) → contains (if b then o else set.empty) q ≡ true → (b ≡ true) × (contains o q ≡ true)
in_if true o q h = (refl, h)
in_if false o q h = cc (contains-empty (slice_cmp nat_cmp) q)

-- what holds where a test does
where_true : (a b : Bool) → a ≡ true → (not a || b) ≡ true → b ≡ true
where_true a b = grind arith

or_else : (a b : Bool) → (a ≡ true → b ≡ true) → (not a || b) ≡ true
or_else a b = grind arith

module _ {F : Type 0} (sites : ℕ) (events : List (Event F)) (had : ℕ → ℕ → Operations) (o : List ℕ) (i n : ℕ) where
  pub reaching_reaches : contains (reaching sites events had i n) o ≡ true → Reaches sites events had o i n
  reaching_reaches h =
      let found = in_union n (λ k. if is_of sites events i k && is_kept sites events i k n
      then given sites events had k (slice_get events k) else set.empty) o h in
      let parts = in_if (is_of sites events i found.0 && is_kept sites events i found.0 n)
      (given sites events had found.0 (slice_get events found.0)) o found.2 in
      record {
        number = found.0;
        before = found.1;
        of_site = and_left _ _ parts.0;
        gave = parts.1;
        kept = λ s a b stop. from_some found.0 s (saves sites events i) (where_true _ _ stop
            (from_each found.0 n (λ s. not (stops sites events i s) || some_between found.0 s (saves sites events i))
            (and_right (is_of sites events i found.0) _ parts.0) s a b));
      }

  pub reaches_reaching : Reaches sites events had o i n → contains (reaching sites events had i n) o ≡ true
  reaches_reaching is =
      let kept : is_kept sites events i is.number n ≡ true = to_each is.number n _ (λ s a b. or_else _ _ (λ stop.
      let t : (t : ℕ) × (is.number < t) × (t < s) × (saves sites events i t ≡ true) = is.kept s a b stop
      in to_some is.number s (saves sites events i) t.0 t.1 t.2 t.3)) in
      to_union n _ o is.number is.before (rw (is.of_site, kept) is.gave)
