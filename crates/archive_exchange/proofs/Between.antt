-- Which operations reach a site by the next number of events.
use Rattle.std.proofs.Common.{◌≡◌, ℕ, zero, suc, ◌<◌, ◌≤◌, Bool, true, false, not, ◌&&◌, ◌||◌, if◌then◌else◌, refl, arith}
use Rattle.std.proofs.lemmas.Bool.Decides.{nat_tests}
use Rattle.std.specs.FinSet as set
use Rattle.archive_core.specs.Content.{Operations}
use Rattle.archive_exchange.specs.Reached.{each_between, some_between, union_below}
use Rattle.archive_exchange.proofs.Content.{union_nothing}
pub use Rattle.archive_core.proofs.Made.{and_left, and_right}

pub union_below_same : (n : ℕ) (f g : ℕ → Operations) → ((k : ℕ) → k < n → f k ≡ g k) → union_below n f ≡ union_below n g
union_below_same zero f g h = refl
union_below_same (suc n) f g h = let e = union_below_same n f g (λ k l. h k (omega arith)) in let last = h n (omega arith) in cc

each_none : (p : ℕ → Bool) (k n : ℕ) → n ≤ suc k → each_between k n p ≡ true
each_none p k zero h = refl
each_none p k (suc n) h = let rest = each_none p k n (omega arith) in grind (arith, nat_tests)

some_none : (p : ℕ → Bool) (k n : ℕ) → n ≤ suc k → some_between k n p ≡ false
some_none p k zero h = refl
some_none p k (suc n) h = let rest = some_none p k n (omega arith) in grind (arith, nat_tests)

-- by the events that are a site's own, those of them that stop and save, and what each gives
module _ (own stop save : ℕ → Bool) (give : ℕ → Operations) where
  abbrev kept : ℕ → ℕ → Bool
  kept k n = each_between k n (λ s. not (stop s) || some_between k s save)

  -- what reaches the site
  abbrev pub reach : ℕ → Operations
  reach n = union_below n (λ k. if own k && kept k n then give k else set.empty)

  -- what a Stop at n would leave
  abbrev pub keep : ℕ → Operations
  keep n = union_below n (λ k. if own k && (some_between k n save && kept k n) then give k else set.empty)

  pub reach_next : (n : ℕ) → stop n ≡ false → reach (suc n) ≡ set.union (reach n) (if own n then give n else set.empty)
  reach_next n h =
      let before : union_below n (λ k. if own k && kept k (suc n) then give k else set.empty)
      ≡ reach n = union_below_same n _ _ (λ k l. grind (arith, nat_tests)) in
      let here : kept n (suc n) ≡ true = each_none (λ s. not (stop s) || some_between n s save) n (suc n) (omega arith) in
      rw (before, here) (grind arith)

  pub reach_stop : (n : ℕ) → stop n ≡ true → give n ≡ set.empty → reach (suc n) ≡ keep n
  reach_stop n h e =
      let before : union_below n (λ k. if own k && kept k (suc n) then give k else set.empty)
      ≡ keep n = union_below_same n _ _ (λ k l. grind (arith, nat_tests)) in
      rw before (grind (arith, union_nothing))

  keep_by : (n : ℕ) (f : ℕ → Bool) → ((k : ℕ) → k < n → (some_between k (suc n) save && kept k (suc n)) ≡ f k)
      → keep (suc n) ≡ union_below n (λ k. if own k && f k then give k else set.empty)
  keep_by n f same =
      let before : union_below n (λ k. if own k && (some_between k (suc n) save && kept k (suc n)) then give k
      else set.empty) ≡ union_below n (λ k. if own k && f k then give k else set.empty) =
      union_below_same n _ _ (λ k l. let e = same k l in grind arith) in
      let here : some_between n (suc n) save ≡ false = some_none save n (suc n) (omega arith) in
      rw (before, here) (grind (arith, union_nothing))

  pub keep_next : (n : ℕ) → save n ≡ false → keep (suc n) ≡ keep n
  keep_next n s = keep_by n (λ k. some_between k n save && kept k n) (λ k l. grind (arith, nat_tests))

  pub keep_save : (n : ℕ) → save n ≡ true → stop n ≡ false → keep (suc n) ≡ reach n
  keep_save n s h = keep_by n (λ k. kept k n) (λ k l. grind (arith, nat_tests))
