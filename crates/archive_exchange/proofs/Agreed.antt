-- Two sites that answered each other agree.
use Rattle.std.proofs.Common.{◌≡◌, ℕ, zero, suc, ◌<◌, ◌≤◌, min, max, Bool, true, false, ◌&&◌, ◌==◌, List, refl, sym, ap, ◌∙◌, subst, slice_get, arith, inl, inr}
use Rattle.std.specs.declared.option.Option.{Option}
use Rattle.std.specs.declared.option.Option.TheVariants.{None, Some}
use Rattle.std.proofs.lemmas.Bool.{cases_eq, cases_lt, cond_both}
use Rattle.std.specs.FinSet as set
use Rattle.archive_core.specs.Content.{Operations, content_of, joined, IsBelow}
use Rattle.archive_exchange.specs.World.{Event, Take, Retire, Deliver, Stop}
use Rattle.archive_exchange.specs.Reached.{is_stop, site_or, is_of, given}
use Rattle.archive_exchange.specs.Issued.{EntriesDiffer, IsExchange, IsQuiet, is_changing}
use Rattle.archive_exchange.proofs.Content.{union_nothing, below_reflexive, below_transitive, made_antisymmetric, below_left, joined_below}
use Rattle.archive_core.proofs.Summaries.{delta_below}
use Rattle.archive_exchange.proofs.Between.{and_left, and_right}
use Rattle.archive_exchange.proofs.Steps.{holding, gift}
use Rattle.archive_exchange.proofs.Reach.{holding_content, held_on}
use Rattle.archive_exchange.proofs.Deltas.{came, delivered, lifted}

still : (accepted here changes : Bool) → (accepted && here) ≡ true → (changes && here) ≡ false → changes ≡ false
still accepted here changes a b = grind arith

module _ {F : Type 0} (sites : ℕ) (events : List (Event F)) where
  -- another event leaves what is held
  idle_at : (n : ℕ) (e : Option (Event F)) → is_changing e ≡ false → (is_stop e ≡ false) × (given sites events (holding sites events) n e ≡ set.empty)
  idle_at n (Some (Take i file)) h = cc
  idle_at n (Some (Retire i r)) h = cc
  idle_at n (Some (Deliver i m)) h = cc
  idle_at n (Some (Stop i)) h = cc
  idle_at n None h = (refl, refl)
  idle_at n (Some e) h = (refl, refl)

  idle_here : (n i : ℕ) → (is_changing (slice_get events n) && i == site_or (slice_get events n)) ≡ false → is_of sites events i n ≡ true
      → (is_stop (slice_get events n) ≡ false) × (given sites events (holding sites events) n (slice_get events n) ≡ set.empty)
  idle_here n i h of_i = idle_at n (slice_get events n) (still _ _ _ of_i h)

  idle : (n i : ℕ) → (is_changing (slice_get events n) && i == site_or (slice_get events n)) ≡ false → holding sites events (suc n) i ≡ holding sites events n i
  idle n i h =
      let none : gift sites events n i ≡ set.empty =
      cond_both (is_of sites events i n) _ _ (λ g. g ≡ set.empty) (λ of_i. (idle_here n i h of_i).1) (λ _. refl) in
      held_on sites events (λ o. o ≡ holding sites events n i) n i
      (λ stop. cc (
        and_right (is_of sites events i n) (is_stop (slice_get events n)) stop,
        (idle_here n i h (and_left (is_of sites events i n) (is_stop (slice_get events n)) stop)).0,
      ))
      (λ _. ap (joined (holding sites events n i)) none ∙ ap content_of (union_nothing (holding sites events n i)) ∙ holding_content sites events n i)

  idle_range : (n m i : ℕ) → n ≤ m → ((k : ℕ) → n ≤ k → k < m
      → (is_changing (slice_get events k) && i == site_or (slice_get events k)) ≡ false) → holding sites events m i
      ≡ holding sites events n i
  idle_range zero zero i h q = refl
  idle_range (suc n) zero i h q = absurd (omega arith)
  idle_range n (suc m) i h q =
      elim (cases_eq n (suc m)) [
        | inl e ↦ ap (λ k. holding sites events k i) (sym e)
        | inr l ↦ idle m i (q m (omega arith) (omega arith)) ∙ idle_range n m i (omega arith) (λ k a b. q k a (omega arith))
      ]

  module _ (i x a r d low high : ℕ) (is : IsExchange sites events i x a r d) (q : IsQuiet events i low high d) (from : low ≤ d) (to : d ≤ high) where
    early : (f : ℕ) → low ≤ f → f ≤ d → holding sites events f i ≡ holding sites events low i
    early f h l = idle_range low f i h (λ k a b. q.quiet k a (omega arith) (λ e. absurd (omega (arith, e))))

    late : (f : ℕ) → suc d ≤ f → f ≤ suc high → holding sites events f i ≡ holding sites events (suc d) i
    late f h l = idle_range (suc d) f i h (λ k a b. q.quiet k (omega arith) (omega arith) (λ e. absurd (omega (arith, e))))

    once : holding sites events (suc high) i ≡ joined (holding sites events low i) (came sites events i x a r d is)
    once = late (suc high) (omega arith) (omega arith) ∙ delivered sites events i x a r d is
        ∙ ap (λ o. joined o (came sites events i x a r d is)) (early d from (omega arith))

    -- what is held then stands between
    pub between : (f : ℕ) → low ≤ f → f ≤ suc high → (IsBelow (holding sites events low i) (holding sites events f i))
        × (IsBelow (holding sites events f i) (holding sites events (suc high) i))
    between f h l =
        let grown : IsBelow (holding sites events low i) (holding sites events (suc high) i) = rw once (below_left _ _) in
        elim (cases_lt d f) [
          | inl k ↦ let same = late f k l ∙ sym (late (suc high) (omega arith) (omega arith)) in rw same (grown, below_reflexive _)
          | inr k ↦ rw (early f h k) (below_reflexive _, grown)
        ]

  -- one of two sites that answered each other ends below the other
  half : (i j a r d b s e low high : ℕ) → IsExchange sites events i j a r d → IsExchange sites events j i b s e
      → IsQuiet events i low high d → IsQuiet events j low high e → EntriesDiffer sites events
      → low ≤ a → low ≤ b → d ≤ high → e ≤ high → IsBelow (holding sites events (suc high) i) (holding sites events (suc high) j)
  half i j a r d b s e low high one other qi qj telling la lb dh eh =
      let r1 : a < r = one.first in let r2 : r < d = one.second in
      let s1 : b < s = other.first in let s2 : s < e = other.second in
      let ld : low ≤ d = omega arith in let le : low ≤ e = omega arith in
      subst (λ (o : Operations). IsBelow o (holding sites events (suc high) j)) (sym (once i j a r d low high one qi ld dh))
      (joined_below (holding sites events low i) (came sites events i j a r d one) (holding sites events (suc high) j)
      (below_transitive _ _ _ (between i j a r d low high one qi ld dh s (omega arith) (omega arith)).0
      (below_transitive _ _ _ (lifted sites events j i b s e other telling) (between j i b s e low high other qj le eh (suc e) (omega arith) (omega arith)).1))
      (below_transitive _ _ _ (delta_below (holding sites events r j) _) (between j i b s e low high other qj le eh r (omega arith) (omega arith)).1))

  pub agreed : (i j a r d b s e : ℕ) → IsExchange sites events i j a r d → IsExchange sites events j i b s e
      → IsQuiet events i (min a b) (max d e) d → IsQuiet events j (min a b) (max d e) e → EntriesDiffer sites events
      → holding sites events (suc (max d e)) i ≡ holding sites events (suc (max d e)) j
  agreed i j a r d b s e one other qi qj telling =
      made_antisymmetric (holding sites events (suc (max d e)) i) (holding sites events (suc (max d e)) j)
      (holding_content sites events (suc (max d e)) i) (holding_content sites events (suc (max d e)) j)
      (half i j a r d b s e (min a b) (max d e) one other qi qj telling (omega arith) (omega arith) (omega arith) (omega arith))
      (half j i b s e a r d (min a b) (max d e) other one qj qi telling (omega arith) (omega arith) (omega arith) (omega arith))
