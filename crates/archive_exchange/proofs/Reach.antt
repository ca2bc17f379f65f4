-- What a site holds is made by what reaches it.
use Rattle.std.proofs.Common.{◌≡◌, ℕ, zero, suc, Bool, true, false, ◌&&◌, List, refl, sym, ap, ◌∙◌, arith, slice_get}
use Rattle.std.specs.declared.option.Option.{Option}
use Rattle.std.specs.declared.option.Option.TheVariants.{None, Some}
use Rattle.std.specs.FinSet as set
use Rattle.archive_core.specs.Content.{Operations, content_of, joined, IsMade}
use Rattle.archive_exchange.specs.World.{Event, Save, Ask, Stop}
use Rattle.archive_exchange.specs.Reached.{is_saving, is_stop, is_of, stops, saves, given, reaching}
use Rattle.archive_exchange.proofs.Content.{made_empty, made_again, joined_made}
use Rattle.archive_exchange.proofs.Between.{and_right, keep, reach_next, reach_stop, keep_next, keep_save}
use Rattle.archive_exchange.proofs.Steps.{holding, saving, gift, held_next, saved_next}

no_stop_saves : {F : Type 0} (e : Option (Event F)) → is_saving e ≡ true → is_stop e ≡ false
no_stop_saves (Some (Ask i)) h = refl
no_stop_saves (Some (Save i)) h = refl
no_stop_saves None h = cc
no_stop_saves (Some e) h = cc

and_not : (a b c : Bool) → (b ≡ true → c ≡ false) → (a && b) ≡ true → (a && c) ≡ false
and_not a b c h = grind arith

module _ {F : Type 0} (sites : ℕ) (events : List (Event F)) where
  pub saving_no_stop : (i n : ℕ) → saves sites events i n ≡ true → stops sites events i n ≡ false
  saving_no_stop i n = and_not _ _ _ (no_stop_saves (slice_get events n))

  -- what event n gives its site
  abbrev gives : ℕ → Operations
  gives n = given sites events (holding sites events) n (slice_get events n)

  given_stop : (n : ℕ) (e : Option (Event F)) → is_stop e ≡ true → given sites events (holding sites events) n e ≡ set.empty
  given_stop n (Some (Stop i)) h = refl
  given_stop n None h = refl
  given_stop n (Some e) h = cc

  -- both contents of a site, by the events alone
  pub record IsBoth (n i : ℕ) : Type 0 where
    pub held : holding sites events n i ≡ content_of (reaching sites events (holding sites events) i n)
    pub saved : saving sites events n i ≡ content_of (keep (is_of sites events i) (stops sites events i) (saves sites events i) gives n)

  made_by : (n i : ℕ) → IsBoth n i → IsMade (holding sites events n i)
  made_by n i both = ap content_of both.held ∙ made_again _ ∙ sym both.held

  pub both_by : (n i : ℕ) → IsBoth n i
  both_by zero i = record { held = sym made_empty; saved = sym made_empty }
  both_by (suc n) i =
      let both : IsBoth n i = both_by n i in
      record {
        held = held_next sites events (λ o. o ≡ content_of (reaching sites events (holding sites events) i (suc n))) n i (made_by n i both)
            (λ h. both.saved ∙ ap content_of (sym (reach_stop (is_of sites events i) (stops sites events i)
            (saves sites events i) gives n h (given_stop n (slice_get events n) (and_right _ _ h)))))
            (λ h. ap (λ o. joined o (gift sites events n i)) both.held ∙ joined_made _ _
            ∙ ap content_of (sym (reach_next (is_of sites events i) (stops sites events i) (saves sites events i)
            gives n h)));
        saved = saved_next sites events (λ o. o ≡ content_of (keep (is_of sites events i) (stops sites events i) (saves sites events i) gives (suc n))) n i
            (λ h. both.held ∙ ap content_of (sym (keep_save (is_of sites events i) (stops sites events i)
            (saves sites events i) gives n h (saving_no_stop i n h))))
            (λ h. both.saved ∙ ap content_of (sym (keep_next (is_of sites events i) (stops sites events i) (saves sites events i) gives n h)));
      }

  pub holding_content : (n i : ℕ) → IsMade (holding sites events n i)
  holding_content n i = made_by n i (both_by n i)

  -- what event number n leaves at a site
  pub held_on : (P : Operations → Type 0) (n i : ℕ) → (stops sites events i n ≡ true → P (saving sites events n i))
      → (stops sites events i n ≡ false → P (joined (holding sites events n i) (gift sites events n i))) → P (holding sites events (suc n) i)
  held_on P n i = held_next sites events P n i (holding_content n i)
