-- What a site had, by the events alone, is what it holds.
use Rattle.std.proofs.Common.{◌≡◌, ℕ, zero, suc, ◌<◌, ◌≤◌, Bool, true, false, ◌&&◌, if◌then◌else◌, List, [], ◌∷◌, ◌++◌}
use Rattle.std.proofs.Common.{length, refl, sym, ap, ◌∙◌, slice_get, arith, ◌⊎◌, inl, inr}
use Rattle.std.specs.declared.result.Result.TheVariants.{Ok}
use Rattle.std.specs.declared.option.Option.{Option}
use Rattle.std.specs.declared.option.Option.TheVariants.{None, Some}
use Rattle.std.specs.FinSet as set
use Rattle.archive_core.specs.Content.{Operations, content_of}
use Rattle.archive_core.specs.Summary.{summary, delta}
use Rattle.archive_exchange.specs.World.{Event, Take, Retire, Full, Ask, Reply, Deliver, Content, Summary, operations_of}
use Rattle.archive_exchange.specs.Reached.{is_accepted, is_sending, is_of, is_kept, site_or, senders, asked}
use Rattle.archive_exchange.specs.Reached.{message_sent, carried, given, reaching, had_within, had, reached}
use Rattle.archive_exchange.proofs.Between.{union_below_same}
use Rattle.archive_exchange.proofs.Steps.{holding}
use Rattle.archive_exchange.proofs.Reach.{both_by}

-- at a place is what stood there before, or what was added
before_or_last : (fs : List ℕ) (b : Bool) (n m f : ℕ) → slice_get (fs ++ (if b then n ∷ [] else [])) m ≡ Some f → (slice_get fs m ≡ Some f) ⊎ (f ≡ n)
before_or_last [] true n zero f h = inr cc
before_or_last [] true n (suc m) f h = cc
before_or_last [] false n m f h = cc
before_or_last (x ∷ fs) b n zero f h = inl h
before_or_last (x ∷ fs) b n (suc m) f h = before_or_last fs b n m f h

module _ {F : Type 0} (sites : ℕ) (events : List (Event F)) where
  pub sender_below : (n m f : ℕ) → slice_get (senders sites events n) m ≡ Some f → f < n
  sender_below zero m f h = cc
  sender_below (suc n) m f h =
      elim (before_or_last (senders sites events n) (is_accepted sites events (senders sites events n)
      (slice_get events n) && is_sending (slice_get events n)) n m f h) [
        | inl e ↦ let l = sender_below n m f e in omega arith
        | inr e ↦ omega arith
      ]

  module _ (a b : ℕ → ℕ → Operations) (n : ℕ) (same : (f : ℕ) → f < n → (x : ℕ) → a f x ≡ b f x) where
    asked_same : (o : Option ℕ) → ((f : ℕ) → o ≡ Some f → f < n) → asked sites events a o ≡ asked sites events b o
    asked_same None h = refl
    asked_same (Some f) h = ap summary (same f (h f refl) (site_or (slice_get events f)))

    message_same : (f : ℕ) → f < n → (e : Option (Event F)) → message_sent sites events a f e ≡ message_sent sites events b f e
    message_same f l (Some (Full x)) = ap Content (same f l x)
    message_same f l (Some (Ask x)) = ap (λ o. Summary (summary o)) (same f l x)
    message_same f l (Some (Reply x m)) =
        ap (λ o. Content (delta o (asked sites events a (slice_get (senders sites events f) m)))) (same f l x)
        ∙ ap (λ s. Content (delta (b f x) s)) (asked_same (slice_get (senders sites events f) m) (λ g e. let k : g < f = sender_below f m g e in omega arith))
    message_same f l _ = refl

    carried_same : (o : Option ℕ) → ((f : ℕ) → o ≡ Some f → f < n) → carried sites events a o ≡ carried sites events b o
    carried_same None h = refl
    carried_same (Some f) h = ap operations_of (message_same f (h f refl) (slice_get events f))

    given_same : (k : ℕ) → k < n → (e : Option (Event F)) → given sites events a k e ≡ given sites events b k e
    given_same k l (Some (Take i (Ok parts))) = refl
    given_same k l (Some (Retire i r)) = refl
    given_same k l (Some (Deliver i m)) = carried_same (slice_get (senders sites events k) m) (λ g e. let j : g < k = sender_below k m g e in omega arith)
    given_same k l _ = refl

    -- what reaches a site by n rests on what sites had before n
    reaching_same : (i : ℕ) → reaching sites events a i n ≡ reaching sites events b i n
    reaching_same i = union_below_same n _ _ (λ k l. ap
        (λ g. if is_of sites events i k && is_kept sites events i k n then g else set.empty)
        (given_same k l (slice_get events k)))

  within : (depth n i : ℕ) → n ≤ depth → had_within sites events depth n i ≡ holding sites events n i
  within zero zero i h = refl
  within zero (suc n) i h = absurd (omega arith)
  within (suc depth) n i h =
      ap content_of (reaching_same (had_within sites events depth) (holding sites events) n (λ f l x. within depth f x (omega arith)) i)
      ∙ sym (both_by sites events n i).held

  -- what a site holds is what it had
  pub had_holds : (n i : ℕ) → had sites events n i ≡ holding sites events n i
  had_holds n i = within n n i (omega arith)

  pub reaching_had : (n i : ℕ) → reaching sites events (had sites events) i n ≡ reaching sites events (holding sites events) i n
  reaching_had n i = reaching_same (had sites events) (holding sites events) n (λ f l x. had_holds f x) i

  -- it is the content that the operations make which reach the site
  pub had_made : (n i : ℕ) → had sites events n i ≡ content_of (reaching sites events (had sites events) i n)
  had_made n i = had_holds n i ∙ (both_by sites events n i).held ∙ ap content_of (sym (reaching_had n i))

  pub held_reached : (i : ℕ) → holding sites events (length events) i ≡ content_of (reached sites events i)
  held_reached i = (both_by sites events (length events) i).held ∙ ap content_of (sym (reaching_had (length events) i))
