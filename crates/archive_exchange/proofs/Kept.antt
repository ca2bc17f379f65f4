-- What sites hold was issued, and what is saved stays below what is held.
use Rattle.std.proofs.Common.{◌≡◌, ℕ, zero, suc, ◌<◌, ◌≤◌, true, false, List, refl, sym, ◌∙◌, slice_get, arith, inl, inr}
use Rattle.std.specs.declared.result.Result.TheVariants.{Ok}
use Rattle.std.specs.declared.option.Option.{Option}
use Rattle.std.specs.declared.option.Option.TheVariants.{None, Some}
use Rattle.std.specs.Ordering.{nat_cmp}
use Rattle.std.specs.Cmp.Lexicographic.{slice_cmp, nat_list_cmp_total}
use Rattle.std.specs.FinSet as set
use Rattle.std.specs.FinSet.{contains-empty, contains-union}
use Rattle.std.proofs.lemmas.Bool.{cases_eq, cond_both}
use Rattle.archive_core.specs.Content.{Operations, joined, IsContent, IsBelow, IsMade}
use Rattle.archive_core.specs.Summary.{Entries, delta}
use Rattle.archive_core.proofs.Summaries.{contains_delta}
pub use Rattle.archive_core.proofs.Made.{either}
use Rattle.archive_exchange.specs.World.{Event, Take, Retire, Full, Reply, Deliver, operations_of}
use Rattle.archive_exchange.specs.Reached.{is_of, stops, is_accepted, senders, carried, message_sent, asked, given}
use Rattle.archive_exchange.specs.Issued.{IsIssued, AreIssued, AreRecords}
use Rattle.archive_exchange.proofs.Content.{made_empty, from_made, below_reflexive, below_transitive, below_left}
use Rattle.archive_exchange.proofs.Between.{and_left}
use Rattle.archive_exchange.proofs.Steps.{holding, saving, gift, saved_next}
use Rattle.archive_exchange.proofs.Reach.{saving_no_stop, holding_content, held_on}
use Rattle.archive_exchange.proofs.Had.{sender_below}

module _ {F : Type 0} (sites : ℕ) (events : List (Event F)) where
  none_issued : AreIssued sites events set.empty
  none_issued r h = cc (contains-empty (slice_cmp nat_cmp) r)

  joined_issued : (o p : Operations) → AreIssued sites events o → AreIssued sites events p → AreIssued sites events (joined o p)
  joined_issued o p a b r h = either (IsIssued sites events r) (set.contains o r) (set.contains p r) (a r) (b r)
      (sym (contains-union nat_list_cmp_total o p r) ∙ from_made (set.union o p) r h)

  delta_issued : (o : Operations) (s : Entries) → AreIssued sites events o → AreIssued sites events (delta o s)
  delta_issued o s a r h = a r (and_left (set.contains o r) _ (sym (contains_delta o s r) ∙ h))

  -- what is held and saved was issued
  abbrev BothIssued : ℕ → Type 0
  BothIssued n = (i : ℕ) → (AreIssued sites events (holding sites events n i)) × (AreIssued sites events (saving sites events n i))

  module _ (n : ℕ) (before : (f : ℕ) → f ≤ n → BothIssued f) where
    message_issued : (f : ℕ) → f < n → (e : Option (Event F)) → AreIssued sites events (operations_of (message_sent sites events (holding sites events) f e))
    message_issued f l (Some (Full x)) = (before f (omega arith) x).0
    message_issued f l (Some (Reply x m)) = delta_issued (holding sites events f x)
        (asked sites events (holding sites events) (slice_get (senders sites events f) m)) (before f (omega arith) x).0
    message_issued f l None = none_issued
    message_issued f l (Some e) = none_issued

    carried_issued : (o : Option ℕ) → ((f : ℕ) → o ≡ Some f → f < n) → AreIssued sites events (carried sites events (holding sites events) o)
    carried_issued None h = none_issued
    carried_issued (Some f) h = message_issued f (h f refl) (slice_get events f)

    given_issued : (e : Option (Event F)) → is_accepted sites events (senders sites events n) e ≡ true
        → slice_get events n ≡ e → AreIssued sites events (given sites events (holding sites events) n e)
    given_issued (Some (Take i (Ok parts))) fine at = λ r h. record { number = n; accepted = rw at fine; gives = rw at h }
    given_issued (Some (Retire i s)) fine at = λ r h. record { number = n; accepted = rw at fine; gives = rw at h }
    given_issued (Some (Deliver i m)) fine at = carried_issued (slice_get (senders sites events n) m) (sender_below sites events n m)
    given_issued None fine at = none_issued
    given_issued (Some e) fine at = none_issued

    next_issued : BothIssued (suc n)
    next_issued i =
        let now = before n (omega arith) i in
        let gift_issued : AreIssued sites events (gift sites events n i) = cond_both (is_of sites events i n) _ _ (AreIssued sites events)
        (λ of_i. given_issued (slice_get events n) (and_left _ _ of_i) refl) (λ _. none_issued) in (
          held_on sites events (AreIssued sites events) n i (λ _. now.1)
              (λ _. joined_issued (holding sites events n i) (gift sites events n i) now.0 gift_issued),
          saved_next sites events (AreIssued sites events) n i (λ _. now.0) (λ _. now.1),
        )

  issued_before : (n f : ℕ) → f ≤ n → BothIssued f
  issued_before n zero h = λ i. (none_issued, none_issued)
  issued_before zero (suc f) h = absurd (omega arith)
  issued_before (suc n) (suc f) h = next_issued f (λ g l. issued_before n g (omega arith))

  pub all_issued : (n : ℕ) → BothIssued n
  all_issued n = issued_before n n (omega arith)

  -- what no Stop takes away is held on
  held_stays : (n i : ℕ) → stops sites events i n ≡ false → IsBelow (holding sites events n i) (holding sites events (suc n) i)
  held_stays n i h = held_on sites events (IsBelow (holding sites events n i)) n i (λ stop. cc) (λ _. below_left (holding sites events n i) _)

  -- the saved content stays below the held one
  saved_below_held : (n i : ℕ) → IsBelow (saving sites events n i) (holding sites events n i)
  saved_below_held zero i = below_reflexive set.empty
  saved_below_held (suc n) i = saved_next sites events (λ o. IsBelow o (holding sites events (suc n) i)) n i
      (λ yes. held_stays n i (saving_no_stop sites events i n yes))
      (λ _. held_on sites events (IsBelow (saving sites events n i)) n i
      (λ _. below_reflexive (saving sites events n i))
      (λ _. below_transitive _ _ _ (saved_below_held n i) (below_left (holding sites events n i) _)))

  pub saved_stays : (n m i : ℕ) → n ≤ m → IsBelow (saving sites events n i) (saving sites events m i)
  saved_stays zero zero i h = below_reflexive set.empty
  saved_stays (suc n) zero i h = absurd (omega arith)
  saved_stays n (suc m) i h =
      elim (cases_eq n (suc m)) [
        | inl e ↦ rw e (below_reflexive (saving sites events (suc m) i))
        | inr l ↦ below_transitive _ _ _ (saved_stays n m i (omega arith)) (saved_next sites events (IsBelow (saving sites events m i)) m i
            (λ _. saved_below_held m i) (λ _. below_reflexive (saving sites events m i)))
      ]

  pub saved_under_held : (n m i : ℕ) → n ≤ m → IsBelow (saving sites events n i) (holding sites events m i)
  saved_under_held n m i h = below_transitive _ _ _ (saved_stays n m i h) (saved_below_held m i)

  saving_content : (n i : ℕ) → IsMade (saving sites events n i)
  saving_content zero i = made_empty
  saving_content (suc n) i = saved_next sites events IsMade n i (λ _. holding_content sites events n i) (λ _. saving_content n i)

  -- where what was issued are records, what is held and saved are contents
  pub held_content : (n i : ℕ) → AreRecords sites events → IsContent (holding sites events n i)
  held_content n i records = record { itself = holding_content sites events n i; records = λ r h. records r ((all_issued n i).0 r h) }

  pub saved_content : (n i : ℕ) → AreRecords sites events → IsContent (saving sites events n i)
  saved_content n i records = record { itself = saving_content n i; records = λ r h. records r ((all_issued n i).1 r h) }
