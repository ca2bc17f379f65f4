-- A delta, whenever it comes, lifts the site that asked above what the replier held.
use Rattle.std.proofs.Common.{◌≡◌, ℕ, zero, suc, ◌<◌, true, false, List, [], ◌∷◌, ◌++◌, length, refl, sym, ap, ◌∙◌, subst, slice_get, arith, ◌⊎◌, inl, inr}
use Rattle.std.specs.declared.option.Option.TheVariants.{Some}
use Rattle.std.proofs.lemmas.Bool.{cases_eq, lt-ltb, eq-eqb}
use Rattle.std.proofs.lemmas.List.{length-map}
use Rattle.std.specs.FinSet as set
use Rattle.archive_core.specs.Content.{Operations, joined, IsBelow}
use Rattle.archive_core.specs.Summary.{delta, summary, entry}
use Rattle.archive_core.proofs.Made.{by_test}
use Rattle.archive_exchange.specs.World.{Event}
use Rattle.archive_exchange.specs.Reached.{is_stop, is_sending, is_of, saves, is_accepted, senders, carried}
use Rattle.archive_exchange.specs.Issued.{EntriesDiffer, message_number, IsExchange}
use Rattle.archive_exchange.proofs.Content.{below_transitive, below_left, below_right, gathered}
use Rattle.archive_exchange.proofs.Between.{and_right}
use Rattle.archive_exchange.proofs.Steps.{holding, sent, gift, saved_next, told_by}
use Rattle.archive_core.proofs.Summaries.{contains_delta, member_of_entry, delta_made}
use Rattle.archive_exchange.proofs.Reach.{holding_content, held_on}
use Rattle.archive_exchange.proofs.Kept.{all_issued, saved_under_held}

-- in front of what is added
front : (xs ys : List ℕ) (m : ℕ) (x : ℕ) → slice_get xs m ≡ Some x → slice_get (xs ++ ys) m ≡ Some x
front [] ys m x h = cc
front (y ∷ xs) ys zero x h = h
front (y ∷ xs) ys (suc m) x h = front xs ys m x h

at_end : (xs : List ℕ) (x : ℕ) → slice_get (xs ++ x ∷ []) (length xs) ≡ Some x
at_end [] x = refl
at_end (y ∷ xs) x = at_end xs x

-- a site has what the delta against a content's summary gives, and the content: it has all
apart : (r : List ℕ) (o a : Operations) → ((s : List ℕ) → set.contains a s ≡ true → entry s ≡ entry r → r ≡ s)
    → set.contains o r ≡ true → (set.contains (delta o (summary a)) r ≡ true) ⊎ (set.contains a r ≡ true)
apart r o a telling h =
    let in_delta = contains_delta o (summary a) r in
    by_test _ (set.contains (summary a) (entry r))
    (λ e. let found = member_of_entry a (entry r) e in inr (rw (telling found.0 found.1 found.2) found.1))
    (λ e. inl (grind arith))

module _ {F : Type 0} (sites : ℕ) (events : List (Event F)) where
  pub number_of : (n : ℕ) → message_number sites events n ≡ length (senders sites events n)
  number_of n = ap length (told_by sites events n) ∙ length-map (senders sites events n) (sent sites events)

  -- the message of event a is at its number from then on
  pub sender_at : (a n : ℕ) → a < n → is_accepted sites events (senders sites events a) (slice_get events a) ≡ true
      → is_sending (slice_get events a) ≡ true → slice_get (senders sites events n) (message_number sites events a)
      ≡ Some a
  sender_at a zero h fine sends = absurd (omega arith)
  sender_at a (suc n) h fine sends =
      elim (cases_eq a n) [
        | inl e ↦ subst (λ (m : ℕ). slice_get (senders sites events (suc m)) (message_number sites events a) ≡ Some a) e
            (rw (fine, sends, number_of a) (at_end (senders sites events a) a))
        | inr l ↦ front (senders sites events n) _ (message_number sites events a) a (sender_at a n (omega arith) fine sends)
      ]

  module _ (i x a r k : ℕ) (is : IsExchange sites events i x a r k) where
    ask_yes : is_accepted sites events (senders sites events a) (slice_get events a) ≡ true
    ask_yes = rw is.ask (lt-ltb i sites is.asker)

    asked_at : (n : ℕ) → a < n → slice_get (senders sites events n) (message_number sites events a) ≡ Some a
    asked_at n l = sender_at a n l ask_yes (ap is_sending is.ask)

    reply_yes : is_accepted sites events (senders sites events r) (slice_get events r) ≡ true
    reply_yes = rw (is.reply, lt-ltb x sites is.replier, asked_at r is.first, is.ask) refl

    replied_at : slice_get (senders sites events k) (message_number sites events r) ≡ Some r
    replied_at = sender_at r k is.second reply_yes (ap is_sending is.reply)

    deliver_yes : is_accepted sites events (senders sites events k) (slice_get events k) ≡ true
    deliver_yes = rw (is.deliver, lt-ltb i sites is.asker, replied_at, is.reply) refl

    -- what the reply sends
    abbrev pub came : Operations
    came = delta (holding sites events r x) (summary (holding sites events a i))

    carried_came : carried sites events (holding sites events) (slice_get (senders sites events k) (message_number sites events r)) ≡ came
    carried_came = rw (replied_at, is.reply, asked_at r is.first, is.ask) refl

    gift_came : gift sites events k i ≡ came
    gift_came = rw (deliver_yes, is.deliver, eq-eqb i i refl) carried_came

    pub delivered : holding sites events (suc k) i ≡ joined (holding sites events k i) came
    delivered = held_on sites events (λ o. o ≡ joined (holding sites events k i) came) k i
        (λ stop. let no : is_stop (slice_get events k) ≡ false = ap is_stop is.deliver
        in cc (and_right (is_of sites events i k) (is_stop (slice_get events k)) stop))
        (λ _. ap (joined (holding sites events k i)) gift_came)

    -- what was asked with was saved
    saves_asked : saves sites events i a ≡ true
    saves_asked = rw (ask_yes, is.ask, eq-eqb i i refl) refl

    pub asked_stays : IsBelow (holding sites events a i) (holding sites events k i)
    asked_stays = subst (λ (o : Operations). IsBelow o (holding sites events k i))
        (saved_next sites events (λ o. o ≡ holding sites events a i) a i (λ _. refl) (λ no. cc saves_asked))
        (saved_under_held sites events (suc a) k i (let l = is.first in let m = is.second in omega arith))

    pub lifted : EntriesDiffer sites events → IsBelow (holding sites events r x) (holding sites events (suc k) i)
    lifted telling = subst (IsBelow (holding sites events r x)) (sym delivered)
        (gathered (holding sites events r x) came (holding sites events a i) (joined (holding sites events k i) came)
        (delta_made (holding sites events r x) _ (holding_content sites events r x)) (holding_content sites events a i)
        (λ o h. apart o (holding sites events r x) (holding sites events a i)
        (λ s in_a e. telling o s ((all_issued sites events r x).0 o h) ((all_issued sites events a i).0 s in_a)
        (sym e)) h)
        (below_right (holding sites events k i) came)
        (below_transitive _ _ _ asked_stays (below_left (holding sites events k i) came)))
