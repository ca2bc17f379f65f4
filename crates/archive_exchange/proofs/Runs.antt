-- A run of events, one after another.
use Rattle.std.proofs.Common.{◌≡◌, ℕ, suc, ◌+◌, ◌<◌, ◌≤◌, true, List, [], ◌∷◌, ◌++◌, length, slice_get, refl, sym, ap}
use Rattle.std.proofs.Common.{◌∙◌, nat_lt, add-one, arith, inl, inr, true≢false, None, Some, Ok, Err, Option}
use Rattle.std.specs.FinSet as set
use Rattle.std.proofs.lemmas.Bool.{ltb-true, cases_lt}
use Rattle.std.proofs.lemmas.Option.{slice_get_past}
use Rattle.std.proofs.lemmas.Slice.Zip.{AllZip-left, all_zipped_more}
use Rattle.std.specs.Option.{IsSomeAnd}
use Rattle.archive_core.specs.Content.{Operations, IsContent}
use Rattle.archive_core.specs.Record.{IsRecord}
use Rattle.archive_records.specs.Text.{written}
use Rattle.archive_exchange.specs.World.{Event, Take, Retire, Full, Ask, Reply, Deliver, Save, Stop, site_of, outcome, start, state, outcomes}
use Rattle.archive_exchange.specs.Reached.{is_accepted, senders}
use Rattle.archive_exchange.specs.Issued.{issues, AreRecords}
use Rattle.archive_exchange.proofs.Between.{and_left}
use Rattle.archive_exchange.specs.SiteState.{SiteState}
use Rattle.archive_exchange.specs.ModelEvent.{IsSeen, AreSeen, OutcomeIs}
use Rattle.archive_exchange.specs.InnerEvents.{IsRecorded, Happens, HasRun}
use Rattle.archive_exchange.specs.WorldState.{Represents}
use Rattle.archive_exchange.specs.Alike.{AreAlike}
use Rattle.text_input_files.specs.declared.event.Event as code
use Rattle.archive_exchange.specs.declared.outcome.Outcome as answered
use Rattle.archive_image_admission.specs.declared.fault.TakeFault.{TakeFault}

-- what an event of the list is
record SeenAt (seen : List (Event TakeFault)) (i : ℕ) (event : code.Event) : Type 0 where
  e : Event TakeFault
  at : slice_get seen i ≡ Some e
  is : IsSeen event e

seen_at : (events : List code.Event) (seen : List (Event TakeFault)) (i : ℕ) (event : code.Event) → AreSeen events seen
    → slice_get events i ≡ Some event → SeenAt seen i event
seen_at events seen i event all at = by (slice_get seen i) refl (rw at at (AllZip-left IsSeen events seen all i))
  where
    by : (o : Option (Event TakeFault)) → slice_get seen i ≡ o → IsSomeAnd o (λ e. IsSeen event e) → SeenAt seen i event
    by None e is = absurd is
    by (Some x) e is = record { e = x; at = e; is = is }

module _ (sites : ℕ) (events : List (Event TakeFault)) where
  -- an accepted event is of a site that is there
  inside : (sent : List ℕ) (e : Event TakeFault) → is_accepted sites events sent (Some e) ≡ true → nat_lt (site_of e) sites ≡ true
  inside sent (Take i (Err f)) h = cc
  inside sent (Reply i m) h = and_left _ _ h
  inside sent (Deliver i m) h = and_left _ _ h
  inside sent e h = h

  -- what is recorded below i and at i is recorded below i + 1
  recorded_more : (i : ℕ) (e : Event TakeFault) → slice_get events i ≡ Some e → (site_of e < sites → IsRecorded e)
      → ((k : ℕ) (r : List ℕ) → suc k ≤ i → is_accepted sites events (senders sites events k) (slice_get events k)
      ≡ true → set.contains (issues (slice_get events k)) r ≡ true → IsRecord r)
      → (k : ℕ) (r : List ℕ) → suc k ≤ suc i → is_accepted sites events (senders sites events k) (slice_get events k)
      ≡ true → set.contains (issues (slice_get events k)) r ≡ true → IsRecord r
  recorded_more i e at here below k r le accepted has = elim (cases_lt k i) [
    | inl lt ↦ below k r (omega arith) accepted has
    | inr ge ↦
        let same : k ≡ i = omega arith in
        let there : slice_get events k ≡ Some e = ap (λ j. slice_get events j) same ∙ at in
        here (ltb-true (site_of e) sites (inside (senders sites events k) e
        (sym (ap (λ o. is_accepted sites events (senders sites events k) o) there) ∙ accepted)))
        r (sym (ap (λ o. set.contains (issues o) r) there) ∙ has)
  ]

pub none_run : (sites : ℕ) (events : List (Event TakeFault)) (kept : List SiteState) (texts : List (List ℕ))
    (told : List answered.Outcome) → texts ≡ [] → told ≡ [] → Represents kept [] start
    → HasRun sites events 0 kept texts told
none_run sites events kept texts told no_text no_answer sh =
    rw (no_text, no_answer) (record { shows = sh; tells = tt; recorded = λ k r le. absurd (omega arith) })

-- one event more
pub run_next : (sites : ℕ) (code_events : List code.Event) (events : List (Event TakeFault)) (i : ℕ)
    (event : code.Event) (kept others : List SiteState) (texts later : List (List ℕ))
    (told after : List answered.Outcome) (answer : answered.Outcome)
    → AreSeen code_events events → slice_get code_events i ≡ Some event → length kept ≡ sites → HasRun sites events i kept texts told
    → ((e : Event TakeFault) → IsSeen event e → Happens e kept others texts later answer)
    → ((e : Event TakeFault) → IsSeen event e → site_of e < length kept → IsRecorded e)
    → after ≡ told ++ answer ∷ []
    → HasRun sites events (i + 1) others later after
run_next sites code_events events i event kept others texts later told after answer all at number run happened recorded is =
    let r : SeenAt events i event = seen_at code_events events i event all at in
    let h : Happens r.e kept others texts later answer = happened r.e r.is in
    let shown = rw number at (h.shows (state sites events i) run.shows) in
    let told_next = rw number at (h.tells (state sites events i) run.shows) in
    rw (add-one i) (record {
      shows = rw r.at shown;
      tells = rw (r.at, is) (all_zipped_more OutcomeIs told (outcomes sites events i) answer (outcome sites (state sites events i) r.e) run.tells told_next);
      recorded = recorded_more sites events i r.e r.at (rw number at (recorded r.e r.is)) run.recorded;
    })

-- each issued operation is a record
pub records_of : (sites : ℕ) (events : List (Event TakeFault)) (kept : List SiteState) (texts : List (List ℕ))
    (told : List answered.Outcome) → HasRun sites events (length events) kept texts told → AreRecords sites events
records_of sites events kept texts told run r issued = elim (cases_lt issued.number (length events)) [
  | inl lt ↦ run.recorded issued.number r (omega arith) issued.accepted issued.gives
  | inr ge ↦ absurd (true≢false (sym issued.accepted ∙ ap
      (λ o. is_accepted sites events (senders sites events issued.number) o) (slice_get_past events issued.number ge)))
]

pub alike : (o p : Operations) → IsContent o → o ≡ p → AreAlike o p
alike o p is e = rw (← e) (record {
  text = (written o, record { content = is; is = refl }, record { content = is; is = refl });
  lookups = λ key asked answer. (λ h. h, λ h. h);
  finds = λ uuid rows. (λ h. h, λ h. h);
  names = λ name rows. (λ h. h, λ h. h);
})

-- all events
pub run_end : (sites : ℕ) (events : List (Event TakeFault)) (n : ℕ) (kept others : List SiteState) (texts later : List (List ℕ)) (told : List answered.Outcome)
    → HasRun sites events n kept texts told → n ≡ length events → others ≡ kept → later ≡ texts → HasRun sites events (length events) others later told
run_end sites events n kept others texts later told run all same also = rw (same, also, ← all) run
