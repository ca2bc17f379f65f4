-- What follows where a text was read, where a join stopped half way, and what it makes when it is made again.
use Rattle.std.proofs.Common.{◌≡◌, ◌≢◌, ℕ, List, refl, ap, ◌⊎◌, inl, inr, Some, Result, Ok, Err, OnErr, sym, ◌∙◌, subst}
use Rattle.join_core.specs.Bound.{IsTowards}
use Rattle.byte_device.specs.Devices.{FailedIn}
use Rattle.archive_core.specs.Content.{Operations, IsContent, IsBelow, joined}
use Rattle.archive_core.proofs.Joined.{joined as is_join}
use Rattle.archive_records.specs.Fault.{IsOfText}
use Rattle.archive_records.specs.Reading.{IsOfMachine}
use Rattle.archive_records.specs.declared.fault.RecordFault.{RecordFault}
use Rattle.archive_records.specs.declared.fault.RecordFaultKind.TheVariants.{Device, OutOfMemory}
use Rattle.archive_exchange.specs.SiteState.{SiteState, Gives, HasJoinedInPart, IsArchiveTextOf, IsBetween, HasJoined}
use Rattle.std.specs.FinSet.{union}
use Rattle.archive_core.proofs.Made.{made_again, made_antisymmetric, below_transitive, below_left, below_right, joined_below}
use Rattle.archive_records.proofs.Versions.{one_content}

-- why bytes in memory are refused: the fault is that of a text, and no text of the kind is refused so
pub refused_by : (IsOf : List ℕ → RecordFault → Type 0) (IsText : List ℕ → Type 0) (rest text : List ℕ)
    (fault : RecordFault) → Some rest ≡ Some text → (fault.kind ≡ Device → FailedIn 0 0) → fault.kind ≢ OutOfMemory
    → (IsOfText fault.kind → IsOf rest fault) → (IsText rest → IsOfMachine fault.kind) → IsOf text fault × IsOfText fault.kind × (IsText text → ⊥)
refused_by IsOf IsText rest text fault is device memory faulty machine =
    let same : rest ≡ text = cc in
    let of_text : IsOfText fault.kind = (λ e. cc (device e), memory) in
    rw (← same) (faulty of_text, of_text, λ t. elim (machine t) [ inl e ↦ cc (device e) | inr e ↦ memory e ])

pub on_err : {T E : Type 0} (P : Type 0) (r : Result T E) → P → OnErr r P
on_err P (Ok x) p = tt
on_err P (Err e) p = p

-- where a join stopped, the content is between the old one and the join
pub towards_by : (text : List ℕ) (old : SiteState) (held : Operations) (saved : List ℕ) (new o : Operations)
    → record { held = held; saved = saved } ≡ old → IsContent held → Gives text o
    → IsTowards IsContent IsBelow held o new
    → (record { held = new; saved = saved } ≡ old) ⊎ HasJoinedInPart text old (record { held = new; saved = saved })
towards_by text old held saved new o e is gives way = inr (record {
  message = o;
  gives = gives;
  held = rw (← e) (record {
    content = way.content;
    above_old = way.above_old;
    below_new =
        way.below_join (joined held o) (is_join held o (joined held o) is gives.content refl);
  });
  saved = ap (λ (k : SiteState). k.saved) e;
})

-- a content on the way joins to the same
joined_again : (o p mid : Operations) → IsBetween o mid (joined o p) → joined mid p ≡ joined o p
joined_again o p mid way =
    made_antisymmetric (joined mid p) (joined o p) (made_again (union mid p)) (made_again (union o p))
    (joined_below mid p (joined o p) way.below_new (below_right o p))
    (joined_below o p (joined mid p)
    (below_transitive o mid (joined mid p) way.above_old (below_left mid p))
    (below_right mid p))

-- one text gives one content
pub one_message : (text : List ℕ) (o p : Operations) → Gives text o → Gives text p → o ≡ p
one_message text o p a b = one_content text o p a.content b.content a.is b.is

-- what a site saved gives what it begins again with, and is written of it
pub begun_again : (old : SiteState) (held : Operations) (saved text : List ℕ) (o : Operations)
    → record { held = held; saved = saved } ≡ old → (p : Operations) × IsArchiveTextOf saved p → text ≡ saved
    → Gives text o → IsArchiveTextOf old.saved o
begun_again old held saved text o is says same gives =
    let e : says.0 ≡ o = one_message text says.0 o (record { content = says.1.content; is = inl (same ∙ says.1.is) }) gives in
    subst (λ (k : SiteState). IsArchiveTextOf k.saved o) is (subst (IsArchiveTextOf saved) e says.1)

pub below_asked : (text : List ℕ) (old mid new : SiteState) → HasJoinedInPart text old mid → HasJoined text old new → IsBelow mid.held new.held
below_asked text old mid new part whole =
    subst (IsBelow mid.held) (ap (joined old.held) (one_message text part.message whole.message part.gives whole.gives) ∙ sym whole.held)
    part.held.below_new

pub asked_again : (text : List ℕ) (old mid new : SiteState) → IsContent old.held → HasJoinedInPart text old mid
    → HasJoined text mid new → HasJoined text old new
asked_again text old mid new is part rest = record {
  message = part.message;
  gives = part.gives;
  held =
      rest.held
      ∙ ap (joined mid.held) (one_message text rest.message part.message rest.gives part.gives)
      ∙ joined_again old.held part.message mid.held part.held;
  saved = rest.saved ∙ part.saved;
}
