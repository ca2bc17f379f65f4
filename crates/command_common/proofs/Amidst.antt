-- How a command ends that writes while its inputs come, from what its parts did.
use Rattle.std.proofs.Common.{◌≡◌, ◌<◌, ℕ, List, [], length, Option, Result, Err, subst, sym, inl, inr, ◌⊎◌, arith}
use Rattle.std.specs.Io.KnownBytes.{Appends}
use Rattle.byte_device.specs.Writes.{WritesFirst}
use Rattle.archive_records.specs.Text.{written}
use Rattle.archive_core.specs.Content.{Operations}
use Rattle.command_common.specs.declared.faults.CommandFault.{CommandFault}
use Rattle.command_common.specs.declared.faults.CommandFault.TheVariants.{Input, Output, Report, OutOfMemory}
use Rattle.command_common.specs.declared.faults.InputName.{InputName}
use Rattle.command_common.specs.declared.faults.Status.{Status}
use Rattle.command_common.specs.declared.faults.Why.{Why}
use Rattle.command_common.specs.Ends.{Command, EndsAsItComes, EndsStreamed, HasFirst, HasTaken, MakesArchive, StopsAmidst, writes_in_turn}
use Rattle.command_common.specs.Inputs.{HoldsArchive, IsGivenArchive, IsKnown, IsRefusal, reader}
use Rattle.command_common.specs.Outputs.{IsKept, Out, PublishesNothing, Takes, Writer}

module _ (Makes : List ℕ → List ℕ → Type 0) (Refuses : InputName → Why → Type 0) (NoneFailed Known : Type 0) (out : Out) (report : Writer) where
  abbrev EndsSo : Result Status CommandFault → Type 0
  EndsSo result = EndsAsItComes (record { Makes = Makes; Refuses = Refuses; Unfailed = NoneFailed }) Known out report result

  abbrev StopsSo : CommandFault → Type 0
  StopsSo fault = StopsAmidst (record { Makes = Makes; Refuses = Refuses; Unfailed = NoneFailed }) Known out.draft fault

  -- it was stopped
  pub stopped_amidst : (fault : CommandFault) → StopsSo fault → HasTaken out.draft fault → PublishesNothing out → Takes report [] → EndsSo (Err fault)
  stopped_amidst (Input at why) s t nothing unreported =
      record { stops = s; bytes = t.0; took = t.1; count = t.2; nothing_published = nothing; unreported = unreported }
  stopped_amidst (Report n) s t nothing unreported = absurd s
  stopped_amidst fault s t nothing unreported = inl (record
      { stops = s; bytes = t.0; took = t.1; count = t.2; nothing_published = nothing; unreported = unreported })

-- what stops one command stops another that makes no more, is refused where that one is, and blames no more readers
module _ (Makes Others : List ℕ → List ℕ → Type 0) (Refuses RefusesToo : InputName → Why → Type 0)
    (NoneFailed NoneFailedToo Known KnownToo : Type 0) (draft : Writer)
    (makes : (text told : List ℕ) → Others text told → Makes text told)
    (refuses : (at : InputName) (why : Why) → Refuses at why → RefusesToo at why)
    (unfailed : NoneFailed → NoneFailedToo) (known : KnownToo → Known) where
  pub stops_alike : (fault : CommandFault) → StopsAmidst (record { Makes = Makes; Refuses = Refuses; Unfailed = NoneFailed }) Known draft fault
      → StopsAmidst (record { Makes = Others; Refuses = RefusesToo; Unfailed = NoneFailedToo }) KnownToo draft fault
  stops_alike (Input at why) s = (refuses at why s.0, s.1, (s.2.0, λ k text told m. s.2.1 (known k) text told (makes text told m)))
  stops_alike (Output n) s = (unfailed s.0, s.1, λ k text told m. s.2 (known k) text told (makes text told m))
  stops_alike (Report n) s = absurd s
  stops_alike OutOfMemory s = (unfailed s.0, s.1, (s.2.0, λ k text told m. s.2.1 (known k) text told (makes text told m)))

-- an archive whose bytes are known and that holds a content gives it
pub gives_known : {S : Type 0} (left : S → Option (List ℕ)) (failures : S → ℕ) (old new : S) (o : Operations)
    → IsKnown (reader left failures old new) → HoldsArchive (reader left failures old new) o → IsGivenArchive (reader left failures old new) o
gives_known left failures old new o known holds = (known.0, rw known.1 at holds, known.1)

-- ---- nothing was written

some_text : (o : Operations) → 0 < length (written o)
unfolding written
some_text o = omega arith

-- that is a beginning of each archive's text
pub nothing_first : (Makes : Operations → List ℕ → Type 0) (old new : Option (List ℕ)) (text told : List ℕ)
    → Appends old new [] → MakesArchive Makes text told → WritesFirst old new text 0
nothing_first Makes old new text told none m = record { within = subst (λ (t : List ℕ). 0 < length t) (sym m.text_is) (some_text m.content); gained = none }

no_count_input : (at : InputName) (why : Why) (n : ℕ) → Input at why ≡ Output n → n ≡ 0
no_count_input at why n h = cc

no_count_memory : (n : ℕ) → OutOfMemory ≡ Output n → n ≡ 0
no_count_memory n h = cc

module _ (Makes : Operations → List ℕ → Type 0) (Refuses : InputName → Why → Type 0) (NoneFailed Wants Known : Type 0) (out : Out) (report : Writer) where
  abbrev command_of : Command
  command_of = record { Makes = MakesArchive Makes; Refuses = Refuses; Unfailed = NoneFailed }

  abbrev EndsInTurnSo : Result Status CommandFault → Type 0
  EndsInTurnSo result = EndsStreamed (writes_in_turn command_of Wants Known out.draft) out report result

  -- an input was refused, or memory wanted, before anything was written
  pub refused_in_turn : (fault : CommandFault) → IsRefusal Refuses (NoneFailed ⊎ Wants) fault → IsKept out → Takes report [] → EndsInTurnSo (Err fault)
  refused_in_turn (Input at why) r kept unreported = record {
    stops = (r, kept.0.1, (0, λ known text told m. nothing_first Makes out.draft.old out.draft.new text told kept.0.0 m));
    bytes = [];
    took = kept.0.0;
    count = no_count_input at why;
    nothing_published = kept.1;
    unreported = unreported;
  }
  refused_in_turn OutOfMemory r kept unreported = inl (record {
    stops = elim r [
      | inl none ↦ inl (none, kept.0.1, (0, λ known text told m. nothing_first Makes out.draft.old out.draft.new text told kept.0.0 m))
      | inr wants ↦ inr (wants, kept.0)
    ];
    bytes = [];
    took = kept.0.0;
    count = no_count_memory;
    nothing_published = kept.1;
    unreported = unreported;
  })
  refused_in_turn fault r kept unreported = absurd r

  -- what ends a command that makes the same and reads less
  module _ (Others : Operations → List ℕ → Type 0) (Refused : InputName → Why → Type 0) (Whole KnownToo : Type 0)
      (forth : (text told : List ℕ) → MakesArchive Others text told → MakesArchive Makes text told)
      (back : Known → (text told : List ℕ) → MakesArchive Makes text told → MakesArchive Others text told)
      (refuses : (at : InputName) (why : Why) → Refused at why → Refuses at why) (whole : Whole → NoneFailed)
      (known : Known → KnownToo) where
    abbrev other : Command
    other = record { Makes = MakesArchive Others; Refuses = Refused; Unfailed = Whole }

    first_of : (n : ℕ) → HasFirst other KnownToo out.draft n → HasFirst command_of Known out.draft n
    first_of n f k text told m = f (known k) text told (back k text told m)
