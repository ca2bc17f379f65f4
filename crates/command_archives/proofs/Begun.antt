-- How a command ends that writes OUT as an input comes, with what its draft has where it is stopped, and how one ends
-- that reads what is after that input first, where that is refused or memory is wanting.
use Rattle.std.proofs.Common.{ℕ, List, [], Option, Result, Err, refl, inl, inr, ◌≡◌, ◌⊎◌, ◌∷◌, ap}
use mathlib.Core.Logic.{⊎_map}
use Rattle.std.specs.Prelude.{IfSome, ◌++◌}
use Rattle.std.specs.Io.KnownBytes.{Appends}
use Rattle.archive_records.specs.Text.{kept}
use Rattle.byte_device.specs.Devices.{Stream}
use Rattle.archive_merge.specs.Merging.{IsArchiveText, IsBegun, IsTaken}
use Rattle.archive_merge.proofs.Places.{begun_none, begun_whole}
use Rattle.archive_merge.proofs.Unread.{text_none}
use Rattle.std.specs.List.{concat, AllByRecursion, AllZip}
use Rattle.command_common.specs.declared.faults.CommandFault.{CommandFault}
use Rattle.command_common.specs.declared.faults.CommandFault.TheVariants.{Input, Output, Report, OutOfMemory}
use Rattle.command_common.specs.declared.faults.Status.{Status}
use Rattle.command_common.specs.Ends.{Carries, EndsStreamed, IsStopped, Streamed, Command, HasFirst, MakesArchive, StopsAmidst, StopsInTurn, writes_in_turn}
use Rattle.command_common.specs.Inputs.{Reader, EachKnown, Gives, IsKnown, IsRefusal, IsRefusedArchive, IsRefusedInTurn, IsWantedInTurn, TellsInTurn, Unfailed}
use Rattle.command_common.specs.Inputs.{reader}
use Rattle.command_common.specs.Outputs.{Out, Publishes, Takes, Writer, IsKept}
use Rattle.byte_device.specs.Writes.{WritesFirst}
use Rattle.command_archives.specs.Begun.{BeginsGood, EndsBegun, HasBegun, IsUnfinished, begins_alone, begins_after}
use Rattle.archive_core.specs.Content.{Operations}
use Rattle.command_common.specs.declared.faults.InputName.{InputName}
use Rattle.command_common.specs.declared.faults.Why.{Why}
use Rattle.command_common.proofs.Amidst.{nothing_first, refused_in_turn}

-- ---- a draft

-- no bytes are no archive's text
pub no_bytes : (w0 w1 : Option (List ℕ)) → Appends w0 w1 [] → IfSome w0 (λ _. (bytes : List ℕ) → Appends w0 w1 bytes → IsArchiveText bytes → ⊥)
no_bytes w0 w1 none = text_none w0 w1 [] 0 tt (begun_whole w0 w1 (kept []) 0 (begun_none w0 w1 (kept []) 0 refl none))

-- what records of a side were taken, its magic was
pub taken_begun : {R : Type 0} (side : Stream R) (records : List (List ℕ)) (behind : List ℕ) → IsTaken side records behind → IsBegun side
taken_begun side records behind t = (t.format, t.archive, concat records ++ behind, t.taken)

module _ {R : Type 0} (input : Reader R) (Accepted : Type 0) (command : Reader R → Command) (Known : Type 0)
    (draft : Writer) where
  -- one that took nothing, where what the command makes is not empty
  pub untouched : ((sound : Reader R) (text told : List ℕ) → (command sound).Makes text told
      → WritesFirst draft.old draft.new text 0) → Takes draft []
      → IsUnfinished input Accepted command Known draft
  untouched first none = record {
    no_text = no_bytes draft.old draft.new none.0;
    begun = inl none;
    good = λ known bytes records sound text told given are is makes. (0, first sound text told makes);
  }

  -- the same of a command that accepted more, and makes no more of an archive
  pub accepted : (Fewer : Type 0) (from : Reader R → Command) (KnownToo : Type 0) → Accepted → (Known → KnownToo)
      → (Known → (sound : Reader R) (text told : List ℕ) → (command sound).Makes text told
      → (other : List ℕ) × (from sound).Makes text other)
      → IsUnfinished input Fewer from KnownToo draft → IsUnfinished input Accepted command Known draft
  accepted Fewer from KnownToo all known makes u = record {
    no_text = u.no_text;
    begun = ⊎_map (λ (none : Takes draft []). none) (λ (b : Fewer × HasBegun input). (all, b.1)) u.begun;
    good = λ k bytes records sound text told given are is m.
        let other = makes k sound text told m in
        u.good (known k) bytes records sound text other.0 given are is other.1;
  }

-- ---- a command

module _ (out : Out) (report : Writer) where
  -- its inputs are accepted, and what they make is published
  pub published : (command : Streamed) (result : Result Status CommandFault) (text told : List ℕ) → command.Unfailed
      → command.Makes text told → Publishes out report text told result → EndsStreamed command out report result
  published command (Err (Input at why)) text told u makes p = absurd p
  published command (Err (Output n)) text told u makes p = inr (u, record { text = text; told = told; makes = makes; published = p })
  published command (Err OutOfMemory) text told u makes p = inr (u, record { text = text; told = told; makes = makes; published = p })
  published command result text told u makes p = (u, record { text = text; told = told; makes = makes; published = p })

  -- one that makes all that another makes, and is stopped by all that stops that one
  module _ (from to : Streamed) (makes : (text told : List ℕ) → from.Makes text told → to.Makes text told)
      (unfailed : from.Unfailed → to.Unfailed) (stops : (fault : CommandFault) → from.Stops fault
      → to.Stops fault) where
    stopped : (fault : CommandFault) → IsStopped from out report fault → IsStopped to out report fault
    stopped fault s = record {
      stops = stops fault s.stops;
      bytes = s.bytes;
      took = s.took;
      count = s.count;
      nothing_published = s.nothing_published;
      unreported = s.unreported;
    }

    carried : (r : Result Status CommandFault) → from.Unfailed × Carries from.Makes out report r → to.Unfailed × Carries to.Makes out report r
    carried r c = (unfailed c.0, record { text = c.1.text; told = c.1.told; makes = makes c.1.text c.1.told c.1.makes; published = c.1.published })

    pub ends_so : (r : Result Status CommandFault) → EndsStreamed from out report r → EndsStreamed to out report r
    ends_so (Err (Input at why)) e = stopped (Input at why) e
    ends_so (Err (Output n)) e = ⊎_map (stopped (Output n)) (carried (Err (Output n))) e
    ends_so (Err OutOfMemory) e = ⊎_map (stopped OutOfMemory) (carried (Err OutOfMemory)) e
    ends_so r e = carried r e

  -- one that ended so, with a draft that is unfinished
  pub begun : {R : Type 0} (input : Reader R) (Accepted : Type 0) (command : Reader R → Command) (Known : Type 0)
      (streamed : Streamed) → IsUnfinished input Accepted command Known out.draft → (r : Result Status CommandFault)
      → EndsStreamed streamed out report r
      → EndsStreamed (begins_after input Accepted command Known out.draft streamed) out report r
  begun input Accepted command Known streamed u =
      ends_so streamed (begins_after input Accepted command Known out.draft streamed) (λ text told m. m) (λ f. f) (λ fault s. (s, u))

-- what makes no more of content and lines makes no more of their texts
makes_alike : (P Q : Operations → List ℕ → Type 0) → ((o : Operations) (lines : List ℕ) → P o lines → Q o lines)
    → (text told : List ℕ) → MakesArchive P text told → MakesArchive Q text told
makes_alike P Q makes text told m = record {
  content = m.content;
  lines = m.lines;
  makes =
      makes m.content m.lines m.makes;
  text_is = m.text_is;
  told_is = m.told_is;
}

module _ {R : Type 0} (Makes : Reader R → Operations → List ℕ → Type 0) (input : Reader R)
    (IsRefusedLater : InputName → Why → Type 0) (OthersUnfailed Known Accepted : Type 0) (out : Out)
    (report : Writer) where
  abbrev command : Reader R → Command
  command given = record {
    Makes = MakesArchive (Makes given);
    Refuses = IsRefusedInTurn given IsRefusedLater;
    Unfailed = Unfailed given × OthersUnfailed;
  }

  abbrev streamed : Streamed
  streamed = writes_in_turn (command input) (IsWantedInTurn input IsRefusedLater) (IsKnown input × Known) out.draft

  abbrev EndsSo : Result Status CommandFault → Type 0
  EndsSo result = EndsStreamed (begins_after input Accepted command Known out.draft streamed) out report result

  ends : (fault : CommandFault) → IsRefusal (IsRefusedInTurn input IsRefusedLater)
      ((Unfailed input × OthersUnfailed) ⊎ IsWantedInTurn input IsRefusedLater) fault → IsKept out → Takes report []
      → EndsSo (Err fault)
  ends fault refusal kept unreported =
      begun out report input Accepted command Known streamed
      (untouched input Accepted command Known out.draft
      (λ sound text told m. nothing_first (Makes sound) out.draft.old out.draft.new text told kept.0.0 m) kept.0) (Err fault)
      (refused_in_turn (Makes input) (IsRefusedInTurn input IsRefusedLater) (Unfailed input × OthersUnfailed)
      (IsWantedInTurn input IsRefusedLater) (IsKnown input × Known) out report fault refusal kept unreported)

  refused : (at : InputName) (why : Why) → IsRefusedLater at why → (fault : CommandFault)
      → IsRefusal (IsRefusedInTurn input (λ place reason. (place ≡ at) × (reason ≡ why))) (Unfailed input) fault
      → IsKept out → Takes report [] → EndsSo (Err fault)
  refused at why is (Input place reason) (inl first) = ends (Input place reason) (inl first)
  refused at why is (Input place reason) (inr behind) = ends (Input place reason) (inr (behind.0, behind.1, rw (behind.2.0, behind.2.1) is))
  refused at why is OutOfMemory r = ends OutOfMemory (inr (r, (at, why, is)))
  refused at why is fault r = absurd r

  -- memory was wanted before the first input was read
  pub wanting : Unfailed input → OthersUnfailed → IsKept out → Takes report [] → EndsSo (Err OutOfMemory)
  wanting unfailed others = ends OutOfMemory (inl (unfailed, others))

  -- what is after it was refused, or memory wanted for it
  pub told_behind : (fault told : CommandFault) → IsRefusal IsRefusedLater OthersUnfailed fault
      → TellsInTurn input fault told → IsKept out → Takes report [] → EndsSo (Err told)
  told_behind (Input at why) told r t = refused at why r told t
  told_behind OutOfMemory told r t = rw t.0 (wanting (ap input.failures t.1) r)
  told_behind fault told r t = absurd r

  -- what is after it was read: as the command ends that reads the first input alone and makes the same of it
  pub read_behind : (Others : Reader R → Operations → List ℕ → Type 0) → OthersUnfailed → Accepted
      → ((o : Operations) (lines : List ℕ) → Others input o lines → Makes input o lines)
      → (Known → (given : Reader R) (o : Operations) (lines : List ℕ) → Makes given o lines → Others given o lines)
      → (result : Result Status CommandFault) → EndsBegun input
      (λ given. record { Makes = MakesArchive (Others given); Refuses = IsRefusedArchive 0 given; Unfailed = Unfailed given })
      out report result → EndsSo result
  read_behind Others unfailed all forth back =
      ends_so out report (begins_alone input other out.draft)
      (begins_after input Accepted command Known out.draft streamed)
      (makes_alike (Others input) (Makes input) forth) (λ u. (u, unfailed))
      (λ fault s. (stops fault s.0, accepted input Accepted command Known out.draft (Unit {0}) other (Unit {0}) all (λ k. tt) alike s.1))
    where
      other : Reader R → Command
      other given = record { Makes = MakesArchive (Others given); Refuses = IsRefusedArchive 0 given; Unfailed = Unfailed given }

      alike : Known → (given : Reader R) (text told : List ℕ) → MakesArchive (Makes given) text told
          → (same : List ℕ) × MakesArchive (Others given) text same
      alike k given text told m = (told, makes_alike (Makes given) (Others given) (back k given) text told m)

      first : (n : ℕ) → HasFirst (other input) (IsKnown input) out.draft n → HasFirst (command input) (IsKnown input × Known) out.draft n
      first n f k text told m = f k.0 text told (alike k.1 input text told m).1

      stops : (fault : CommandFault) → StopsAmidst (other input) (IsKnown input) out.draft fault
          → StopsInTurn (command input) (IsWantedInTurn input IsRefusedLater) (IsKnown input × Known) out.draft fault
      stops (Input at why) s = (inl s.0, s.1, (s.2.0, first s.2.0 s.2.1))
      stops (Output n) s = ((s.0, unfailed), s.1, first n s.2)
      stops (Report n) s = absurd s
      stops OutOfMemory s = inl ((s.0, unfailed), s.1, (s.2.0, first s.2.0 s.2.1))

-- ---- inputs whose bytes are known

-- bytes that are a text of one thing alone give one
pub one_given : {S T : Type 0} (IsOf : T → List ℕ → Type 0) (left : S → Option (List ℕ)) (failures : S → ℕ)
    (old new : S) (x y : T) → ((text : List ℕ) → IsOf x text → IsOf y text → x ≡ y)
    → IsKnown (reader left failures old new) → Gives (reader left failures old new) (IsOf x) → Gives (reader left failures old new) (IsOf y) → x ≡ y
one_given IsOf left failures old new x y one known h k = one known.0 (rw known.1 at h) (rw known.1 at k)

pub all_given : {S T : Type 0} (IsOf : T → List ℕ → Type 0) (Is : T → Type 0)
    → ((text : List ℕ) (x y : T) → Is x → Is y → IsOf x text → IsOf y text → x ≡ y)
    → (inputs : List (Reader S)) (xs ys : List T) → AllByRecursion Is xs → AllByRecursion Is ys → EachKnown inputs
    → AllZip (λ (input : Reader S) (x : T). Gives input (IsOf x)) inputs xs → AllZip (λ (input : Reader S) (x : T). Gives input (IsOf x)) inputs ys → xs ≡ ys
all_given IsOf Is one [] [] [] are also known h k = refl
all_given IsOf Is one [] (_ ∷ _) ys are also known h k = absurd h
all_given IsOf Is one (_ ∷ _) [] ys are also known h k = absurd h
all_given IsOf Is one (i ∷ inputs) (x ∷ xs) (y ∷ ys) are also known h k =
    let first = one_given IsOf i.left i.failures i.old i.new x y (λ text. one text x y are.0 also.0) known.0 h.0 k.0 in
    cc (first, all_given IsOf Is one inputs xs ys are.1 also.1 known.1 h.1 k.1)
all_given IsOf Is one inputs xs ys are also known h k = absurd k
