-- The records that are lost if one archive replaces another.
use Rattle.std.specs.Prelude.{◌≡◌, ℕ, count_by, IfSome}
use Rattle.join_core.specs.Listing.{listing}
use Rattle.byte_device.specs.Devices.{Stream}
use Rattle.archive_core.specs.Content.{Operations, changes, content_of}
use Rattle.archive_records.specs.declared.fault.MergeCause.{MergeCause}
use Rattle.archive_records.specs.declared.fault.MergeCause.TheVariants.{Left, Right, Write}
use Rattle.archive_records.specs.declared.fault.RecordFault.{RecordFault}
use Rattle.archive_records.specs.declared.kind.TextKind.TheVariants.{Archive as Archive_text}
use Rattle.archive_records.specs.Fault.{IsOfText}
use Rattle.archive_records.specs.Reading.{IsReadWhole}
use Rattle.archive_records.specs.Text.{AreOperations}
use Rattle.archive_merge.specs.Merging.{ForTexts, IsRefusedAlone, IsUnfailed, LeftStops, RightStops}
use Rattle.archive_merge.specs.ArrivalMerge.{HasOperations}

-- Both inputs are texts of archives, and this number of operations of the old one are lost in the new one, which
-- neither has nor covers them.
pub record Loses {R S : Type 0} (new : Stream R) (old : Stream S) (lost : ℕ) : Type 0 where
  pub content : Operations
  pub operations : Operations
  pub new_is : IsReadWhole Archive_text content new.bytes new.failures new.old new.new
  pub old_is : IsReadWhole Archive_text (content_of operations) old.bytes old.failures old.old old.new
  pub are : AreOperations operations
  pub old_has : IfSome (old.bytes old.old) (HasOperations operations)
  pub lost_is : lost ≡ count_by (changes content) (listing operations)

-- The new archive is refused: reading it whole and alone is refused with this fault. If the fault is in its text, it is
-- the side that stops a merge of both.
pub record IsNewRefused {R S : Type 0} (new : Stream R) (old : Stream S) (fault : RecordFault) : Type 0 where
  pub refused : IsRefusedAlone new fault
  pub old_unfailed : IsUnfailed old
  pub stops : IsOfText fault.kind → ForTexts new old LeftStops

-- The old archive is refused, in the same way.
pub record IsOldRefused {R S : Type 0} (new : Stream R) (old : Stream S) (fault : RecordFault) : Type 0 where
  pub refused : IsRefusedAlone old fault
  pub new_unfailed : IsUnfailed new
  pub stops : IsOfText fault.kind → ForTexts new old RightStops

-- why two archives are not compared: the left one, which is the new one, is refused, or the right one; nothing is
-- written, so no write fails
abbrev pub IsNotCompared : {R S : Type 0} → Stream R → Stream S → MergeCause → Type 0
IsNotCompared new old (Left fault) = IsNewRefused new old fault
IsNotCompared new old (Right fault) = IsOldRefused new old fault
IsNotCompared new old Write = ⊥
