-- Operations in memory, read as if they were a text: the terms of `BorrowedText`, and of the inner functions.
use Rattle.std.specs.Prelude.{◌≡◌, ◌≢◌, ℕ, ◌+◌, List, [], ◌++◌, length, map, Option, Some, None, Result, Ok, Err}
use Rattle.std.specs.List.{concat}
use Rattle.std.specs.Io.KnownBytes.{IsAtEnd}
use Rattle.archive_core.specs.declared.operations.Record.{Record}
use Rattle.archive_core.specs.Record.{borrowed_bytes, record_bytes}
use Rattle.archive_records.specs.declared.fault.RecordFault.{RecordFault}
use Rattle.archive_records.specs.declared.fault.RecordFaultKind.TheVariants.{Device, OutOfMemory, Truncated}
use Rattle.archive_records.specs.declared.format.Format.TheVariants.{OldArchive}
use Rattle.archive_records.specs.Kind.{old_magic}
use Rattle.archive_records.specs.Reader.{Finishes, HasWhole, Passes, Position, StopsAt}
use Rattle.archive_records.specs.Text.{end_record}
use Rattle.archive_merge.specs.declared.borrowed.BorrowedSide.{BorrowedSide}
use Rattle.archive_merge.specs.declared.borrowed.BorrowedText.{BorrowedText}
use Rattle.archive_merge.specs.declared.borrowed.Part.{Part}
use Rattle.archive_merge.specs.declared.borrowed.Part.TheVariants.{None as Nothing, Records, All}
use Rattle.archive_merge.specs.declared.side.Lookahead.{Lookahead}
use Rattle.archive_merge.specs.declared.side.Lookahead.TheVariants.{Unread, Held, Ended}
use Rattle.archive_merge.specs.declared.side.MergeInput.{MergeInput}

-- the rest of a text after this part, with the bytes after its records
abbrev pub left_by : Part → List ℕ → List ℕ
left_by Nothing behind = old_magic ++ behind
left_by Records behind = behind
left_by All behind = []

-- the rest of a text
abbrev pub left_of : BorrowedText → List ℕ
left_of text = left_by text.taken
    (concat (map record_bytes text.rest.now) ++ end_record (text.count + length text.rest.now))

-- the last record, if there is one
abbrev pub last_bytes : Option Record → List ℕ
last_bytes None = []
last_bytes (Some item) = borrowed_bytes item

-- the state of a side, as that of one that reads the text
abbrev pub seen_of : BorrowedSide → MergeInput
seen_of side = record {
  reader = record {
    file = OldArchive;
    last = last_bytes side.last;
    count = side.count;
    offset = side.offset;
    retired = side.retired;
    dropped = side.dropped;
  };
  ahead = side.ahead;
}

-- the result of one step, by the state of the next record
abbrev pub StepsBy : Option (List ℕ) → Option (List ℕ) → Position → Position → Lookahead → Type 0
StepsBy a b before after Unread = ⊥
StepsBy a b before after Held = Passes a b before after
StepsBy a b before after Ended = Finishes a b before after × IsAtEnd b

-- the result of one step: one more record, the end of the text, or the fault
abbrev pub AdvancesTo : {T : Type 0} → Option (List ℕ) → Option (List ℕ) → Position → Position → Lookahead
    → Result T RecordFault → Type 0
AdvancesTo a b before after ahead (Ok done) = StepsBy a b before after ahead
AdvancesTo a b before after ahead (Err fault) =
    (stop : StopsAt a b before fault) × (fault.kind ≢ Device) × (fault.kind ≢ Truncated)
    × (fault.kind ≡ OutOfMemory → HasWhole before.file stop.rest after.last)
