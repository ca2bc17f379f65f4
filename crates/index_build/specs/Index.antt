-- The index that `index` makes from an archive.
use Rattle.std.specs.Prelude.{◌≡◌, ◌++◌, ℕ, List, codes, length, Err}
use Rattle.std.specs.Fmt.{decimal}
use Rattle.std.specs.FinSet as set
use Rattle.byte_device.specs.Devices.{Stream, stream}
use Rattle.archive_core.specs.Content.{Operations, IsContent}
use Rattle.archive_records.specs.Text.{written}
use Rattle.archive_records.specs.declared.fault.RecordFaultKind.TheVariants.{OutOfMemory as RecordOutOfMemory}
use Rattle.archive_records.specs.declared.writing.Sizes.{Sizes}
use Rattle.index_format.specs.declared.fault.IndexingFault.{IndexingFault}
use Rattle.index_format.specs.declared.fault.IndexingFault.TheVariants.{Archive as OfArchive, OldArchive, TooLong}
use Rattle.index_build.specs.Content.{HasByteSlices, IsIndexOf}
use Rattle.index_build.specs.Making.{Makes}
use Rattle.index_build.specs.declared.fault.MakingFault.{MakingFault}
use Rattle.index_build.specs.declared.fault.MakingFault.TheVariants.{Archive as Refused, Write as Wrote}
use Rattle.text_reports.specs.Report.{line}
use Rattle.command_common.specs.Ends.{Streamed}
use Rattle.command_common.specs.Inputs.{Reader, IsRefusal, Unfailed, Holds}
use Rattle.command_common.specs.declared.faults.CommandFault.{CommandFault}
use Rattle.command_common.specs.declared.faults.CommandFault.TheVariants.{Output}
use Rattle.command_common.specs.declared.faults.InputName.TheVariants.{Archive}
use Rattle.command_common.specs.declared.faults.Why.{Why}
use Rattle.command_common.specs.declared.faults.Why.TheVariants as why_is

-- the numbers of an index's entries and bytes that were written
abbrev pub index_line : Sizes → List ℕ
index_line sizes = line (codes "index: " ++ decimal sizes.records ++ codes " entries, " ++ decimal sizes.bytes
    ++ codes " bytes")

-- the report of a content's index with this text: an entry for each operation, and the length of the text
abbrev pub index_report_of : Operations → List ℕ → List ℕ
index_report_of o text = index_line (record { records = set.len o; bytes = length text })

-- why no index is made, as a fault of a command
abbrev pub why_of : IndexingFault → Why
why_of (OfArchive fault) = why_is.Record fault
why_of OldArchive = why_is.OldArchive
why_of TooLong = why_is.TooLong

-- memory ran out, and the archive has no fault
abbrev pub WantsMemory : IndexingFault → Type 0
WantsMemory (OfArchive fault) = fault.kind ≡ RecordOutOfMemory
WantsMemory OldArchive = ⊥
WantsMemory TooLong = ⊥

-- the command's fault for an archive that is refused with this fault
abbrev pub TellsRefusal : IndexingFault → CommandFault → Type 0
TellsRefusal fault told =
    IsRefusal (λ at why. (at ≡ Archive 0) × (why ≡ why_of fault) × (WantsMemory fault → ⊥)) (WantsMemory fault) told

-- the command's fault if making an index stopped with this one: why the archive is refused, or how many bytes OUT
-- accepted
abbrev pub TellsStop : MakingFault → CommandFault → Type 0
TellsStop (Refused fault) told = TellsRefusal fault told
TellsStop (Wrote fault) told = told ≡ Output fault.written

-- Making the index of the archive stopped, with this fault of the command. The draft has the bytes that were written.
pub record StopsMaking {R D : Type 0} (archive : Stream R) (draft : Stream D) (told : CommandFault) : Type 0 where
  pub stopped : MakingFault
  pub makes : Makes archive draft (Err stopped)
  pub tells : TellsStop stopped told

-- the command stopped: making the archive's index stopped
abbrev pub StopsIndex : {R D : Type 0} → Reader R → Stream D → CommandFault → Type 0
StopsIndex archive draft told =
    StopsMaking (stream archive.left archive.failures archive.old archive.new) draft told

-- ARCHIVE is the text of a content of byte strings in version 2; these are the text of its index, and the line with its
-- sizes.
pub record MakesIndex {R : Type 0} (archive : Reader R) (text told : List ℕ) : Type 0 where
  pub content : Operations
  pub is_content : IsContent content
  pub slices : HasByteSlices content
  pub archive_is : Holds archive (written content)
  pub text_is : IsIndexOf content text
  pub told_is : told ≡ index_report_of content text

-- `index`, for this archive and with this draft
abbrev pub index : {R D : Type 0} → Reader R → Stream D → Streamed
index archive draft = record {
  Makes = MakesIndex archive;
  Stops = StopsIndex archive draft;
  Unfailed = Unfailed archive;
}
