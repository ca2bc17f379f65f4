-- `merge` of one FILE: the two archives are merged as they are read.
use Rattle.std.specs.Prelude.{◌≡◌, ◌≢◌, List, [], ◌∷◌, Err}
use Rattle.archive_records.specs.declared.fault.MergeCause.{MergeCause}
use Rattle.archive_records.specs.declared.fault.MergeCause.TheVariants.{Left, Right, Write}
use Rattle.archive_records.specs.declared.fault.MergeFault.{MergeFault}
use Rattle.archive_records.specs.declared.fault.RecordFaultKind.TheVariants.{OutOfMemory as RecordOutOfMemory}
use Rattle.byte_device.specs.Devices.{Stream, stream}
use Rattle.archive_merge.specs.Merging.{GainsCount, Merges}
use Rattle.command_common.specs.declared.faults.CommandFault.{CommandFault}
use Rattle.command_common.specs.declared.faults.CommandFault.TheVariants.{Input, Output, Report, OutOfMemory}
use Rattle.command_common.specs.declared.faults.InputName.{InputName}
use Rattle.command_common.specs.declared.faults.InputName.TheVariants.{Archive}
use Rattle.command_common.specs.declared.faults.Why.{Why}
use Rattle.command_common.specs.declared.faults.Why.TheVariants.{Record}
use Rattle.command_common.specs.Ends.{MakesArchive, Streamed}
use Rattle.command_common.specs.Inputs.{EachUnfailed, Reader, Unfailed}
use Rattle.command_common.specs.Outputs.{Outs, draft_of, out_of}
use Rattle.command_archives.specs.Merge.{MakesMerged, merge_in_turn}

-- the side that stopped the merge is reported with its fault: IN as archive 0, the FILE as archive 1
abbrev pub IsSide : MergeCause → InputName → Why → Type 0
IsSide (Left fault) at why = (at ≡ Archive 0) × (why ≡ Record fault) × (fault.kind ≢ RecordOutOfMemory)
IsSide (Right fault) at why = (at ≡ Archive 1) × (why ≡ Record fault) × (fault.kind ≢ RecordOutOfMemory)
IsSide Write at why = ⊥

-- memory ran out for a side
abbrev pub WantsMemory : MergeCause → Type 0
WantsMemory (Left fault) = fault.kind ≡ RecordOutOfMemory
WantsMemory (Right fault) = fault.kind ≡ RecordOutOfMemory
WantsMemory Write = ⊥

-- the fault that is reported if this stopped the merge
abbrev pub IsMergeFaultTold : MergeFault → CommandFault → Type 0
IsMergeFaultTold e (Input at why) = IsSide e.cause at why
IsMergeFaultTold e (Output n) = e ≡ record { cause = Write; written = n }
IsMergeFaultTold e (Report n) = ⊥
IsMergeFaultTold e OutOfMemory = WantsMemory e.cause

-- The merge of both inputs was stopped, and this fault is reported. The draft has the bytes that the merge wrote, as
-- many as its fault states.
pub record StopsMerge {R S D : Type 0} (left : Stream R) (right : Stream S) (draft : Stream D) (fault : CommandFault)
    : Type 0 where
  pub stopped : MergeFault
  pub merges : Merges left right draft (Err stopped)
  pub count : GainsCount draft stopped.written
  pub told : IsMergeFaultTold stopped fault

-- the faults that stop the command: those that stop the merge of both
abbrev pub StopsMergeOfOne : {R S D : Type 0} → Reader R → Reader S → Stream D → CommandFault → Type 0
StopsMergeOfOne input file draft fault =
    StopsMerge (stream input.left input.failures input.old input.new)
    (stream file.left file.failures file.old file.new) draft fault

-- `merge` of one FILE
abbrev pub merge_of_one : {R S D : Type 0} → Reader R → Reader S → Stream D → Streamed
merge_of_one input file draft = record {
  Makes = MakesArchive (MakesMerged input (file ∷ []));
  Stops = StopsMergeOfOne input file draft;
  Unfailed = Unfailed input × EachUnfailed (file ∷ []);
}

-- `merge`: with one FILE while both are read; otherwise while IN is read, after the FILEs
abbrev pub merge_as_it_comes : {R S D T : Type 0} → Reader R → List (Reader S) → Outs D T → Streamed
merge_as_it_comes {S = S} input [] out = merge_in_turn {S = S} input [] (out_of out).draft
merge_as_it_comes input (file ∷ []) out = merge_of_one input file (draft_of out)
merge_as_it_comes input (file ∷ next ∷ more) out = merge_in_turn input (file ∷ next ∷ more) (out_of out).draft
