-- The archive in a draft and the archive at its target, compared before the draft replaces the target.
use Rattle.std.specs.Prelude.{◌≡◌, ◌⊎◌, ℕ, List, [], ◌++◌, Some, None, ⊤}
use Rattle.byte_device.specs.Devices.{stream}
use Rattle.byte_device.specs.declared.Source.{Ghosts as Sources}
use Rattle.archive_merge.specs.Losses.{IsNotCompared, Loses}
use Rattle.archive_records.specs.declared.fault.MergeCause.{MergeCause}
use Rattle.cli_files.specs.FileCalls.{FileCall}
use Rattle.cli_files.specs.Publishing.{BeginsSo}
use Rattle.cli_files.specs.Refusals.{Fails, IsUnread}
use Rattle.cli_files.specs.declared.replaceable.OutFault.{OutFault}
use Rattle.cli_files.specs.declared.replaceable.Obstacle.TheVariants as obstacle
use Rattle.cli_files.specs.declared.replaceable.OutFault.TheVariants as fault
use Rattle.cli_files.specs.declared.sides.ArchiveSide.{ArchiveSide}

-- The archives in the files that were opened at these two paths, each with its state before and after the comparison.
pub record Sides (R : Type 0) (draft target : List ℕ) : Type 0 where
  pub new_before : ArchiveSide R
  pub new_after : ArchiveSide R
  pub old_before : ArchiveSide R
  pub old_after : ArchiveSide R
  pub new_at : new_before.path.now ≡ draft
  pub old_at : old_before.path.now ≡ target

-- Both archives were read to their ends. The draft neither has nor covers `lost` records of the archive at the target.
pub record AreCompared {R : Type 0} (new old : Sources (ArchiveSide R)) (draft target : List ℕ) (lost : ℕ)
    : Type 0 where
  pub sides : Sides R draft target
  pub loses : Loses (stream new.left new.failures sides.new_before sides.new_after)
      (stream old.left old.failures sides.old_before sides.old_after) lost

-- One archive was not read to its end, and OUT is refused for that reason.
pub record AreUncompared {R : Type 0} (new old : Sources (ArchiveSide R)) (draft target : List ℕ) (refusal : OutFault)
    : Type 0 where
  pub sides : Sides R draft target
  pub stop : MergeCause
  pub stops : IsNotCompared (stream new.left new.failures sides.new_before sides.new_after)
      (stream old.left old.failures sides.old_before sides.old_after) stop
  pub unread : IsUnread stop sides.new_after.reading.reason sides.old_after.reading.reason refusal

-- OUT is refused before the two archives are read: the last of these calls failed, memory ran out, or the file at the
-- target is of another kind.
abbrev pub IsBeforeComparison : List FileCall → OutFault → Type 0
IsBeforeComparison calls fault.OutOfMemory = ⊤
IsBeforeComparison calls (fault.NotReplaced (obstacle.OtherKind bytes)) = ⊤
IsBeforeComparison calls (fault.NotReplaced (obstacle.Refused (Some error))) = Fails error calls
IsBeforeComparison calls refusal = ⊥

-- If the fault can only arise from the comparison, then the comparison produced it: records would be lost, or an
-- archive was not read to its end. The error is that of the last call, or the last error of a file that was not read to
-- its end.
abbrev pub IsOfComparison : {R : Type 0} → Sources (ArchiveSide R) → Sources (ArchiveSide R) → List ℕ → List ℕ
    → List FileCall → OutFault → Type 0
IsOfComparison new old draft target calls (fault.NotReplaced (obstacle.Loses lost)) =
    AreCompared new old draft target lost
IsOfComparison new old draft target calls (fault.NotReplaced obstacle.Damaged) =
    AreUncompared new old draft target (fault.NotReplaced obstacle.Damaged)
IsOfComparison new old draft target calls (fault.NotReplaced (obstacle.Refused None)) =
    AreUncompared new old draft target (fault.NotReplaced (obstacle.Refused None))
IsOfComparison new old draft target calls (fault.NotReplaced (obstacle.Refused (Some error))) =
    Fails error calls ⊎ AreUncompared new old draft target (fault.NotReplaced (obstacle.Refused (Some error)))
IsOfComparison new old draft target calls refusal = ⊤

-- The last calls show that no file or an empty file is at the target; or the archive there was compared with the draft,
-- which has or covers each of its records.
abbrev pub NoneLost : {R : Type 0} → Sources (ArchiveSide R) → Sources (ArchiveSide R) → List ℕ → List ℕ
    → List FileCall → List FileCall → Type 0
NoneLost new old draft target before calls =
    ((tests : List FileCall) × BeginsSo target [] tests × (calls ≡ before ++ tests))
    ⊎ AreCompared new old draft target 0
