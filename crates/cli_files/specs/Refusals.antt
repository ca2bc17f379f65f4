-- Why OUT is refused, by the last replies of the system.
use Rattle.std.specs.Prelude.{◌≡◌, ◌≢◌, ◌≤◌, ◌⊎◌, ℕ, Bool, true, false, List, [], ◌∷◌, ◌++◌, length}
use Rattle.std.specs.Prelude.{Option, Some, None}
use Rattle.std.specs.IoError.{error_kind}
use Rattle.std.specs.declared.io.Error.{Error}
use Rattle.std.specs.declared.io.ErrorKind.TheVariants as kind
use Rattle.archive_records.specs.Fault.{IsOfText}
use Rattle.archive_records.specs.declared.fault.MergeCause.{MergeCause}
use Rattle.archive_records.specs.declared.fault.MergeCause.TheVariants.{Left, Right, Write}
use Rattle.archive_records.specs.declared.fault.RecordFaultKind.TheVariants as record_fault
use Rattle.cli_files.specs.FileCalls.{Begins, Compares, FileCall, FindsLink, FindsNothing, Refuses}
use Rattle.cli_files.specs.FileCalls.{Removes, failed, taking}
use Rattle.cli_files.specs.Publishing.{AreOther}
use Rattle.cli_files.specs.Replacing.{IsOfKind}
use Rattle.cli_files.specs.declared.replaceable.{Obstacle.Obstacle, OutFault.OutFault, ReplaceRule.ReplaceRule}
use Rattle.cli_files.specs.declared.replaceable.Obstacle.TheVariants as obstacle
use Rattle.cli_files.specs.declared.replaceable.OutFault.TheVariants as fault
use Rattle.cli_files.specs.declared.replaceable.ReplaceRule.TheVariants.{ArchivesBelow}

-- the last call failed with this error
abbrev pub Fails : Error → List FileCall → Type 0
Fails error calls =
    (before : List FileCall) × (path : List ℕ) × (calls ≡ before ++ failed path (error_kind error) ∷ [])

-- A link that leads to nothing is at a path.
abbrev pub LeadsNowhere : Error → List FileCall → Type 0
LeadsNowhere error calls =
    (before : List FileCall) × (path : List ℕ) × (error_kind error ≡ kind.NotFound)
    × (calls ≡ before ++ FindsNothing path ∷ FindsLink path ∷ [])

-- Each of the hundred names that a draft may have is in use or is the target's own.
abbrev pub HasNoName : Error → List FileCall → Type 0
HasNoName error calls =
    (before : List FileCall) × (taken : List (List ℕ)) × (99 ≤ length taken) × (error_kind error ≡ kind.AlreadyExists)
    × (calls ≡ before ++ taking taken)

-- The file there has the first bytes of an archive, and its comparison with the draft failed.
abbrev pub IsUncompared : List FileCall → Type 0
IsUncompared calls =
    (before : List FileCall) × (path : List ℕ) × (bytes : List ℕ) × IsOfKind ArchivesBelow bytes
    × (calls ≡ before ++ Begins path bytes ∷ [])

-- The fault for two archives, of which the left is the draft, if reading them stops for this cause. The two errors are
-- the last ones of the draft and of the other archive, if any.
abbrev pub IsUnread : MergeCause → Option Error → Option Error → OutFault → Type 0
IsUnread (Left stop) of_draft of_target fault.OutOfMemory = stop.kind ≡ record_fault.OutOfMemory
IsUnread (Right stop) of_draft of_target fault.OutOfMemory = stop.kind ≡ record_fault.OutOfMemory
IsUnread (Right stop) of_draft of_target (fault.NotReplaced obstacle.Damaged) = IsOfText stop.kind
IsUnread (Right stop) of_draft of_target (fault.NotReplaced (obstacle.Refused reason)) =
    (stop.kind ≡ record_fault.Device) × (reason ≡ of_target)
IsUnread (Left stop) of_draft of_target (fault.NotReplaced (obstacle.Refused reason)) =
    (stop.kind ≢ record_fault.OutOfMemory) × (reason ≡ of_draft)
IsUnread Write of_draft of_target (fault.NotReplaced (obstacle.Refused reason)) = reason ≡ of_draft
IsUnread stop of_draft of_target refusal = ⊥

-- the last calls show that this obstacle at the target prevents its replacement
abbrev pub IsInTheWay : ReplaceRule → Obstacle → List FileCall → Type 0
IsInTheWay replaces (obstacle.OtherKind bytes) calls =
    (before : List FileCall) × (path : List ℕ) × (IsOfKind replaces bytes → ⊥)
    × (calls ≡ before ++ Begins path bytes ∷ [])
IsInTheWay replaces (obstacle.Loses lost) calls =
    (before : List FileCall) × (draft : List ℕ) × (target : List ℕ) × (lost ≢ 0)
    × (calls ≡ before ++ Compares draft target lost ∷ [])
IsInTheWay replaces obstacle.Damaged calls = IsUncompared calls
IsInTheWay replaces obstacle.Differs calls =
    (before : List FileCall) × (draft : List ℕ) × (target : List ℕ) × (tests : List FileCall)
    × AreOther draft target tests
    × (calls ≡ before ++ tests)
IsInTheWay replaces (obstacle.Refused None) calls = IsUncompared calls
IsInTheWay replaces (obstacle.Refused (Some error)) calls = Fails error calls ⊎ IsUncompared calls

-- a call that failed for a reason other than lack of memory
abbrev pub is_failure : FileCall → Bool
is_failure (FindsNothing path) = true
is_failure (Refuses path) = true
is_failure _ = false

-- The last calls show why OUT is refused. The fault is lack of memory only if the last call did not fail for another
-- reason.
abbrev pub IsSaid : ReplaceRule → OutFault → List FileCall → Type 0
IsSaid replaces (fault.NotCreated None) calls = ⊥
IsSaid replaces (fault.NotCreated (Some error)) calls = Fails error calls ⊎ LeadsNowhere error calls
    ⊎ HasNoName error calls
IsSaid replaces (fault.NotReplaced obstacle) calls = IsInTheWay replaces obstacle calls
IsSaid replaces fault.OutOfMemory calls =
    (before : List FileCall) × (said : FileCall) × (is_failure said ≡ false) × (calls ≡ before ++ said ∷ [])

-- The calls end with the removal of a draft, and show the reason before it.
abbrev pub IsRemovedFor : ReplaceRule → OutFault → List ℕ → List FileCall → Type 0
IsRemovedFor replaces fault draft calls =
    (asked : List FileCall) × IsSaid replaces fault asked × (calls ≡ asked ++ Removes draft ∷ [])

-- OUT, with this path, if any, is refused for this reason: it has no path, or the system reported the reason and the
-- draft, if any, was removed.
abbrev pub IsRefused : ReplaceRule → Option (List ℕ) → OutFault → List FileCall → Type 0
IsRefused replaces path refusal calls =
    ((path ≡ None) × (refusal ≡ fault.NotCreated None) × (calls ≡ [])) ⊎ IsSaid replaces refusal calls
    ⊎ ((draft : List ℕ) × IsRemovedFor replaces refusal draft calls)
