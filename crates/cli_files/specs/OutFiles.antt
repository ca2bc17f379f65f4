-- OUT: its stages, and the replies of the system about it.
use Rattle.std.specs.Prelude.{◌≡◌, ◌≢◌, ℕ, Bool, true, false, List, [], Option, Some, None, Result, IsErr, string_bytes}
use Rattle.std.specs.Io.KnownBytes.{WriteAppends}
use Rattle.std.specs.declared.io.Error.{Error}
use Rattle.cli_files.specs.FileCalls.{FileCall, bytes_in}
use Rattle.cli_files.specs.Publishing.{IsDescriptor, IsDrafted, IsRemoved, IsTargetOf, IsWritable, IsWrittenThrough}
use Rattle.cli_files.specs.Publishing.{account, there}
use Rattle.cli_files.specs.Refusals.{IsRefused}
use Rattle.cli_files.specs.declared.out_file.OutState.{OutState}
use Rattle.cli_files.specs.declared.out_file.OutState.TheVariants as state
use Rattle.cli_files.specs.declared.published.Published.{Published}
use Rattle.cli_files.specs.declared.replaceable.{Obstacle.Obstacle, OutFault.OutFault}
use Rattle.cli_files.specs.declared.replaceable.Obstacle.TheVariants as obstacle
use Rattle.cli_files.specs.declared.replaceable.OutFault.TheVariants as fault
use Rattle.cli_files.specs.declared.replaceable.ReplaceRule.{ReplaceRule}
use Rattle.cli_files.specs.declared.ways.WriteMode.{WriteMode}
use Rattle.cli_files.specs.declared.ways.WriteMode.TheVariants as way

-- the stage of OUT
pub data Stage : Type 0 where
  Untouched : Stage
  Through : Stage
  Drafted : (draft : List ℕ) → (target : List ℕ) → Stage
  Refused : OutFault → Stage
  Removed : Stage
  Settled : Stage

abbrev pub stage_of : {T : Type 0} → OutState T → Stage
stage_of state.Untouched = Untouched
stage_of (state.Through file) = Through
stage_of (state.Drafted draft) = Drafted (string_bytes draft.own.path) (string_bytes draft.target)
stage_of (state.Refused fault) = Refused fault
stage_of state.Removed = Removed
stage_of state.Settled = Settled

-- The file received exactly the first bytes that are reported as written, and none if the write failed. Without a file,
-- none are reported.
abbrev pub WritesTo : {T E : Type 0} → (T → Option (List ℕ)) → OutState T → OutState T → Result ℕ E → List ℕ → Type 0
WritesTo contents (state.Through old) (state.Through new) result bytes =
    WriteAppends (contents old) (contents new) result bytes
WritesTo contents (state.Drafted old) (state.Drafted new) result bytes =
    WriteAppends (contents old.own.file) (contents new.own.file) result bytes
WritesTo contents (state.Through old) _ result bytes = ⊥
WritesTo contents (state.Drafted old) _ result bytes = ⊥
WritesTo contents _ _ result bytes = IsErr result

-- The same for a file that may be opened by this write.
abbrev pub WritesBegun : {T E : Type 0} → (T → Option (List ℕ)) → OutState T → OutState T → Result ℕ E → List ℕ → Type 0
WritesBegun {T = T} contents old new result bytes =
    (begun : OutState T) × (stage_of old ≢ Untouched → begun ≡ old) × WritesTo contents begun new result bytes

-- the stage accepts bytes
abbrev pub takes_bytes : Stage → Bool
takes_bytes Untouched = false
takes_bytes Through = true
takes_bytes (Drafted draft target) = true
takes_bytes (Refused fault) = false
takes_bytes Removed = false
takes_bytes Settled = false

-- calls may have been made for it and not yet handed on
abbrev pub has_calls : Stage → Bool
has_calls Untouched = false
has_calls Through = true
has_calls (Drafted draft target) = true
has_calls (Refused fault) = true
has_calls Removed = true
has_calls Settled = false

-- the stage has a draft
abbrev pub is_drafted : Stage → Bool
is_drafted Untouched = false
is_drafted Through = false
is_drafted (Drafted draft target) = true
is_drafted (Refused fault) = false
is_drafted Removed = false
is_drafted Settled = false

-- it was published, and its calls were handed on
abbrev pub is_settled : Stage → Bool
is_settled Untouched = false
is_settled Through = false
is_settled (Drafted draft target) = false
is_settled (Refused fault) = false
is_settled Removed = false
is_settled Settled = true

-- the reason why it was not created or not published, if it was not
abbrev pub fault_of : Stage → Option OutFault
fault_of Untouched = None
fault_of Through = None
fault_of (Drafted draft target) = None
fault_of (Refused fault) = Some fault
fault_of Removed = None
fault_of Settled = None

-- the reason why the file at its path was not replaced, if it was not
abbrev pub obstacle_of : Stage → Option Obstacle
obstacle_of (Refused (fault.NotReplaced obstacle)) = Some obstacle
obstacle_of stage = None

-- the error of the system: of its creation or publication if that failed, else of the last failed write
abbrev pub reason_of : Stage → Option Error → Option Error
reason_of (Refused (fault.NotCreated reason)) last = reason
reason_of (Refused (fault.NotReplaced (obstacle.Refused reason))) last = reason
reason_of stage last = last

-- these probes of the path show that OUT is written in this mode, under this rule of replacement
abbrev pub IsWayTo : ReplaceRule → List ℕ → WriteMode → List FileCall → Type 0
IsWayTo replaces path way.Through probes = IsWritable path probes
IsWayTo replaces path (way.Beside target found) probes =
    IsTargetOf replaces path (string_bytes target) probes × (found ≡ there probes) × (IsDescriptor path → ⊥)

-- the calls made so far for OUT at this stage, with this path, if any, and this rule of replacement
abbrev pub IsSoFar : ReplaceRule → Option (List ℕ) → Stage → List FileCall → Type 0
IsSoFar replaces path Untouched calls = calls ≡ []
IsSoFar replaces path Through calls =
    (p : List ℕ) × (path ≡ Some p) × (text : List ℕ) × IsWrittenThrough p text calls
IsSoFar replaces path (Drafted draft target) calls =
    (p : List ℕ) × (path ≡ Some p) × IsDrafted replaces p draft target calls
IsSoFar replaces path (Refused fault) calls = IsRemoved replaces path calls × IsRefused replaces path fault calls
IsSoFar replaces path Removed calls = IsRemoved replaces path calls
IsSoFar replaces path Settled calls = calls ≡ []

-- The account of OUT's draft: as `account`, but nothing once it was published.
abbrev pub draft_account : Bool → Option (List ℕ) → ReplaceRule → List FileCall → List ℕ
draft_account true path replaces calls = []
draft_account false path replaces calls = account path replaces (bytes_in calls)

-- The account of a published output: its path, its rule of replacement, and the bytes written to it.
abbrev pub published_account : Option Published → Option (List ℕ)
published_account None = None
published_account (Some published) =
    Some (account (Some (string_bytes published.path)) published.replaces (bytes_in published.calls.entries))

-- the calls made for a published output
abbrev pub publishing_calls : Option Published → List FileCall
publishing_calls None = []
publishing_calls (Some published) = published.calls.entries
