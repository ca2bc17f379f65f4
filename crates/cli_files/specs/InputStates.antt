-- An input that is opened at its first read.
use Rattle.std.specs.Prelude.{◌≡◌, ◌≢◌, ℕ, List, [], ◌∷◌, ◌++◌, take, Option, Some, None, Ok, Err}
use Rattle.std.specs.Prelude.{IfSome, ⊤}
use Rattle.std.specs.List.{AllByRecursion, AllZip}
use Rattle.std.specs.IoError.{error_kind}
use Rattle.std.specs.declared.io.ErrorKind.TheVariants.{OutOfMemory}
use Rattle.byte_device.specs.Disks.{At, FileAt, Holding, IsOpened, Missing, Path, Unknown, opened_with}
use Rattle.byte_lazy_inputs.specs.declared.openings.Opening.{Opening}
use Rattle.byte_lazy_inputs.specs.declared.openings.Opening.TheVariants as openings
use Rattle.cli_files.specs.declared.input_state.InputState.{InputState}
use Rattle.cli_files.specs.declared.input_state.InputState.TheVariants as state
use Rattle.cli_files.specs.declared.input_state.Unopened.{Unopened as Reason}
use Rattle.cli_files.specs.declared.input_state.Unopened.TheVariants as why

-- the stage of an input
pub data Stage : Type 0 where
  Waiting : Stage
  Open : Stage
  Unopened : Reason → Stage

abbrev pub stage_of : {I P : Type 0} → InputState I P → Stage
stage_of state.Waiting = Waiting
stage_of (state.Open input) = Open
stage_of (state.Placed places) = Open
stage_of (state.Unopened reason) = Unopened reason

-- the reason why opening failed, if it did
abbrev pub unopened_in : Stage → Option Reason
unopened_in Waiting = None
unopened_in Open = None
unopened_in (Unopened reason) = Some reason

-- the result of opening, from the reason why it failed, if it did
abbrev pub opening_by : Option Reason → Opening
opening_by None = openings.Fine
opening_by (Some (why.Refused refused)) = openings.Refused
opening_by (Some why.OutOfMemory) = openings.OutOfMemory

abbrev pub opening_in : Stage → Opening
opening_in stage = opening_by (unopened_in stage)

-- the paths that were opened for an input with this path
abbrev pub opened_in : Stage → Path → List Path
opened_in Waiting path = []
opened_in Open path = path ∷ []
opened_in (Unopened reason) path = path ∷ []

-- the paths at which opening ran out of memory, for an input with this path
abbrev pub wanting_in : Stage → Path → List Path
wanting_in Waiting path = []
wanting_in Open path = []
wanting_in (Unopened (why.Refused refused)) path = []
wanting_in (Unopened why.OutOfMemory) path = path ∷ []

-- The disk's list of failures for lack of memory gains this path if that is why the input was not opened, and is
-- otherwise unchanged.
abbrev pub SaysWanting : Option (List Path) → Option (List Path) → Stage → Path → Type 0
SaysWanting old new Waiting path = new ≡ old
SaysWanting old new Open path = new ≡ old
SaysWanting old new (Unopened (why.Refused refused)) path = new ≡ old
SaysWanting old new (Unopened why.OutOfMemory) path = new ≡ opened_with old (path ∷ [])

-- The bytes of a file, from the known facts about it. A missing file is modelled by a value that is no byte, so nobody
-- can have read it.
abbrev pub bytes_at : FileAt → Option (List ℕ)
bytes_at Unknown = None
bytes_at (At path) = None
bytes_at Missing = Some (256 ∷ [])
bytes_at (Holding bytes) = Some bytes

-- the bytes that an input has left, from the known facts about its file
abbrev pub left_in : {I P : Type 0} → (I → Option (List ℕ)) → FileAt → InputState I P → Option (List ℕ)
left_in left file state.Waiting = bytes_at file
left_in left file (state.Open input) = left input
left_in left file (state.Placed places) = bytes_at file
left_in left file (state.Unopened reason) = bytes_at file

-- the file of an input that was opened to be read from its start
abbrev pub input_in : {I P : Type 0} → InputState I P → Option I
input_in state.Waiting = None
input_in (state.Open input) = Some input
input_in (state.Placed places) = None
input_in (state.Unopened reason) = None

-- the file of an input that was opened to be read at any offset
abbrev pub places_in : {I P : Type 0} → InputState I P → Option P
places_in state.Waiting = None
places_in (state.Open input) = None
places_in (state.Placed places) = Some places
places_in (state.Unopened reason) = None

-- If it was opened to be read at any offset, it has the bytes of its file, where these are known.
abbrev pub HoldsFile : {I P : Type 0} → (P → Option (List ℕ)) → FileAt → InputState I P → Type 0
HoldsFile whole file state =
    IfSome (places_in state) (λ places. IfSome (bytes_at file) (λ bytes. whole places ≡ Some bytes))

-- The state is the result of opening such a file to be read from its start, or memory ran out.
abbrev pub GivesState : {I P : Type 0} → (I → Option (List ℕ)) → (I → ℕ) → (I → List Path) → FileAt
    → InputState I P → Type 0
GivesState left failures path_of file state.Waiting = ⊥
GivesState left failures path_of file (state.Open input) = IsOpened left failures path_of file (Ok input)
GivesState left failures path_of file (state.Placed places) = ⊥
GivesState left failures path_of file (state.Unopened (why.Refused refused)) =
    IsOpened left failures path_of file (Err refused)
GivesState left failures path_of file (state.Unopened why.OutOfMemory) = ⊤

-- The state is the result of opening such a file to be read at any offset, or memory ran out.
abbrev pub GivesPlaces : {I P : Type 0} → (P → Option (List ℕ)) → (P → ℕ) → (P → List Path) → FileAt
    → InputState I P → Type 0
GivesPlaces whole failures opened_at file state.Waiting = ⊥
GivesPlaces whole failures opened_at file (state.Open input) = ⊥
GivesPlaces whole failures opened_at file (state.Placed places) = IsOpened whole failures opened_at file (Ok places)
GivesPlaces whole failures opened_at file (state.Unopened (why.Refused refused)) =
    IsOpened whole failures opened_at file (Err refused)
GivesPlaces whole failures opened_at file (state.Unopened why.OutOfMemory) = ⊤

-- An input may be at this stage, by the known facts about its file: a missing file is not open, a file with known bytes
-- is not refused, and a file of the system is refused only for a reason other than lack of memory.
abbrev pub IsStateOf : FileAt → Stage → Type 0
IsStateOf Missing Open = ⊥
IsStateOf (Holding bytes) (Unopened (why.Refused refused)) = ⊥
IsStateOf (At path) (Unopened (why.Refused refused)) = error_kind refused.reason ≢ OutOfMemory
IsStateOf _ _ = ⊤

-- The ghost functions of inputs: the bytes left, all bytes, and the number of failures of each; its path, the knowledge
-- of its file, and its stage; and, where known, the paths that were opened for it, and those at which the system
-- reported that memory ran out.
pub record Told (S : Type 0) : Type 0 where
  pub left : S → Option (List ℕ)
  pub whole : S → Option (List ℕ)
  pub failures : S → ℕ
  pub path : S → Path
  pub file : S → FileAt
  pub stage : S → Stage
  pub opened : S → Option (List Path)
  pub wanting : S → Option (List Path)

-- the result of opening one of these inputs
abbrev pub opening_told : {S : Type 0} → Told S → S → Opening
opening_told told input = opening_in (told.stage input)

-- The input has this path and was not read yet.
pub record IsWaiting {S : Type 0} (told : Told S) (path : Path) (input : S) : Type 0 where
  pub path_is : told.path input ≡ path
  pub waits : told.stage input ≡ Waiting
  pub unfailed : told.failures input ≡ 0
  pub bytes : told.left input ≡ bytes_at (told.file input)
  pub all : told.whole input ≡ bytes_at (told.file input)

-- An input opens no path but its own, once, at its first read. If it was not opened for lack of memory, the system
-- reported that. If it was not opened, it failed.
pub record IsLazyInput {S : Type 0} (told : Told S) (input : S) : Type 0 where
  pub log : (paths : List Path) → told.opened input ≡ Some paths
      → paths ≡ opened_in (told.stage input) (told.path input)
  pub wants : (paths : List Path) → told.wanting input ≡ Some paths
      → paths ≡ wanting_in (told.stage input) (told.path input)
  pub fits : ∥ IsStateOf (told.file input) (told.stage input) ∥₁
  pub failed : unopened_in (told.stage input) ≢ None → told.failures input ≢ 0

-- The inputs have these paths, in this order, and were not read yet.
abbrev pub AreWaiting : {S : Type 0} → Told S → List Path → List S → Type 0
AreWaiting told paths inputs = AllZip (IsWaiting told) paths inputs

-- Each of these inputs satisfies `IsLazyInput`.
abbrev pub AreLazyInputs : {S : Type 0} → Told S → List S → Type 0
AreLazyInputs told inputs = AllByRecursion (IsLazyInput told) inputs

-- Inputs were made for the first `count` of these paths, once each and in this order.
abbrev pub AreFirstAsked : List Path → List Path → List Path → Type 0
AreFirstAsked asked_old asked_new paths = (count : ℕ) × (asked_new ≡ asked_old ++ take count paths)
