-- The results of asking tables, and of asking slices if two are tied: definitions for private functions. No public
-- contract uses them.
use Rattle.std.specs.Prelude.{◌≡◌, ◌⊎◌, ◌&&◌, ℕ, List, [], ◌∷◌, Bool, true, false, Option, Result, Contains}
use Rattle.index_format.specs.declared.index_fault.IndexFaultKind.TheVariants.{Device as DeviceKind}
use Rattle.index_lookup.specs.Among.{AreAnsweringAmong, AreTied, EntryAt}
use Rattle.archive_core.specs.declared.lookup.Where.{Where}
use Rattle.index_lookup.specs.AmongAsked.{BlamesAmong, HaveTexts, IsFirstAmong, IsUntoldAmong, each_known}
use Rattle.index_lookup.specs.declared.fault.AnswerFault.{AnswerFault}
use Rattle.index_lookup.specs.declared.fault.AnswerFault.TheVariants.{Damaged, Device, NoLines, OutOfMemory}
use Rattle.command_common.specs.Inputs.{EachUnfailed, ReadsInputs, readers}
use Rattle.command_common.specs.declared.faults.CommandFault.{CommandFault}
use Rattle.command_common.specs.declared.faults.CommandFault.TheVariants as command
use Rattle.command_common.specs.declared.faults.InputName.{InputName}
use Rattle.command_common.specs.declared.faults.InputName.TheVariants.{Index}
use Rattle.command_common.specs.declared.faults.Why.{Why}
use Rattle.command_common.specs.declared.faults.Why.TheVariants as why
use Rattle.command_given_indexes.specs.Together.{AreAllKept, IsFirstRefusedAtPlaces}
use Rattle.command_frames.specs.Asking.{is_stale_entry}

-- the fault of a command for a fault of answers
abbrev pub command_fault : AnswerFault → CommandFault
command_fault (Damaged input entry) = command.Input (Index input) (why.Damaged entry)
command_fault (NoLines input entry) = command.Input (Index input) (why.NoLines entry)
command_fault (Device input offset) = command.Input (Index input)
    (why.Index (record { kind = DeviceKind; offset = offset }))
command_fault OutOfMemory = command.OutOfMemory

-- a fault of one key: a table was changed, or has no lines, which are wanted
abbrev pub IsOfKey : Bool → AnswerFault → Type 0
IsOfKey lines (Damaged input entry) = Unit {0}
IsOfKey lines (NoLines input entry) = lines ≡ true
IsOfKey lines (Device input offset) = ⊥
IsOfKey lines OutOfMemory = ⊥

-- the fault refuses all keys; if slices are wanted, a fault of one key does not
abbrev pub RefusesAll : Bool → AnswerFault → Type 0
RefusesAll false fault = Unit {0}
RefusesAll true (Damaged input entry) = ⊥
RefusesAll true (NoLines input entry) = ⊥
RefusesAll true (Device input offset) = Unit {0}
RefusesAll true OutOfMemory = Unit {0}

-- A table of the key with these bytes is refused at these addresses, for a fault of that key alone, which a command
-- reports as `why`.
pub record IsKeyFault (AreTexts : List (List ℕ) → Type 0) (all : List (List (List ℕ))) (lines : Bool) (key : List ℕ)
    (places : List Where) (at : InputName) (why : Why) : Type 0 where
  pub answering : List EntryAt
  pub are : AreAnsweringAmong key all answering
  pub fault : AnswerFault
  pub told_as : command_fault fault ≡ command.Input at why
  pub of_key : IsOfKey lines fault
  pub says : (texts : List (List ℕ)) → AreTexts texts → IsUntoldAmong texts answering fault
  pub first : (texts : List (List ℕ)) → AreTexts texts → IsFirstAmong texts lines places answering fault

-- A table of one of these keys is refused at these addresses, for a fault that a command reports as `why`.
pub record IsUntoldBy {D : Type 0} (whole : D → Option (List ℕ)) (failures : D → ℕ) (lines slices : Bool)
    (keys : List (List ℕ)) (places : List Where) (all : List (List (List ℕ))) (old new : List D) (at : InputName)
    (why : Why) : Type 0 where
  pub key : List ℕ
  pub key_is : Contains keys key
  pub answering : List EntryAt
  pub are : AreAnsweringAmong key all answering
  pub fault : AnswerFault
  pub told_as : command_fault fault ≡ command.Input at why
  pub refuses : RefusesAll slices fault
  pub says : (texts : List (List ℕ)) → HaveTexts whole old texts → IsUntoldAmong texts answering fault
  pub first : (texts : List (List ℕ)) → HaveTexts whole old texts → IsFirstAmong texts lines places answering fault
  pub counts : BlamesAmong lines answering (each_known failures old) (each_known failures new) fault

-- no device failed
abbrev pub NoneFailed : {D : Type 0} → (D → ℕ) → List D → List D → Type 0
NoneFailed failures old new = each_known failures new ≡ each_known failures old

-- The result of asking the tables under these keys at these addresses: a value that satisfies `IsTrue`, and each device
-- keeps its bytes; or a table is refused.
abbrev pub AsksTables : {D T : Type 0} → (D → Option (List ℕ)) → (D → ℕ) → Bool → Bool → List (List ℕ) → List Where
    → List (List (List ℕ)) → List D → List D → Result T CommandFault
    → (T → Type 0) → Type 0
AsksTables whole failures lines slices keys places all old new result IsTrue =
    ReadsInputs result (λ value. IsTrue value × (each_known whole new ≡ each_known whole old))
    (IsUntoldBy whole failures lines slices keys places all old new) (NoneFailed failures old new)

-- Two slices are tied under one of these keys, and one of the archives, which were kept up to then, is refused.
pub record IsUnreadBy {P : Type 0} (whole : P → Option (List ℕ)) (failures : P → ℕ) (slices : Bool)
    (keys : List (List ℕ)) (all : List (List (List ℕ))) (sizes : List ℕ) (old new : List P) (at : InputName) (why : Why)
    : Type 0 where
  pub key : List ℕ
  pub key_is : Contains keys key
  pub tied : AreTied key all
  pub mid : List P
  pub kept : AreAllKept whole failures old mid
  pub refused : IsFirstRefusedAtPlaces (key ∷ []) (readers whole failures mid new) all sizes at why
  pub of_all : (slices && is_stale_entry why) ≡ false

-- The result of asking the slices under these keys: a value that satisfies `IsTrue`, and each archive is kept; or an
-- archive is refused.
abbrev pub AsksSlices : {P T : Type 0} → (P → Option (List ℕ)) → (P → ℕ) → Bool → List (List ℕ)
    → List (List (List ℕ)) → List ℕ → List P → List P → Result T CommandFault → (T → Type 0) → Type 0
AsksSlices whole failures slices keys all sizes old new result IsTrue =
    ReadsInputs result (λ value. IsTrue value × AreAllKept whole failures old new)
    (IsUnreadBy whole failures slices keys all sizes old new) (EachUnfailed (readers whole failures old new))

-- under one of these keys a table is refused at these addresses, or an archive is refused
abbrev pub IsRefusedUnder : {D P : Type 0} → (D → Option (List ℕ)) → (D → ℕ) → (P → Option (List ℕ)) → (P → ℕ) → Bool
    → Bool → List (List (List ℕ)) → List ℕ → List D → List D → List P → List P → List (List ℕ) → List Where
    → InputName → Why → Type 0
IsRefusedUnder whole failures whole_at failures_at lines slices all sizes old new old_at new_at keys places at why =
    (EachUnfailed (readers whole_at failures_at old_at new_at)
    × IsUntoldBy whole failures lines slices keys places all old new at why)
    ⊎ (NoneFailed failures old new × IsUnreadBy whole_at failures_at slices keys all sizes old_at new_at at why)

-- The result of asking under these keys: a value that satisfies `IsTrue`, each index keeps its bytes, and each archive
-- is kept; or the given refusal.
abbrev pub AsksBy : {D P T : Type 0} → (D → Option (List ℕ)) → (D → ℕ) → (P → Option (List ℕ)) → (P → ℕ)
    → List D → List D → List P → List P → Result T CommandFault → (T → Type 0) → (InputName → Why → Type 0) → Type 0
AsksBy whole failures whole_at failures_at old new old_at new_at result IsTrue Refuses =
    ReadsInputs result
    (λ value. IsTrue value × (each_known whole new ≡ each_known whole old)
    × AreAllKept whole_at failures_at old_at new_at) Refuses
    (NoneFailed failures old new × EachUnfailed (readers whole_at failures_at old_at new_at))

-- the same, where a table is refused at these addresses, or an archive is refused, under one of these keys
abbrev pub AsksKeys : {D P T : Type 0} → (D → Option (List ℕ)) → (D → ℕ) → (P → Option (List ℕ)) → (P → ℕ) → Bool
    → Bool → List (List ℕ) → List Where → List (List (List ℕ)) → List ℕ → List D → List D → List P → List P
    → Result T CommandFault → (T → Type 0) → Type 0
AsksKeys whole failures whole_at failures_at lines slices keys places all sizes old new old_at new_at result IsTrue =
    AsksBy whole failures whole_at failures_at old new old_at new_at result IsTrue
    (IsRefusedUnder whole failures whole_at failures_at lines slices all sizes old new old_at new_at keys places)
