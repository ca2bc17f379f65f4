-- The results of queries on entries of several indexes.
use Rattle.std.specs.Prelude.{◌≡◌, ◌<◌, ◌^◌, ◌++◌, ◌∷◌, ℕ, Bool, true, List}
use Rattle.std.specs.Prelude.{All, Contains, length, map, slice_get, slice_set}
use Rattle.std.specs.Prelude.{Option, Some, Result, MatchResult}
use Rattle.std.specs.List.{AllZip}
use Rattle.byte_device.specs.Devices.{FailedIn}
use Rattle.table_checked_pages.specs.Pages.{AreStored}
use Rattle.table_source_frames.specs.SliceTable.{IsSliceTable}
use Rattle.index_format.specs.Entry.{claim_in}
use Rattle.index_lookup.specs.Among.{EntryAt}
use Rattle.archive_core.specs.declared.lookup.Where.{Where}
use Rattle.index_lookup.specs.Told.{HasNoLinesBy}
use Rattle.index_lookup.specs.Views.{IsColumnAt}
use Rattle.index_lookup.specs.declared.answers.EntryAnswers.{EntryAnswers}
use Rattle.index_lookup.specs.declared.fault.AnswerFault.{AnswerFault}
use Rattle.index_lookup.specs.declared.fault.AnswerFault.TheVariants.{Damaged, Device, NoLines, OutOfMemory}

-- a known value for each device
abbrev pub each_known : {D V : Type 0} → (D → V) → List D → List V
each_known known devices = map known devices

-- a device is known to have these bytes
abbrev pub HasText : Option (List ℕ) → List ℕ → Type 0
HasText known text = known ≡ Some text

-- the device of each index has its bytes
abbrev pub HaveTexts : {D : Type 0} → (D → Option (List ℕ)) → List D → List (List ℕ) → Type 0
HaveTexts whole devices texts = AllZip HasText (each_known whole devices) texts

-- the indexes of these entries have their devices
abbrev pub AreThere : {D : Type 0} → List D → List EntryAt → Type 0
AreThere devices xs = All (λ x. x.input < length devices) xs

-- no table of a slice is stored where the entry says
abbrev pub HasNoTable : List ℕ → List ℕ → Type 0
HasNoTable text e = length text < 2 ^ 64 → (slice table : List ℕ) → IsSliceTable slice table
    → AreStored text (claim_in e) table → ⊥

-- the entry with these numbers is among those that answer, and no table is stored where it says
pub record IsDamagedAt (texts : List (List ℕ)) (answering : List EntryAt) (input number : ℕ) : Type 0 where
  pub entry : List ℕ
  pub answers : Contains answering (record { input = input; number = number; entry = entry })
  pub text : List ℕ
  pub text_is : slice_get texts input ≡ Some text
  pub absent : HasNoTable text entry

-- the entry with these numbers is among those that answer, and its table has no lines
pub record IsLinelessAt (texts : List (List ℕ)) (answering : List EntryAt) (input number : ℕ) : Type 0 where
  pub entry : List ℕ
  pub answers : Contains answering (record { input = input; number = number; entry = entry })
  pub text : List ℕ
  pub text_is : slice_get texts input ≡ Some text
  pub lacks : HasNoLinesBy text (claim_in entry)

-- the table of one of the entries that answer is to be read in this index, from this offset
pub record IsAskedAt (answering : List EntryAt) (input offset : ℕ) : Type 0 where
  pub number : ℕ
  pub entry : List ℕ
  pub answers : Contains answering (record { input = input; number = number; entry = entry })
  pub offset_is : offset ≡ (claim_in entry).offset

-- Of the entries that answer, those before the one with these numbers have an answer for each of these addresses, and
-- if lines are asked for they have the frames.
pub record TellBefore (texts : List (List ℕ)) (lines : Bool) (asked : List Where) (answering : List EntryAt)
    (input number : ℕ) : Type 0 where
  pub before : List EntryAt
  pub entry : List ℕ
  pub after : List EntryAt
  pub order : answering ≡ before ++ record { input = input; number = number; entry = entry } ∷ after
  pub columns : List EntryAnswers
  pub told : AllZip (IsColumnAt texts lines asked) before columns

-- the state of the entries before the one of a fault
abbrev pub IsFirstAmong : List (List ℕ) → Bool → List Where → List EntryAt → AnswerFault → Type 0
IsFirstAmong texts lines asked answering (Damaged input number) =
    TellBefore texts lines asked answering input number
IsFirstAmong texts lines asked answering (NoLines input number) =
    TellBefore texts lines asked answering input number
IsFirstAmong texts lines asked answering (Device input offset) = Unit {0}
IsFirstAmong texts lines asked answering OutOfMemory = Unit {0}

-- the state of the texts after a fault
abbrev pub IsUntoldAmong : List (List ℕ) → List EntryAt → AnswerFault → Type 0
IsUntoldAmong texts answering (Damaged input number) = IsDamagedAt texts answering input number
IsUntoldAmong texts answering (NoLines input number) = IsLinelessAt texts answering input number
IsUntoldAmong texts answering (Device input offset) = Unit {0}
IsUntoldAmong texts answering OutOfMemory = Unit {0}

-- the device with this number failed once, and no other did
pub record FailedAt (input : ℕ) (olds news : List ℕ) : Type 0 where
  pub old : ℕ
  pub new : ℕ
  pub old_is : slice_get olds input ≡ Some old
  pub failed : FailedIn old new
  pub others : news ≡ slice_set olds input new

-- the failures of the devices after a fault; no table is refused for its lines unless they are asked for
abbrev pub BlamesAmong : Bool → List EntryAt → List ℕ → List ℕ → AnswerFault → Type 0
BlamesAmong lines answering olds news (Damaged input number) = news ≡ olds
BlamesAmong lines answering olds news (NoLines input number) = (lines ≡ true) × (news ≡ olds)
BlamesAmong lines answering olds news (Device input offset) =
    IsAskedAt answering input offset × FailedAt input olds news
BlamesAmong lines answering olds news OutOfMemory = news ≡ olds

-- The result of a query on these entries, with their lines if these are asked for: the result has the property for the
-- texts that the devices are known to have. Each device keeps its bytes.
pub record AsksAmong {D T : Type 0} (whole : D → Option (List ℕ)) (failures : D → ℕ) (lines : Bool)
    (answering : List EntryAt) (old new : List D) (result : Result T AnswerFault)
    (IsTrue : List (List ℕ) → T → Type 0) : Type 0 where
  pub says : (texts : List (List ℕ)) → HaveTexts whole old texts
      → MatchResult result (IsTrue texts) (IsUntoldAmong texts answering)
  pub keeps : each_known whole new ≡ each_known whole old
  pub counts : MatchResult result (λ _. each_known failures new ≡ each_known failures old)
      (BlamesAmong lines answering (each_known failures old) (each_known failures new))
