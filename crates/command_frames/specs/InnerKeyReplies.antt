-- The answers for addresses under their keys, and where each is stored: definitions for private functions. No public
-- contract uses them.
use Rattle.std.specs.Prelude.{◌≡◌, ◌<◌, ◌⊎◌, ◌&&◌, ◌++◌, ℕ, Bool, true, false}
use Rattle.std.specs.Prelude.{List, [], ◌∷◌, Contains, All, Option, Some}
use Rattle.std.specs.Prelude.{None, Result, Ok, Err, if◌then◌else◌, fold, length, map, slice_get, string_bytes, take}
use Rattle.std.specs.List.{AllZip, filter_map, flat_map}
use Rattle.dwarf_source_frames.specs.Frames.{FrameRecord}
use Rattle.archive_core.specs.Key.{key_bytes}
use Rattle.archive_core.specs.Lookup.{AnswerRecord}
use Rattle.archive_core.specs.declared.keys.SliceKey.{SliceKey}
use Rattle.archive_core.specs.declared.lookup.Where.{Where}
use Rattle.command_queries.specs.Places.{IsPlaceTold}
use Rattle.command_queries.specs.Symbolicate.{asked_of}
use Rattle.command_queries.specs.declared.places.PlaceAnswer.{PlaceAnswer}
use Rattle.text_input_files.specs.declared.frame.Frame.{Frame}
use Rattle.command_common.specs.Inputs.{Reader}
use Rattle.command_common.specs.declared.faults.CommandFault.{CommandFault}
use Rattle.command_common.specs.declared.faults.CommandFault.TheVariants.{Input, Output, OutOfMemory, Report}
use Rattle.command_common.specs.declared.faults.InputName.{InputName}
use Rattle.command_common.specs.declared.faults.InputName.TheVariants.{Index}
use Rattle.command_common.specs.declared.faults.Status.{Status}
use Rattle.command_common.specs.declared.faults.Status.TheVariants.{Done, Partial, SomeRefused as StatusRefused}
use Rattle.command_common.specs.declared.faults.Why.{Why}
use Rattle.command_common.specs.declared.faults.Why.TheVariants as why
use Rattle.index_lookup.specs.Among.{AreTied}
use Rattle.index_lookup.specs.AmongTold.{IsAnswerAmong}
use Rattle.index_lookup.specs.Views.{answer_of, row_at, shown_of}
use Rattle.index_lookup.specs.declared.answers.Answers.{Answers}
use Rattle.index_lookup.specs.declared.fault.AnswerFault.{AnswerFault}
use Rattle.index_lookup.specs.declared.fault.AnswerFault.TheVariants as answer
use Rattle.command_frames.specs.declared.places.AskedKey.{AskedKey}
use Rattle.command_frames.specs.declared.tables.KeyReply.{KeyReply}
use Rattle.command_frames.specs.declared.tables.KeyReply.TheVariants.{Told, Refused}
use Rattle.command_frames.specs.declared.key_answers.KeyAnswers.{KeyAnswers}
use Rattle.command_frames.specs.Asking.{is_stale_entry}
use Rattle.command_frames.specs.InnerAsking.{IsKeyFault, command_fault}
use Rattle.command_frames.specs.Refusals.{IsStaleAt, KeyRefusal, reply_text}

-- ---- under a key

-- the answer for the address with this number
abbrev pub answer_at : Answers → ℕ → AnswerRecord
answer_at answers number = answer_of (map (row_at number) answers.columns.items)

-- the shown frames of that answer
abbrev pub shown_at : Bool → Answers → ℕ → List (List FrameRecord)
shown_at lines answers number = shown_of lines number answers.columns.items

-- the answers are those of the tables under the key for these addresses, for any bytes of the indexes that satisfy
-- `AreTexts`
abbrev pub AreToldOf : (List (List ℕ) → Type 0) → List (List (List ℕ)) → SliceKey → Bool → List Where → Answers → Type 0
AreToldOf AreTexts all key lines places answers =
    (texts : List (List ℕ)) → AreTexts texts → (number : ℕ) (place : Where) → slice_get places number ≡ Some place
    → IsAnswerAmong texts all (key_bytes key) lines place (answer_at answers number) (shown_at lines answers number)

-- the answer and the shown frames are those with this number
abbrev pub IsAnswerAt : Answers → Bool → ℕ → Where → AnswerRecord → List (List FrameRecord) → Type 0
IsAnswerAt answers lines number place record_is frames =
    (record_is ≡ answer_at answers number) × (frames ≡ shown_at lines answers number)

-- the answer and the shown frames are those with the number of this address among these
abbrev pub IsAnswerIn : Answers → Bool → List Where → Where → AnswerRecord → List (List FrameRecord) → Type 0
IsAnswerIn answers lines places place record_is frames =
    (number : ℕ) × (slice_get places number ≡ Some place) × IsAnswerAt answers lines number place record_is frames

-- each address has an answer that satisfies the first relation; or slices are wanted, and the key is refused so that
-- the second holds
abbrev pub IsKeyReply : (Where → AnswerRecord → List (List FrameRecord) → Type 0) → (InputName → Why → Type 0) → Bool
    → List Where → KeyReply → Type 0
IsKeyReply IsSaid IsRefused slices places (Told answers) = AllZip (IsPlaceTold IsSaid) places answers.items
IsKeyReply IsSaid IsRefused slices places (Refused at why) = (slices ≡ true) × IsRefused at why

-- the key is refused for one of its slices, because two are tied
abbrev pub IsKeyStale : {P : Type 0} → List (Reader P) → List (List (List ℕ)) → SliceKey → InputName → Why → Type 0
IsKeyStale archives all key at why = AreTied (key_bytes key) all × IsStaleAt archives all (key_bytes key) at why

-- the key is refused for a fault of its own, at these addresses
abbrev pub IsRefusedAt : {P : Type 0} → (List (List ℕ) → Type 0) → List (Reader P) → List (List (List ℕ)) → Bool
    → SliceKey → List Where → InputName → Why → Type 0
IsRefusedAt AreTexts archives all lines key places at why =
    IsKeyFault AreTexts all lines (key_bytes key) places at why ⊎ IsKeyStale archives all key at why

-- the result after a fault of asking tables
abbrev pub reply_to_fault : Bool → AnswerFault → Result (Option KeyReply) CommandFault
reply_to_fault false fault = Err (command_fault fault)
reply_to_fault true (answer.Damaged input entry) = Ok (Some (Refused (Index input) (why.Damaged entry)))
reply_to_fault true (answer.NoLines input entry) = Ok (Some (Refused (Index input) (why.NoLines entry)))
reply_to_fault true (answer.Device input offset) = Err (command_fault (answer.Device input offset))
reply_to_fault true answer.OutOfMemory = Err (command_fault answer.OutOfMemory)

-- the result after a fault of reading slices
abbrev pub reply_to_unread : Bool → CommandFault → Result KeyReply CommandFault
reply_to_unread slices (Input at why) =
    if slices && is_stale_entry why then Ok (Refused at why) else Err (Input at why)
reply_to_unread slices (Output n) = Err (Output n)
reply_to_unread slices (Report n) = Err (Report n)
reply_to_unread slices OutOfMemory = Err OutOfMemory

-- ---- under several keys

-- the keys that were asked for
abbrev pub asked_in : List KeyAnswers → List AskedKey
asked_in told = map (λ one. one.asked.now) told

-- the same for the reply under a key
abbrev pub IsToldUnder : (SliceKey → Where → AnswerRecord → List (List FrameRecord) → Type 0)
    → (SliceKey → List Where → InputName → Why → Type 0) → Bool → KeyAnswers → Type 0
IsToldUnder IsSaid IsRefused slices one =
    IsKeyReply (IsSaid one.asked.now.key) (IsRefused one.asked.now.key one.asked.now.places.items) slices
    one.asked.now.places.items one.told

-- Each of these keys has a reply that satisfies the relations.
pub record AreTold (IsSaid : SliceKey → Where → AnswerRecord → List (List FrameRecord) → Type 0)
    (IsRefused : SliceKey → List Where → InputName → Why → Type 0) (slices : Bool) (asked : List AskedKey)
    (told : List KeyAnswers) : Type 0 where
  pub asked_is : asked_in told ≡ asked
  pub are_true : All (IsToldUnder IsSaid IsRefused slices) told

-- The key with this number is refused at its addresses. The keys before it have replies that satisfy the relations.
pub record IsRefusedAfter (IsSaid : SliceKey → Where → AnswerRecord → List (List FrameRecord) → Type 0)
    (IsRefused : SliceKey → List Where → InputName → Why → Type 0) (slices : Bool) (asked : List AskedKey)
    (Refuses : List (List ℕ) → List Where → Type 0) : Type 0 where
  pub number : ℕ
  pub one : AskedKey
  pub one_is : slice_get asked number ≡ Some one
  pub told : List KeyAnswers
  pub before : AreTold IsSaid IsRefused slices (take number asked) told
  pub refused : Refuses (key_bytes one.key ∷ []) one.places.items

-- no key is refused
abbrev pub NoneRefused : SliceKey → List Where → InputName → Why → Type 0
NoneRefused key places at why = ⊥

-- Some of these keys are left. Those before them have answers that satisfy `IsSaid`, and none is refused.
pub record AreToldSoFar (IsSaid : SliceKey → Where → AnswerRecord → List (List FrameRecord) → Type 0)
    (asked left : List AskedKey) (told : List KeyAnswers) : Type 0 where
  pub asked_is : asked_in told ++ left ≡ asked
  pub are_true : All (IsToldUnder IsSaid NoneRefused false) told

-- there is an answer for each address, if the key is not refused
abbrev pub HaveEach : KeyReply → List Where → Type 0
HaveEach (Told answers) places = length answers.items ≡ length places
HaveEach (Refused at why) places = Unit {0}

-- the same holds under each key
abbrev pub HaveEachTold : List KeyAnswers → Type 0
HaveEachTold told = All (λ one. HaveEach one.told one.asked.now.places.items) told

-- ---- printed

-- The answer for this address under the key is the one with this number in the reply of that key.
pub record StandsAt (told : List KeyAnswers) (key : SliceKey) (place : Where) (one : KeyAnswers) (number : ℕ)
    : Type 0 where
  pub is_one : Contains told one
  pub key_is : one.asked.now.key ≡ key
  pub place_is : slice_get one.asked.now.places.items number ≡ Some place

-- there is an answer with this number, if the key is not refused
abbrev pub HasNumber : KeyReply → ℕ → Type 0
HasNumber (Told answers) number = number < length answers.items
HasNumber (Refused at why) number = Unit {0}

-- the lines of a frame, and the status of a command that prints only these
pub record Printed : Type 0 where
  pub status : Status
  pub text : List ℕ

-- the answer with this number is printed, or a mark if the key is refused
abbrev pub IsPrintedOf : KeyReply → ℕ → ℕ → Printed → Type 0
IsPrintedOf (Told answers) address number printed = (one : PlaceAnswer) × (slice_get answers.items number ≡ Some one)
    × (printed.status ≡ one.status) × (printed.text ≡ string_bytes one.text)
IsPrintedOf (Refused at why) address number printed =
    (printed.status ≡ StatusRefused) × (printed.text ≡ reply_text address None)

-- the joint status of two frames
abbrev pub status_with : Status → Status → Status
status_with Done other = other
status_with Partial Done = Partial
status_with Partial Partial = Partial
status_with Partial StatusRefused = StatusRefused
status_with StatusRefused other = StatusRefused

-- The reply with this number was printed.
pub record IsPrinted (told : KeyReply) (address number : ℕ) (before after : Status) (old new : List ℕ) : Type 0 where
  pub printed : Printed
  pub printed_is : IsPrintedOf told address number printed
  pub status_is : after ≡ status_with before printed.status
  pub text_is : new ≡ old ++ printed.text

-- This is printed for the address, from the reply for this `Where` under the key.
pub record IsToldIn (told : List KeyAnswers) (key : SliceKey) (place : Where) (address : ℕ) (printed : Printed)
    : Type 0 where
  pub one : KeyAnswers
  pub number : ℕ
  pub stands : StandsAt told key place one number
  pub printed_is : IsPrintedOf one.told address number printed

-- this is printed for the frame
abbrev pub IsFrameTold : List KeyAnswers → Frame → Printed → Type 0
IsFrameTold told frame printed =
    IsToldIn told frame.key (asked_of frame.load frame.address) frame.address printed

-- the status of a command that prints these
abbrev pub printed_status : List Printed → Status
printed_status all = fold (λ status one. status_with status one.status) Done all

-- this is printed for the frames, in order
pub record ShowsFrames (told : List KeyAnswers) (frames : List Frame) (status : Status) (text : List ℕ) : Type 0 where
  pub printed : List Printed
  pub each : AllZip (IsFrameTold told) frames printed
  pub status_is : status ≡ printed_status printed
  pub text_is : text ≡ flat_map (λ one. one.text) printed

-- the refusal of a key, if it is refused
abbrev pub refusal_in : SliceKey → KeyReply → Option KeyRefusal
refusal_in key (Told answers) = None
refusal_in key (Refused at why) = Some (record { key = key; at = at; why = why })

-- the refusals of keys, in order
abbrev pub refusals_in : List KeyAnswers → List KeyRefusal
refusals_in told = filter_map (λ one. refusal_in one.asked.now.key one.told) told
