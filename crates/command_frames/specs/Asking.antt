-- The answers of indexes for addresses: under each key by the tables of the slices that answer, or by these slices.
use Rattle.std.specs.Prelude.{◌≡◌, ◌+◌, ◌⊎◌, ◌&&◌, ◌++◌, ℕ, List, [], ◌∷◌, All, Bool, true, false, Some, Contains}
use Rattle.std.specs.Prelude.{drop, length, map, slice_get, take}
use Rattle.std.specs.Cmp.Lexicographic.{slice_cmp}
use Rattle.std.specs.List.{AllZip}
use Rattle.std.specs.List.Sorted.{IsStrictlySortedBy}
use Rattle.std.specs.Option.{is_some}
use Rattle.std.specs.Ordering.{nat_cmp}
use Rattle.std.specs.declared.cmp.Ordering.TheVariants.{Less}
use Rattle.byte_device.specs.Devices.{FailedIn}
use Rattle.archive_core.specs.Content.{Operations}
use Rattle.archive_core.specs.Key.{key_bytes}
use Rattle.archive_core.specs.Lookup.{AnswerRecord}
use Rattle.archive_core.specs.declared.keys.SliceKey.{SliceKey}
use Rattle.archive_core.specs.declared.lookup.Where.{Where}
use Rattle.dwarf_source_frames.specs.Frames.{FrameRecord}
use Rattle.command_queries.specs.Frames.{frame_keys}
use Rattle.command_queries.specs.Slices.{AreUuidsOf}
use Rattle.command_queries.specs.SourceFrames.{IsAnswerWithFrames}
use Rattle.command_queries.specs.Symbolicate.{asked_of}
use Rattle.text_input_files.specs.declared.frame.Frame.{Frame}
use Rattle.index_format.specs.declared.index_fault.IndexFaultKind.TheVariants.{Device}
use Rattle.index_lookup.specs.Among.{AreAnsweringAmong, AreTied, EntryAt}
use Rattle.index_lookup.specs.AmongAsked.{IsAskedAt, IsDamagedAt, IsLinelessAt, TellBefore}
use Rattle.index_lookup.specs.AmongTold.{IsAnswerAmong}
use Rattle.command_common.specs.Inputs.{Reader, EachUnfailed, IsGiven}
use Rattle.command_common.specs.declared.faults.InputName.{InputName}
use Rattle.command_common.specs.declared.faults.InputName.TheVariants.{Index}
use Rattle.command_common.specs.declared.faults.Why.{Why}
use Rattle.command_common.specs.declared.faults.Why.TheVariants.{CannotOpen, Device as CannotRead, Record, Take, Script}
use Rattle.command_common.specs.declared.faults.Why.TheVariants.{BadFrame, OldArchive, TooLong, Index as IndexFaulty}
use Rattle.command_common.specs.declared.faults.Why.TheVariants.{Stale, Damaged, NoLines, NoArchive, NoIndex}
use Rattle.command_given_indexes.specs.Several.{AreRefusedLater}
use Rattle.command_given_indexes.specs.Together.{AreReadWith, HoldNamed, IsFirstRefusedByIndex}

-- ---- by tables

-- the indexes have these bytes, in order
abbrev pub AreGiven : {I : Type 0} → List (Reader I) → List (List ℕ) → Type 0
AreGiven indexes texts = AllZip IsGiven indexes texts

-- The answer and the shown frames are those of the tables of the entries under the key, for any bytes of the indexes
-- that satisfy `AreTexts`. No frames are shown if no lines are wanted.
pub record IsAnsweredByTables (AreTexts : List (List ℕ) → Type 0) (all : List (List (List ℕ))) (lines : Bool)
    (key : SliceKey) (asked : Where) (answer : AnswerRecord) (frames : List (List FrameRecord)) : Type 0 where
  pub answer_is : (texts : List (List ℕ)) → AreTexts texts
      → IsAnswerAmong texts all (key_bytes key) lines asked answer frames
  pub none_shown : lines ≡ false → frames ≡ []

-- ---- by slices

-- Two slices of one length under the key are in two archives, and no entry decides which comes first. So the slices
-- that the indexes name under this key are read; the answer and the shown frames are theirs.
pub record IsAnsweredBySlices {P : Type 0} (archives : List (Reader P)) (all : List (List (List ℕ))) (lines : Bool)
    (key : SliceKey) (asked : Where) (answer : AnswerRecord) (frames : List (List FrameRecord)) : Type 0 where
  pub tied : AreTied (key_bytes key) all
  pub content : Operations
  pub held : HoldNamed (key_bytes key ∷ []) archives all content
  pub answered : IsAnswerWithFrames content key lines asked answer frames

-- the answer is that of the tables, or of the slices if two are tied
abbrev pub IsAnsweredAt : {P : Type 0} → (List (List ℕ) → Type 0) → List (Reader P) → List (List (List ℕ)) → Bool
    → SliceKey → Where → AnswerRecord → List (List FrameRecord) → Type 0
IsAnsweredAt AreTexts archives all lines key asked answer frames =
    IsAnsweredByTables AreTexts all lines key asked answer frames
    ⊎ IsAnsweredBySlices archives all lines key asked answer frames

-- ---- before a refusal

-- the keys of frames
abbrev pub keys_of : List Frame → List (List ℕ)
keys_of frames = map (λ frame. key_bytes frame.key) frames

-- Under the key with these bytes the address has an answer.
pub record HasAnswer {P : Type 0} (AreTexts : List (List ℕ) → Type 0) (archives : List (Reader P))
    (all : List (List (List ℕ))) (lines : Bool) (bytes : List ℕ) (asked : Where) : Type 0 where
  pub key : SliceKey
  pub key_is : key_bytes key ≡ bytes
  pub answer : AnswerRecord
  pub frames : List (List FrameRecord)
  pub answered : IsAnsweredAt AreTexts archives all lines key asked answer frames

-- each of these frames whose key has lower bytes than `key` has an answer
abbrev pub AreAnsweredBelow : {P : Type 0} → (List (List ℕ) → Type 0) → List (Reader P) → List (List (List ℕ)) → Bool
    → List Frame → List ℕ → Type 0
AreAnsweredBelow AreTexts archives all lines frames bytes =
    (frame : Frame) → Contains frames frame → slice_cmp nat_cmp (key_bytes frame.key) bytes ≡ Less
    → HasAnswer AreTexts archives all lines (key_bytes frame.key) (asked_of frame.load frame.address)

-- The frames of the key with these bytes have these addresses; others may be among them.
pub record HavePlaces (frames : List Frame) (bytes : List ℕ) (places : List Where) : Type 0 where
  pub whole : (frame : Frame) → Contains frames frame → key_bytes frame.key ≡ bytes
      → Contains places (asked_of frame.load frame.address)

-- ---- refused

-- the device of the index with this number failed once, and no other device failed
pub record FailsAlone {I : Type 0} (indexes : List (Reader I)) (input : ℕ) : Type 0 where
  pub index : Reader I
  pub index_is : slice_get indexes input ≡ Some index
  pub failed : FailedIn (index.failures index.old) (index.failures index.new)
  pub before : EachUnfailed (take input indexes)
  pub after : EachUnfailed (drop (input + 1) indexes)

-- The table of one of the entries that answer was changed; those before it answer these addresses, if all bytes are
-- known. No device failed.
pub record IsChanged {I : Type 0} (lines : Bool) (indexes : List (Reader I)) (places : List Where)
    (answering : List EntryAt) (at : InputName) (why : Why) : Type 0 where
  pub input : ℕ
  pub number : ℕ
  pub at_is : at ≡ Index input
  pub why_is : why ≡ Damaged number
  pub changed : (texts : List (List ℕ)) → AreGiven indexes texts → IsDamagedAt texts answering input number
  pub first : (texts : List (List ℕ)) → AreGiven indexes texts → TellBefore texts lines places answering input number
  pub unfailed : EachUnfailed indexes

-- The table of one of the entries that answer has no lines, which are wanted; those before it answer these addresses
-- with their frames, if all bytes are known. No device failed.
pub record IsLineless {I : Type 0} (lines : Bool) (indexes : List (Reader I)) (places : List Where)
    (answering : List EntryAt) (at : InputName) (why : Why) : Type 0 where
  pub input : ℕ
  pub number : ℕ
  pub at_is : at ≡ Index input
  pub why_is : why ≡ NoLines number
  pub wanted : lines ≡ true
  pub lacks : (texts : List (List ℕ)) → AreGiven indexes texts → IsLinelessAt texts answering input number
  pub first : (texts : List (List ℕ)) → AreGiven indexes texts → TellBefore texts lines places answering input number
  pub unfailed : EachUnfailed indexes

-- The device of an index failed while the table of one of its entries that answer was read.
pub record IsUnreadTable {I : Type 0} (indexes : List (Reader I)) (answering : List EntryAt) (at : InputName)
    (why : Why) : Type 0 where
  pub input : ℕ
  pub offset : ℕ
  pub at_is : at ≡ Index input
  pub why_is : why ≡ IndexFaulty (record { kind = Device; offset = offset })
  pub asked : IsAskedAt answering input offset
  pub failed : FailsAlone indexes input

-- A table of the entries that answer is refused. If slices are wanted, only a device is a reason: a changed table, or
-- one without lines, refuses its key, and the other keys are answered.
abbrev pub IsTableRefused : {I : Type 0} → Bool → Bool → List (Reader I) → List Where → List EntryAt → InputName → Why
    → Type 0
IsTableRefused lines false indexes places answering at why =
    IsChanged lines indexes places answering at why
    ⊎ (IsLineless lines indexes places answering at why ⊎ IsUnreadTable indexes answering at why)
IsTableRefused lines true indexes places answering at why = IsUnreadTable indexes answering at why

-- Under one of these keys a table is refused at these addresses.
pub record IsUntoldUnder {I : Type 0} (lines slices : Bool) (keys : List (List ℕ)) (indexes : List (Reader I))
    (all : List (List (List ℕ))) (at : InputName) (why : Why) : Type 0 where
  pub key : List ℕ
  pub key_is : Contains keys key
  pub places : List Where
  pub answering : List EntryAt
  pub are : AreAnsweringAmong key all answering
  pub untold : IsTableRefused lines slices indexes places answering at why

-- these are the UUIDs of these keys, each once, in the order of their bytes
pub record AreAskedUuids (keys : List SliceKey) (uuids : List (List ℕ)) : Type 0 where
  pub are : AreUuidsOf keys uuids
  pub ascending : IsStrictlySortedBy (slice_cmp nat_cmp) uuids
  pub long : All (λ uuid. length uuid ≡ 16) uuids

-- The indexes were read, and then under the key of one of these frames a table is refused, at the addresses of its
-- frames. Unless slices are wanted, the frames of lower keys have answers.
pub record AreUntold {I P : Type 0} (lines slices : Bool) (uuids : List (List ℕ)) (frames : List Frame)
    (indexes : List (Reader I)) (archives : List (Reader P)) (at : InputName) (why : Why) : Type 0 where
  pub all : List (List (List ℕ))
  pub read : AreReadWith uuids indexes archives all
  pub unfailed : EachUnfailed archives
  pub untold : IsUntoldUnder lines slices (keys_of frames) indexes all at why
  pub of_frames : HavePlaces frames untold.key untold.places
  pub before : slices ≡ false → AreAnsweredBelow (AreGiven indexes) archives all lines frames untold.key

-- the index is stale at an entry: its archive has no such record
abbrev pub is_stale_entry : Why → Bool
is_stale_entry CannotOpen = false
is_stale_entry CannotRead = false
is_stale_entry (Record _) = false
is_stale_entry (Take _) = false
is_stale_entry (Script _ _ _) = false
is_stale_entry (BadFrame _ _) = false
is_stale_entry OldArchive = false
is_stale_entry TooLong = false
is_stale_entry (IndexFaulty _) = false
is_stale_entry (Stale entry) = is_some entry
is_stale_entry (Damaged _) = false
is_stale_entry (NoLines _) = false
is_stale_entry NoArchive = false
is_stale_entry NoIndex = false

-- Two slices are tied under the key of one of these frames, and one of the archives, which are read for them, is
-- refused. Unless slices are wanted, the frames of lower keys have answers. If they are wanted, a stale entry is not a
-- reason: it refuses its key, and the other keys are answered.
pub record AreUnread {I P : Type 0} (lines slices : Bool) (uuids : List (List ℕ)) (frames : List Frame)
    (indexes : List (Reader I)) (archives : List (Reader P)) (at : InputName) (why : Why) : Type 0 where
  pub key : List ℕ
  pub key_is : Contains (keys_of frames) key
  pub refused : AreRefusedLater uuids (key ∷ []) indexes archives at why
  pub tied : AreTied key refused.all
  pub before : slices ≡ false → AreAnsweredBelow (AreGiven indexes) archives refused.all lines frames key
  pub of_all : (slices && is_stale_entry why) ≡ false

-- The refusal of commands that answer these frames, and tell of the slices under some keys; the entries under the UUIDs
-- of these are read. It is of the first index that is refused, or length of its archive; after that of an archive whose
-- slices are read because two are tied, or of a table, and unless slices are wanted the first one in the order of the
-- keys' bytes.
abbrev pub AreRefusedAsking : {I P : Type 0} → Bool → Bool → List Frame → List (Reader I) → List (Reader P)
    → InputName → Why → Type 0
AreRefusedAsking lines slices frames indexes archives at why =
    (keys : List SliceKey) × (uuids : List (List ℕ)) × AreAskedUuids (keys ++ frame_keys frames) uuids
    × (IsFirstRefusedByIndex uuids indexes archives at why
    ⊎ AreUnread lines slices uuids frames indexes archives at why
    ⊎ AreUntold lines slices uuids frames indexes archives at why)
