-- What the indexes of contents tell is what the join of these contents tells.
use Rattle.std.proofs.Common.{◌≡◌, ◌⊎◌, ℕ, zero, suc, ◌<◌, ◌≤◌, Bool, true, false, List, [], ◌∷◌, ◌++◌, length, get_or}
use Rattle.std.proofs.Common.{Contains, Option, Some, None, refl, sym, ap, ◌∙◌, subst, inl, inr, arith}
use Rattle.std.specs.Prelude.{slice_get}
use Rattle.std.specs.List.{AllZip}
use Rattle.std.proofs.lemmas.List.{append-nil}
use Rattle.std.proofs.lemmas.List.Elements.{All-contains, Contains-append_left, Contains-append_right}
use Rattle.std.proofs.lemmas.Option.{slice_get_within}
use Rattle.archive_core.specs.Content.{Operations}
use Rattle.archive_records.specs.Text.{written}
use Rattle.archive_core.specs.Key.{IsKey, key_bytes}
use Rattle.archive_core.specs.Lookup.{AnswerRecord, answer_view}
use Rattle.archive_core.specs.declared.keys.SliceKey.{SliceKey}
use Rattle.archive_core.specs.declared.lookup.Where.{Where}
use Rattle.archive_core.proofs.Compare.{length_key_bytes}
use Rattle.archive_core.proofs.Entries.{admission_entry}
use Rattle.archive_core.proofs.Members.{in_cons, in_front, in_map, in_rest, to_map}
use Rattle.dwarf_source_frames.specs.Frames.{FrameRecord}
use Rattle.command_queries.specs.Frames.{IsFrameAnswered, IsFrameSaid, TellFrames, TellsFrames, TellsFramesWith, frame_keys, frames_under_key}
use Rattle.command_queries.specs.Slices.{IsAnsweringRow, WithSlices}
use Rattle.command_queries.specs.SourceFrames.{IsAnswerWithFrames}
use Rattle.command_queries.specs.Symbolicate.{Answered, TellsAddressesWith, asked_of}
use Rattle.command_queries.proofs.Answered.{addresses_told_with, under_key}
use Rattle.command_queries.proofs.AnswersWithFrames.{sourced_as}
use Rattle.command_common.proofs.Alike.{answers_alike}
use Rattle.command_common.specs.Inputs.{IsDeviceFault, IsGiven, Reader}
use Rattle.command_common.specs.declared.faults.InputName.{InputName}
use Rattle.command_common.specs.declared.faults.InputName.TheVariants.{Index}
use Rattle.command_common.specs.declared.faults.Status.{Status}
use Rattle.command_common.specs.declared.faults.Why.{Why}
use Rattle.command_common.specs.declared.faults.Why.TheVariants.{NoLines}
use Rattle.text_input_files.specs.declared.frame.Frame.{Frame}
use Rattle.index_format.specs.Text.{IsIndexText, placed_in}
use Rattle.index_format.specs.Tree.{AreReadUnder, is_under_one}
use Rattle.laws_index.specs.Indexes.{AreIndexes, AreTiedSlices, AreUnderOne, DigestsDiffer, IsIndexFile, all_joined}
use Rattle.laws_index.proofs.Joined.{joined_alone, tells_alone}
use Rattle.laws_index.proofs.IndexesAreRight as told
use Rattle.index_lookup.specs.Among.{AreAnsweringAmong, AreTied, EntryAt}
use Rattle.index_lookup.specs.AmongAsked.{IsLinelessAt}
use Rattle.text_reports.specs.Slices.{TellsSlices}
use Rattle.command_given_indexes.specs.Prefixes.{IsUnnamedUnder}
use Rattle.command_given_indexes.specs.Several.{HoldTogether}
use Rattle.command_given_indexes.specs.Together.{AreLater, AreReadWith, IsReadWith}
use Rattle.command_frames.specs.Asking.{AreAskedUuids, AreGiven, AreRefusedAsking, AreUntold, IsAnsweredAt, IsAnsweredBySlices, IsAnsweredByTables}
use Rattle.command_frames.specs.Asking.{IsTableRefused, IsUnreadTable, is_stale_entry, keys_of}
use Rattle.command_frames.specs.Frames.{AreToldAt, IsAnsweredOrRefused, IsFrameReplied}
use Rattle.command_frames.specs.Frames.{TellFramesBesides, TellFramesWith, symbolicate_at}
use Rattle.command_frames.specs.Refusals.{IsKeyRefused, IsRefusedBySlice, IsRefusedByTable, KeyRefusal, Reply, refusal_lines}
use Rattle.command_frames.specs.Slices.{IsAnsweringEntryRow}
use Rattle.command_frames.proofs.Refused.{answers_alone}
use Rattle.laws_index.specs.Contents.{AreIndexed, AreIndexesGiven, AreOwnIndexes, IsForLines, IsIndexGiven, IsIndexed, IsOwnIndex}
use Rattle.laws_index.specs.Refusing.{AreOwnTexts, IsRefusedFor, IsRefusedForLines}
use Rattle.laws_index.specs.Refusing.{IsRefusedForSlice, TellsAddressesOrBesides, TellsFramesBesides, TellsFramesOrBesides}
use Rattle.laws_index.proofs.AnsweringRows.{lines_told}
use Rattle.laws_index.proofs.ByIndex.{held_alike}
use Rattle.laws_index.proofs.Accepted.{IsOwnRead, first_by_device, first_third, for_first, held_part}
use Rattle.laws_index.proofs.Accepted.{later_by_device, none_unnamed, of_given, own_read, three_at, with_fourth}
use Rattle.laws_index.proofs.PartRows.{lines_whole}
use Rattle.laws_index.proofs.Parts.{AreParts, answering_whole, key_under, parts_of, tied_whole, told_whole}

-- ---- the texts of indexes

-- the bytes of the indexes, each the index of one of these contents
pub record AreTextsOf {I : Type 0} (inputs : List (Reader I)) (os : List Operations) : Type 0 where
  pub texts : List (List ℕ)
  pub given : AreGiven inputs texts
  pub files : AllZip IsIndexFile os texts

pub texts_of : {I : Type 0} (inputs : List (Reader I)) (os : List Operations) → AreIndexesGiven inputs os → AreTextsOf inputs os
texts_of [] [] are = record { texts = []; given = tt; files = tt }
texts_of (input ∷ inputs) (o ∷ os) (first, rest) =
    let more = texts_of inputs os rest in
    record { texts = first.0 ∷ more.texts; given = (first.1, more.given); files = (first.2, more.files) }
texts_of inputs os are = absurd are

module _ {I P : Type 0} (uuids : List (List ℕ)) (inputs : List (Reader I)) (archives : List (Reader P)) (all : List (List (List ℕ)))
    (read : AreReadWith uuids inputs archives all) where
  pub parts_are : (os : List Operations) (texts : List (List ℕ)) → AreGiven inputs texts → AllZip IsIndexFile os texts → AreParts uuids os texts all
  parts_are os texts given files =
      let IsText : List ℕ → Reader P → List (List ℕ) → Type 0 = λ t a es. AreReadUnder uuids t es in
      let three = for_first (IsReadWith uuids) IsGiven IsText inputs archives all texts
      (λ x y z w is known. (held_part x uuids w z is.size known is.index_is).read) read given in
      parts_of uuids os texts all files (first_third IsText (λ t es. AreReadUnder uuids t es) texts archives all (λ x y z is. is) three)

-- ---- keys that are asked

short_key : (key : SliceKey) → IsKey key → length (key_bytes key) ≤ 24
short_key key is_key = omega (arith, length_key_bytes key is_key.uuid)

-- ---- what tables and slices tell

module _ {I P : Type 0} (uuids : List (List ℕ)) (inputs : List (Reader I)) (archives : List (Reader P)) (os : List Operations)
    (all : List (List (List ℕ))) (read : AreReadWith uuids inputs archives all) where
  -- the archives, as they are
  itself_later : {Q : Type 0} (ones : List (Reader Q)) → AreLater ones ones
  itself_later [] = tt
  itself_later (one ∷ ones) = (
    record { left_is = refl; failures_is = refl; new_is = refl; kept = (refl, refl) },
    itself_later ones,
  )

  pub said_by_tables : (its : AreTextsOf inputs os) → DigestsDiffer os → (lines : Bool) (key : SliceKey) (asked : Where)
      (answer : AnswerRecord) (frames : List (List FrameRecord)) → IsKey key → AreUnderOne uuids (key_bytes key)
      → IsAnsweredByTables (AreGiven inputs) all lines key asked answer frames
      → IsAnswerWithFrames (all_joined os) key lines asked answer frames
  said_by_tables its tell lines key asked answer frames is_key under is =
      let p = parts_are uuids inputs archives all read os its.texts its.given its.files in
      told.right os its.texts p.whole p.indexes key is_key lines asked answer frames tell
      (told_whole uuids (key_bytes key) (short_key key is_key) under p.whole all p.parts its.texts lines asked answer frames
      (is.answer_is its.texts its.given))

  pub said_by_slices : AreIndexed inputs archives os → (lines : Bool) (key : SliceKey) (asked : Where)
      (answer : AnswerRecord) (frames : List (List FrameRecord)) → length (key_bytes key) ≤ 24 → AreUnderOne uuids (key_bytes key)
      → IsAnsweredBySlices archives all lines key asked answer frames
      → IsAnswerWithFrames (all_joined os) key lines asked answer frames
  said_by_slices are lines key asked answer frames short under is =
      let held : HoldTogether uuids (key_bytes key ∷ []) inputs archives is.content =
      record { all = all; read = read; later = archives; are_later = itself_later archives; named = is.held } in
      sourced_as is.content (all_joined os) key lines asked answer frames
      (answers_alike is.content (all_joined os) key (held_alike uuids (key_bytes key ∷ []) inputs archives os is.content
      ((short, under), tt) are held (key_bytes key) (0, omega arith, refl))) is.answered

-- ---- what is refused

-- what is true of two lists place by place is true at a place
zip_get : {X Y : Type 0} (R : X → Y → Type 0) (xs : List X) (ys : List Y) (n : ℕ) (x : X) (y : Y) → AllZip R xs ys
    → slice_get xs n ≡ Some x → slice_get ys n ≡ Some y → R x y
zip_get R [] ys n x y all at_x at_y = absurd (cc at_x)
zip_get R (a ∷ xs) [] n x y all at_x at_y = absurd all
zip_get {X} {Y} R (a ∷ xs) (b ∷ ys) zero x y all at_x at_y =
    let is_x : a ≡ x = cc at_x in
    let is_y : b ≡ y = cc at_y in
    subst (λ (z : X). R z y) is_x (subst (λ (z : Y). R a z) is_y all.0)
zip_get R (a ∷ xs) (b ∷ ys) (suc n) x y all at_x at_y = zip_get R xs ys n x y all.1 at_x at_y

-- a table that has no lines is that of a slice that has none, at whose entry the index is refused
lacks_lines : (os : List Operations) (texts : List (List ℕ)) (all : List (List (List ℕ))) → AreIndexes os texts all → (lines : Bool)
    (key : List ℕ) (keys : List (List ℕ)) → Contains keys key → (at : InputName) (why : Why) (answering : List EntryAt) (input number : ℕ)
    → AreAnsweringAmong key all answering → lines ≡ true → at ≡ Index input → why ≡ NoLines number → IsLinelessAt texts answering input number
    → IsForLines lines os keys at why
lacks_lines os texts all indexes lines key keys has at why answering input number are wanted at_is why_is lacks =
    let l = told.lineless_of os texts all indexes key answering input number are lacks in
    let file = l.of.of.file in
    record {
      wanted = wanted;
      input = input;
      number = number;
      at_is = at_is;
      why_is = why_is;
      key = key;
      key_is = has;
      slice = l.slice;
      answers = l.answers;
      lacks = l.lacks;
      o = l.of.of.o;
      there = file.content_at;
      is_number = record {
        text = l.of.of.text;
        file = zip_get IsIndexFile os texts input l.of.of.o l.of.of.text indexes.files file.content_at file.text_at;
        entries = l.of.of.entries;
        read = zip_get IsIndexText texts all input l.of.of.text l.of.of.entries indexes.read file.text_at file.index_at;
        e = lacks.entry;
        entry_at = l.of.of.entry_at;
        entry_is = l.of.is.prefix ∙ sym (admission_entry l.slice l.of.is.valid);
      };
    }

pub own_given : {I P : Type 0} (inputs : List (Reader I)) (archives : List (Reader P)) (os : List Operations)
    → AreOwnIndexes inputs archives os → AreIndexesGiven inputs os
own_given inputs archives os are = first_third IsOwnIndex IsIndexGiven inputs archives os (λ x y z is. is.0) are

-- indexes of contents whose texts the archives are
are_own : {I P : Type 0} (inputs : List (Reader I)) (archives : List (Reader P)) (os : List Operations)
    → AreIndexesGiven inputs os → AreOwnTexts archives os → AreOwnIndexes inputs archives os
are_own [] [] [] given own = tt
are_own (input ∷ inputs) (archive ∷ archives) (o ∷ os) given own = ((given.0, own.0), are_own inputs archives os given.1 own.1)
are_own [] (archive ∷ archives) [] given own = absurd own
are_own [] archives (o ∷ os) given own = absurd given
are_own (input ∷ inputs) archives [] given own = absurd given
are_own (input ∷ inputs) [] (o ∷ os) given own = absurd own

-- a key that was asked: the entries under it were read
pub record IsAskedKey (uuids : List (List ℕ)) (bytes : List ℕ) : Type 0 where
  pub short : length bytes ≤ 24
  pub some : 0 < length bytes
  pub under : AreUnderOne uuids bytes

module _ {I P : Type 0} (uuids : List (List ℕ)) (inputs : List (Reader I)) (archives : List (Reader P)) (os : List Operations) (lines : Bool)
    (all : List (List (List ℕ))) (read : AreReadWith uuids inputs archives all) where
  -- a table that refuses its key by right indexes does so for lines
  for_lines : AreTextsOf inputs os → (frames : List Frame) (refusal : KeyRefusal) → IsAskedKey uuids (key_bytes refusal.key)
      → IsRefusedByTable lines frames inputs all refusal → IsRefusedForLines lines os refusal
  for_lines its frames refusal is_asked r =
      let p = parts_are uuids inputs archives all read os its.texts its.given its.files in
      let are = answering_whole uuids (key_bytes refusal.key) is_asked.short is_asked.under p.whole all p.parts r.answering r.are in
      elim r.untold [
        | inl changed ↦ absurd (told.none_damaged os its.texts p.whole p.indexes (key_bytes refusal.key) r.answering changed.input
            changed.number are (changed.changed its.texts its.given))
        | inr lacking ↦ lacks_lines os its.texts p.whole p.indexes lines (key_bytes refusal.key) (key_bytes refusal.key ∷ []) (0, omega arith, refl)
            refusal.at refusal.why r.answering lacking.input lacking.number are lacking.wanted lacking.at_is lacking.why_is
            (lacking.lacks its.texts its.given)
      ]

  -- no slice of the texts of the contents refuses its key
  none_stale : AreOwnIndexes inputs archives os → (refusal : KeyRefusal) → 0 < length (key_bytes refusal.key)
      → IsRefusedBySlice archives all refusal → ⊥
  none_stale are refusal some r =
      let own = with_fourth IsOwnIndex (IsReadWith uuids) (IsOwnRead uuids) inputs archives os all
      (λ x y z w is read. own_read uuids x y z w is read) are read in
      let s = r.stale in
      let found = three_at (IsOwnRead uuids) archives all os s.number s.archive s.entries own s.archive_is s.entries_are in
      none_unnamed found.0 found.1.text found.1.file (is_under_one uuids) s.entries found.1.part (key_bytes refusal.key ∷ []) (some, tt) s.entry
      (of_given s.archive (written found.0) (λ t. IsUnnamedUnder (key_bytes refusal.key ∷ []) (placed_in s.entries) t s.entry) found.1.known s.stale)

  pub own_key : AreOwnIndexes inputs archives os → (frames : List Frame) (refusal : KeyRefusal) → IsAskedKey uuids (key_bytes refusal.key)
      → IsKeyRefused lines frames inputs archives all refusal → IsRefusedForLines lines os refusal
  own_key are frames refusal is_asked (inl table) =
      for_lines (texts_of inputs os (own_given inputs archives os are)) frames refusal is_asked table
  own_key are frames refusal is_asked (inr slice) = absurd (none_stale are refusal is_asked.some slice)

  key_for : (given : AreIndexesGiven inputs os) (frames : List Frame) (refusal : KeyRefusal) (key : SliceKey) → IsKey key
      → key_bytes refusal.key ≡ key_bytes key → IsAskedKey uuids (key_bytes refusal.key)
      → IsKeyRefused lines frames inputs archives all refusal → IsRefusedFor lines archives os refusal
  key_for given frames refusal key is_key same is_asked (inl table) = inl (for_lines (texts_of inputs os given) frames refusal is_asked table)
  key_for given frames refusal key is_key same is_asked (inr slice) =
      let its = texts_of inputs os given in
      let p = parts_are uuids inputs archives all read os its.texts its.given its.files in
      let tied : AreTied (key_bytes refusal.key) p.whole =
      tied_whole uuids (key_bytes refusal.key) is_asked.short is_asked.under p.whole all p.parts slice.tied in
      let by : IsRefusedForSlice archives os refusal = record {
        key = key;
        key_is = same;
        tied = told.tied os its.texts p.whole p.indexes key is_key (subst (λ (k : List ℕ). AreTied k p.whole) same tied);
        stale = ap is_stale_entry slice.stale.why_is;
        changed = λ own. none_stale (are_own inputs archives os given own) refusal is_asked.some slice;
      } in
      inr by

-- ---- frames

keys_long : (listed : List Frame) → ((frame : Frame) → Contains listed frame → IsKey frame.key) → (key : SliceKey)
    → Contains (frame_keys listed) key → length key.uuid ≡ 16
keys_long listed keyed key there =
    let found = in_map (λ (frame : Frame). frame.key) listed key there in
    ap (λ (k : SliceKey). length k.uuid) found.2 ∙ (keyed found.0 found.1).uuid

-- the keys that are asked have UUIDs of 16 bytes
one_long : (key other : SliceKey) → IsKey key → Contains (key ∷ []) other → length other.uuid ≡ 16
one_long key other is_key there = elim (in_cons key [] other there) [
  | inl same ↦ subst (λ (k : SliceKey). length k.uuid ≡ 16) same is_key.uuid
  | inr more ↦ absurd (omega (arith, more.1))
]

-- the keys that were asked
asked_key : (keys : List SliceKey) (uuids : List (List ℕ)) → AreAskedUuids keys uuids → (key : SliceKey) → Contains keys key
    → IsAskedKey uuids (key_bytes key)
asked_key keys uuids asked key there =
    let has : Contains uuids key.uuid = (asked.are key.uuid).1 (key, there, refl) in
    let long : length key.uuid ≡ 16 = All-contains (λ (u : List ℕ). length u ≡ 16) uuids key.uuid asked.long has in
    record {
      short = omega (arith, length_key_bytes key long);
      some = omega (arith, length_key_bytes key long);
      under = key_under uuids key has;
    }

pub asked_bytes : (keys : List SliceKey) (frames : List Frame) (uuids : List (List ℕ)) → AreAskedUuids (keys ++ frame_keys frames) uuids
    → (bytes : List ℕ) → Contains (keys_of frames) bytes → IsAskedKey uuids bytes
asked_bytes keys frames uuids asked bytes there =
    let found = in_map (λ (f : Frame). key_bytes f.key) frames bytes there in
    let among : Contains (frame_keys frames) found.0.key = to_map (λ (f : Frame). f.key) frames found.0 found.1 in
    subst (IsAskedKey uuids) (sym found.2)
    (asked_key (keys ++ frame_keys frames) uuids asked found.0.key (Contains-append_right keys (frame_keys frames) found.0.key among))

pub asked_frame : (keys : List SliceKey) (frames : List Frame) (uuids : List (List ℕ)) → AreAskedUuids (keys ++ frame_keys frames) uuids
    → (frame : Frame) → Contains frames frame → IsAskedKey uuids (key_bytes frame.key)
asked_frame keys frames uuids asked frame there =
    asked_bytes keys frames uuids asked (key_bytes frame.key) (to_map (λ (f : Frame). key_bytes f.key) frames frame there)

module _ {I P : Type 0} (uuids : List (List ℕ)) (inputs : List (Reader I)) (archives : List (Reader P)) (os : List Operations) (lines : Bool)
    (all : List (List (List ℕ))) (read : AreReadWith uuids inputs archives all) (given : AreIndexesGiven inputs os)
    (keys : List SliceKey) (long : (key : SliceKey) → Contains keys key → length key.uuid ≡ 16) (listed : List Frame)
    (asks : AreAskedUuids (keys ++ frame_keys listed) uuids)
    (keyed : (frame : Frame) → Contains listed frame → IsKey frame.key)
    (said : (frame : Frame) → Contains listed frame → (answer : AnswerRecord) (frames : List (List FrameRecord))
    → IsAnsweredAt (AreGiven inputs) archives all lines frame.key (asked_of frame.load frame.address) answer frames
    → IsAnswerWithFrames (all_joined os) frame.key lines (asked_of frame.load frame.address) answer frames) where
  abbrev o : Operations
  o = all_joined os

  abbrev Entries : SliceKey → Where → AnswerRecord → List (List FrameRecord) → Type 0
  Entries = IsAnsweredAt (AreGiven inputs) archives all lines

  abbrev Sourced : SliceKey → Where → AnswerRecord → List (List FrameRecord) → Type 0
  Sourced key asked answer frames = IsAnswerWithFrames o key lines asked answer frames

  its : AreTextsOf inputs os
  its = texts_of inputs os given

  row_told : (frame : Frame) (row : Answered) → Contains listed frame → IsFrameSaid Entries frame row → IsFrameAnswered lines o frame row
  row_told frame row there (address_is, is) = (
    address_is,
    subst (λ (a : ℕ). IsAnswerWithFrames o frame.key lines (asked_of frame.load a) (answer_view row.answer) row.frames) (sym address_is)
        (said frame there (answer_view row.answer) row.frames
        (subst (λ (a : ℕ). Entries frame.key (asked_of frame.load a) (answer_view row.answer) row.frames) address_is is)),
  )

  rows_told : (few : List Frame) (rows : List Answered) → ((frame : Frame) → Contains few frame → Contains listed frame)
      → AllZip (IsFrameSaid Entries) few rows → AllZip (IsFrameAnswered lines o) few rows
  rows_told [] [] among zip = tt
  rows_told [] (row ∷ rows) among zip = absurd zip
  rows_told (frame ∷ few) [] among zip = absurd zip
  rows_told (frame ∷ few) (row ∷ rows) among (one, more) = (
    row_told frame row (among frame (in_front frame few)) one,
    rows_told few rows (λ f there. among f (in_rest frame few f there)) more,
  )

  frames_told : (s : Status) (t : List ℕ) → TellFrames Entries listed s t → TellsFrames lines o listed s t
  frames_told s t by = record {
    rows = by.rows;
    answered = rows_told listed by.rows (λ frame there. there) by.answered;
    status_is = by.status_is;
    text_is = by.text_is;
  }

  reply_told : (refusals : List KeyRefusal) (frame : Frame) (reply : Reply) → Contains listed frame
      → IsFrameReplied Entries refusals frame reply → IsFrameReplied Sourced refusals frame reply
  reply_told refusals frame reply there (address_is, is) = (address_is, by reply.answered is)
    where
      by : (r : Option Answered) → IsAnsweredOrRefused Entries refusals frame r → IsAnsweredOrRefused Sourced refusals frame r
      by None h = h
      by (Some row) h = (row_told frame row there h.0, h.1)

  replies_told : (refusals : List KeyRefusal) (few : List Frame) (replies : List Reply)
      → ((frame : Frame) → Contains few frame → Contains listed frame)
      → AllZip (IsFrameReplied Entries refusals) few replies → AllZip (IsFrameReplied Sourced refusals) few replies
  replies_told refusals [] [] among zip = tt
  replies_told refusals [] (reply ∷ replies) among zip = absurd zip
  replies_told refusals (frame ∷ few) [] among zip = absurd zip
  replies_told refusals (frame ∷ few) (reply ∷ replies) among (one, more) = (
    reply_told refusals frame reply (among frame (in_front frame few)) one,
    replies_told refusals few replies (λ f there. among f (in_rest frame few f there)) more,
  )

  refusal_told : (refusal : KeyRefusal) → Contains (keys_of listed) (key_bytes refusal.key)
      → IsKeyRefused lines listed inputs archives all refusal → IsRefusedFor lines archives os refusal
  refusal_told refusal there is =
      let frame = in_map (λ (f : Frame). key_bytes f.key) listed (key_bytes refusal.key) there in
      key_for uuids inputs archives os lines all read given listed refusal frame.0.key (keyed frame.0 frame.1) frame.2
      (asked_bytes keys listed uuids asks (key_bytes refusal.key) there) is

  besides_told : (refusals : List KeyRefusal) (s : Status) (t : List ℕ)
      → TellFramesBesides Entries (IsKeyRefused lines listed inputs archives all) listed refusals s t
      → TellFramesBesides Sourced (IsRefusedFor lines archives os) listed refusals s t
  besides_told refusals s t by = record {
    replies = by.replies;
    replied = replies_told refusals listed by.replies (λ frame there. there) by.replied;
    ascending = by.ascending;
    of_frames = by.of_frames;
    refused = λ k d lt. refusal_told (get_or refusals k d) (by.of_frames k d lt) (by.refused k d lt);
    status_is = by.status_is;
    status_refused = by.status_refused;
    text_is = by.text_is;
  }

  slices_told : (slices : List ℕ) → TellsSlices (IsAnsweringEntryRow all keys) keys slices → TellsSlices (IsAnsweringRow o keys) keys slices
  slices_told slices by =
      let p = parts_are uuids inputs archives all read os its.texts its.given its.files in
      lines_told os its.texts p.whole p.indexes keys long slices
      (lines_whole uuids p.whole all p.parts keys
      (λ key there. (asks.are key.uuid).1 (key, Contains-append_left keys (frame_keys listed) key there, refl)) slices by)

  -- what is told is what the content tells, or besides refused keys
  pub listed_told : (slices : Bool) (status : Status) (text : List ℕ)
      → TellFramesWith slices Entries (IsKeyRefused lines listed inputs archives all) all keys listed status text
      → WithSlices slices (TellsFrames lines o listed) (IsAnsweringRow o keys) keys status text
      ⊎ ((slices ≡ true) × TellsFramesBesides lines archives os keys listed status text)
  listed_told false status text by = inl (frames_told status text by)
  listed_told true status text by = and_slices by.refusals by.told by.text_is
    where
      and_slices : (refusals : List KeyRefusal)
          → TellFramesBesides Entries (IsKeyRefused lines listed inputs archives all) listed refusals status by.answers
          → text ≡ by.answers ++ (by.slices ++ refusal_lines refusals)
          → WithSlices true (TellsFrames lines o listed) (IsAnsweringRow o keys) keys status text
          ⊎ ((true ≡ true) × TellsFramesBesides lines archives os keys listed status text)
      and_slices [] besides is = inl (record {
        answers = by.answers;
        told = frames_told status by.answers (answers_alone Entries [] (IsKeyRefused lines listed inputs archives all) listed status by.answers refl besides);
        slices = by.slices;
        tells_slices = slices_told by.slices by.sliced;
        text_is = is ∙ ap (λ (l : List ℕ). by.answers ++ l) (append-nil by.slices);
      })
      and_slices (refusal ∷ refusals) besides is = inr (
        refl,
        record {
          refusals = refusal ∷ refusals;
          some = λ none. absurd (cc none);
          answers = by.answers;
          told = besides_told (refusal ∷ refusals) status by.answers besides;
          slices = by.slices;
          tells_slices = slices_told by.slices by.sliced;
          text_is = is;
        },
      )

-- ---- one index: no two are tied

none_tied : (key : List ℕ) (all : List (List (List ℕ))) → length all ≤ 1 → AreTied key all → ⊥
none_tied key all few tied =
    let one = slice_get_within all tied.one.input tied.one_among.entries tied.one_among.index_is in
    let other = slice_get_within all tied.other.input tied.other_among.entries tied.other_among.index_is in
    tied.unordered.inputs (omega (arith, few, one, other))

-- ---- the laws

module _ {I P : Type 0} (inputs : List (Reader I)) (archives : List (Reader P)) (os : List Operations) where
  said_untied : (given : AreIndexesGiven inputs os) → DigestsDiffer os → (uuids : List (List ℕ)) (all : List (List (List ℕ)))
      → AreReadWith uuids inputs archives all → (lines : Bool) (key : SliceKey) → IsKey key → AreUnderOne uuids (key_bytes key)
      → (AreTied (key_bytes key) all → ⊥) → (asked : Where) (answer : AnswerRecord)
      (frames : List (List FrameRecord)) → IsAnsweredAt (AreGiven inputs) archives all lines key asked answer frames
      → IsAnswerWithFrames (all_joined os) key lines asked answer frames
  said_untied given tell uuids all read lines key is_key under untied asked answer frames (inl is) =
      said_by_tables uuids inputs archives os all read (texts_of inputs os given) tell lines key asked answer frames is_key under is
  said_untied given tell uuids all read lines key is_key under untied asked answer frames (inr is) = absurd (untied is.tied)

  untied_by : (given : AreIndexesGiven inputs os) (uuids : List (List ℕ)) (all : List (List (List ℕ))) → AreReadWith uuids inputs archives all
      → (key : SliceKey) → IsKey key → AreUnderOne uuids (key_bytes key) → (AreTiedSlices os key → ⊥) → AreTied (key_bytes key) all → ⊥
  untied_by given uuids all read key is_key under none tied =
      let its = texts_of inputs os given in
      let p = parts_are uuids inputs archives all read os its.texts its.given its.files in
      none (told.tied os its.texts p.whole p.indexes key is_key
      (tied_whole uuids (key_bytes key) (short_key key is_key) under p.whole all p.parts tied))

  pub given_indexes : AreIndexed inputs archives os → AreIndexesGiven inputs os
  given_indexes are = first_third IsIndexed IsIndexGiven inputs archives os (λ x y z is. is.0) are

  said_either : (are : AreIndexed inputs archives os) → DigestsDiffer os → (uuids : List (List ℕ)) (all : List (List (List ℕ)))
      → AreReadWith uuids inputs archives all → (lines : Bool) (key : SliceKey) → IsKey key → AreUnderOne uuids (key_bytes key)
      → (asked : Where) (answer : AnswerRecord)
      (frames : List (List FrameRecord)) → IsAnsweredAt (AreGiven inputs) archives all lines key asked answer frames
      → IsAnswerWithFrames (all_joined os) key lines asked answer frames
  said_either are tell uuids all read lines key is_key under asked answer frames (inl is) =
      said_by_tables uuids inputs archives os all read (texts_of inputs os (given_indexes are)) tell lines key asked answer frames is_key under is
  said_either are tell uuids all read lines key is_key under asked answer frames (inr is) =
      said_by_slices uuids inputs archives os all read are lines key asked answer frames (short_key key is_key) under is

  abbrev Besides : Bool → Bool → List SliceKey → List Frame → Status → List ℕ → Type 0
  Besides lines slices keys listed status text =
      WithSlices slices (TellsFrames lines (all_joined os) listed) (IsAnsweringRow (all_joined os) keys) keys status text
      ⊎ ((slices ≡ true) × TellsFramesBesides lines archives os keys listed status text)

  -- of frames
  pub framed_untied : (lines slices : Bool) (keys : List SliceKey) (listed : List Frame) (status : Status) (text : List ℕ)
      → AreIndexesGiven inputs os → DigestsDiffer os → ((key : SliceKey) → Contains keys key → length key.uuid ≡ 16)
      → ((frame : Frame) → Contains listed frame → IsKey frame.key × (AreTiedSlices os frame.key → ⊥))
      → AreToldAt lines slices inputs archives keys listed status text → Besides lines slices keys listed status text
  framed_untied lines slices keys listed status text given tell long keyed by =
      let under : (frame : Frame) → Contains listed frame → AreUnderOne by.uuids (key_bytes frame.key) =
      λ frame there. (asked_frame keys listed by.uuids by.asked frame there).under in
      listed_told by.uuids inputs archives os lines by.all by.read given keys long listed by.asked (λ frame there. (keyed frame there).0)
      (λ frame there answer frames is. said_untied given tell by.uuids by.all by.read lines frame.key (keyed frame there).0 (under frame there)
      (untied_by given by.uuids by.all by.read frame.key (keyed frame there).0 (under frame there) (keyed frame there).1)
      (asked_of frame.load frame.address) answer frames is)
      slices status text by.told

  pub framed_either : (lines slices : Bool) (keys : List SliceKey) (listed : List Frame) (status : Status) (text : List ℕ)
      → AreIndexed inputs archives os → DigestsDiffer os → ((key : SliceKey) → Contains keys key → length key.uuid ≡ 16)
      → ((frame : Frame) → Contains listed frame → IsKey frame.key)
      → AreToldAt lines slices inputs archives keys listed status text → Besides lines slices keys listed status text
  framed_either lines slices keys listed status text are tell long keyed by =
      listed_told by.uuids inputs archives os lines by.all by.read (given_indexes are) keys long listed by.asked keyed
      (λ frame there answer frames is. said_either are tell by.uuids by.all by.read lines frame.key (keyed frame there)
      (asked_frame keys listed by.uuids by.asked frame there).under
      (asked_of frame.load frame.address) answer frames is) slices status text by.told

  pub frames_untied : (lines slices : Bool) (listed : List Frame) (status : Status) (text : List ℕ)
      → AreIndexesGiven inputs os → DigestsDiffer os
      → ((frame : Frame) → Contains listed frame → IsKey frame.key × (AreTiedSlices os frame.key → ⊥))
      → AreToldAt lines slices inputs archives (frame_keys listed) listed status text
      → TellsFramesOrBesides lines slices archives os listed status text
  frames_untied lines slices listed status text given tell keyed by =
      framed_untied lines slices (frame_keys listed) listed status text given tell
      (λ key there. keys_long listed (λ f t. (keyed f t).0) key there) keyed by

  pub frames_either : (lines slices : Bool) (listed : List Frame) (status : Status) (text : List ℕ)
      → AreIndexed inputs archives os → DigestsDiffer os
      → ((frame : Frame) → Contains listed frame → IsKey frame.key)
      → AreToldAt lines slices inputs archives (frame_keys listed) listed status text
      → TellsFramesOrBesides lines slices archives os listed status text
  frames_either lines slices listed status text are tell keyed by =
      framed_either lines slices (frame_keys listed) listed status text are tell (λ key there. keys_long listed keyed key there) keyed by

  -- of addresses under one key
  module _ (key : SliceKey) (load : Option ℕ) (lines slices : Bool) (addresses : List ℕ) (status : Status) (text : List ℕ) (is_key : IsKey key) where
    of_key : (frame : Frame) → Contains (frames_under_key key load addresses) frame → IsKey frame.key
    of_key frame there = subst (λ (k : SliceKey). IsKey k) (sym (under_key key load addresses frame there)) is_key

    as_addresses : Besides lines slices (key ∷ []) (frames_under_key key load addresses) status text
        → TellsAddressesOrBesides archives os key load lines slices addresses status text
    as_addresses (inl told) = inl (addresses_told_with slices (all_joined os) key load lines addresses status text told)
    as_addresses (inr besides) = inr besides

    pub told_untied : AreIndexesGiven inputs os → DigestsDiffer os → (AreTiedSlices os key → ⊥)
        → (symbolicate_at inputs archives key load lines slices addresses).Makes status text
        → TellsAddressesOrBesides archives os key load lines slices addresses status text
    told_untied given tell none by = as_addresses (framed_untied lines slices (key ∷ []) (frames_under_key key load addresses) status text given tell
        (λ other there. one_long key other is_key there)
        (λ frame there. (of_key frame there, λ tied. none (subst (λ (k : SliceKey). AreTiedSlices os k) (under_key key load addresses frame there) tied))) by)

    pub told_either : AreIndexed inputs archives os → DigestsDiffer os
        → (symbolicate_at inputs archives key load lines slices addresses).Makes status text
        → TellsAddressesOrBesides archives os key load lines slices addresses status text
    told_either are tell by = as_addresses (framed_either lines slices (key ∷ []) (frames_under_key key load addresses) status text are tell
        (λ other there. one_long key other is_key there) of_key by)

-- ---- one index

module _ {I P : Type 0} (input : Reader I) (archive : Reader P) (o : Operations) (is : IsIndexGiven input o) where
  joined_one : all_joined (o ∷ []) ≡ o
  joined_one = joined_alone o is.2.content.itself

  one_all : (uuids : List (List ℕ)) (all : List (List (List ℕ))) → AreReadWith uuids (input ∷ []) (archive ∷ []) all → length all ≤ 1
  one_all uuids [] read = absurd read
  one_all uuids (entries ∷ []) read = omega arith
  one_all uuids (entries ∷ (more ∷ all)) read = absurd read.1

  alone : (lines slices : Bool) (keys : List SliceKey) (listed : List Frame) (status : Status) (text : List ℕ)
      → ((key : SliceKey) → Contains keys key → length key.uuid ≡ 16) → ((frame : Frame) → Contains listed frame → IsKey frame.key)
      → AreToldAt lines slices (input ∷ []) (archive ∷ []) keys listed status text
      → Besides (input ∷ []) (archive ∷ []) (o ∷ []) lines slices keys listed status text
  alone lines slices keys listed status text long keyed by =
      listed_told by.uuids (input ∷ []) (archive ∷ []) (o ∷ []) lines by.all by.read (is, tt) keys long listed by.asked keyed
      (λ frame there answer frames said. said_untied (input ∷ []) (archive ∷ []) (o ∷ []) (is, tt) (tells_alone o) by.uuids by.all by.read lines frame.key
      (keyed frame there) (asked_frame keys listed by.uuids by.asked frame there).under
      (none_tied (key_bytes frame.key) by.all (one_all by.uuids by.all by.read)) (asked_of frame.load frame.address) answer frames said)
      slices status text by.told

  pub frames_alone : (lines slices : Bool) (listed : List Frame) (status : Status) (text : List ℕ)
      → ((frame : Frame) → Contains listed frame → IsKey frame.key)
      → AreToldAt lines slices (input ∷ []) (archive ∷ []) (frame_keys listed) listed status text
      → TellsFramesWith lines slices o listed status text
      ⊎ ((slices ≡ true) × TellsFramesBesides lines (archive ∷ []) (o ∷ []) (frame_keys listed) listed status text)
  frames_alone lines slices listed status text keyed by =
      elim (alone lines slices (frame_keys listed) listed status text (λ key there. keys_long listed keyed key there) keyed by) [
        | inl told ↦ inl (subst (λ (made : Operations). TellsFramesWith lines slices made listed status text) joined_one told)
        | inr besides ↦ inr besides
      ]

  pub told_alone : (key : SliceKey) (load : Option ℕ) (lines slices : Bool) (addresses : List ℕ) (status : Status)
      (text : List ℕ) → IsKey key → (symbolicate_at (input ∷ []) (archive ∷ []) key load lines slices addresses).Makes status text
      → TellsAddressesWith o key load lines slices addresses status text
      ⊎ ((slices ≡ true) × TellsFramesBesides lines (archive ∷ []) (o ∷ []) (key ∷ []) (frames_under_key key load addresses) status text)
  told_alone key load lines slices addresses status text is_key by =
      elim (alone lines slices (key ∷ []) (frames_under_key key load addresses) status text (λ other there. one_long key other is_key there)
      (λ frame there. subst (λ (k : SliceKey). IsKey k) (sym (under_key key load addresses frame there)) is_key) by) [
        | inl told ↦ inl (subst (λ (made : Operations). TellsAddressesWith made key load lines slices addresses status text) joined_one
            (addresses_told_with slices (all_joined (o ∷ [])) key load lines addresses status text told))
        | inr besides ↦ inr besides
      ]

-- ---- what refuses the command

module _ {I P : Type 0} (frames : List Frame) (inputs : List (Reader I)) (archives : List (Reader P)) (at : InputName) (why : Why) where
  abbrev keys : List (List ℕ)
  keys = keys_of frames

  pub untold_table : (indexes : List (Reader I)) (answering : List EntryAt) → IsUnreadTable indexes answering at why → IsDeviceFault why
  untold_table indexes answering u = subst IsDeviceFault (sym u.why_is) refl

  pub untold_by_device : (lines slices : Bool) (asked_keys : List SliceKey) (uuids : List (List ℕ)) (os : List Operations)
      → AreIndexesGiven inputs os → AreAskedUuids (asked_keys ++ frame_keys frames) uuids
      → AreUntold lines slices uuids frames inputs archives at why → IsDeviceFault why ⊎ IsForLines lines os keys at why
  untold_by_device lines slices asked_keys uuids os are asks u = by slices u.untold.untold
    where
      t : AreTextsOf inputs os
      t = texts_of inputs os are

      p : AreParts uuids os t.texts u.all
      p = parts_are uuids inputs archives u.all u.read os t.texts t.given t.files

      is_asked : IsAskedKey uuids u.untold.key
      is_asked = asked_bytes asked_keys frames uuids asks u.untold.key u.untold.key_is

      answers : AreAnsweringAmong u.untold.key p.whole u.untold.answering
      answers = answering_whole uuids u.untold.key is_asked.short is_asked.under p.whole u.all p.parts u.untold.answering u.untold.are

      by : (wanted : Bool) → IsTableRefused lines wanted inputs u.untold.places u.untold.answering at why → IsDeviceFault why ⊎ IsForLines lines os keys at why
      by true unread = inl (untold_table inputs u.untold.answering unread)
      by false (inl changed) = absurd (told.none_damaged os t.texts p.whole p.indexes u.untold.key u.untold.answering changed.input
          changed.number answers (changed.changed t.texts t.given))
      by false (inr (inl lacking)) = inr (lacks_lines os t.texts p.whole p.indexes lines u.untold.key keys u.untold.key_is at why u.untold.answering
          lacking.input lacking.number answers lacking.wanted lacking.at_is lacking.why_is (lacking.lacks t.texts t.given))
      by false (inr (inr unread)) = inl (untold_table inputs u.untold.answering unread)

  pub asked_by_device : (lines slices : Bool) (os : List Operations) → AreOwnIndexes inputs archives os
      → AreRefusedAsking lines slices frames inputs archives at why → IsDeviceFault why ⊎ IsForLines lines os keys at why
  asked_by_device lines slices os are (asked_keys, uuids, asks, inl first) = inl (first_by_device uuids keys inputs archives os at why are first)
  asked_by_device lines slices os are (asked_keys, uuids, asks, inr (inl unread)) =
      let is_asked = asked_bytes asked_keys frames uuids asks unread.key unread.key_is in
      inl (later_by_device uuids (unread.key ∷ []) inputs archives os at why are (is_asked.some, tt) unread.refused)
  asked_by_device lines slices os are (asked_keys, uuids, asks, inr (inr untold)) =
      untold_by_device lines slices asked_keys uuids os (own_given inputs archives os are) asks untold
