-- How commands end that ask key by key.
use Rattle.std.proofs.Common.{◌≡◌, ℕ, ◌⊎◌, Bool, true, false, List, [], ◌∷◌, ◌++◌, length, take, Option, refl, sym, ap, ◌∙◌, subst, inl, inr}
use Rattle.std.specs.Prelude.{slice_get, slice_set}
use Rattle.std.specs.Cmp.Lexicographic.{slice_cmp}
use Rattle.std.specs.List.{AllZip, Contains}
use Rattle.std.specs.Ordering.{nat_cmp}
use Rattle.std.proofs.lemmas.List.Elements.{All-weaker}
use Rattle.std.proofs.lemmas.Option.{get_or_from_slice_get, slice_get_within}
use Rattle.std.proofs.lemmas.Slice.Zip.{AllZip-long}
use Rattle.archive_core.proofs.Members.{to_map}
use Rattle.archive_core.specs.Key.{key_bytes}
use Rattle.archive_core.specs.Lookup.{AnswerRecord}
use Rattle.archive_core.specs.declared.keys.SliceKey.{SliceKey}
use Rattle.archive_core.specs.declared.lookup.Where.{Where}
use Rattle.dwarf_source_frames.specs.Frames.{FrameRecord}
use Rattle.text_input_files.specs.declared.frame.Frame.{Frame}
use Rattle.command_common.specs.Inputs.{AreRead, Reader, readers, EachUnfailed, IsRefusal}
use Rattle.command_common.specs.declared.faults.CommandFault.{CommandFault}
use Rattle.command_common.specs.declared.faults.CommandFault.TheVariants.{Input, OutOfMemory}
use Rattle.command_common.specs.declared.faults.InputName.{InputName}
use Rattle.command_common.specs.declared.faults.Status.{Status}
use Rattle.command_common.specs.declared.faults.Why.{Why}
use Rattle.index_lookup.specs.Among.{EntryAt}
use Rattle.index_lookup.specs.AmongAsked.{BlamesAmong, HasText, HaveTexts, IsFirstAmong, IsUntoldAmong, each_known}
use Rattle.index_lookup.specs.declared.fault.AnswerFault.{AnswerFault}
use Rattle.index_lookup.specs.declared.fault.AnswerFault.TheVariants as answer
use Rattle.command_given_indexes.specs.Several.{AreRefusedLater, AreUnfailedTogether}
use Rattle.command_given_indexes.specs.Together.{AreAllKept, AreReadWith, HaveLengths, IsKept}
use Rattle.command_given_indexes.proofs.Groups.{later_readers, lengths_earlier, read_earlier, unfailed_through}
use Rattle.command_queries.specs.Frames.{frame_keys}
use Rattle.command_queries.specs.Symbolicate.{asked_of}
use Rattle.command_frames.specs.Asking.{AreAnsweredBelow, AreAskedUuids, AreGiven, AreRefusedAsking, AreUnread, AreUntold, IsAnsweredAt, IsAnsweredByTables}
use Rattle.command_frames.specs.Asking.{HavePlaces, IsChanged, IsLineless, IsTableRefused, IsUnreadTable, keys_of}
use Rattle.command_frames.specs.Frames.{AreToldAt}
use Rattle.command_frames.specs.InnerAsking.{IsKeyFault, IsOfKey, IsRefusedUnder, NoneFailed, RefusesAll, command_fault}
use Rattle.command_frames.specs.InnerPlaces.{AreKeysOf}
use Rattle.command_frames.specs.InnerReplies.{PrintsFrames}
use Rattle.command_frames.specs.InnerKeyReplies.{AreTold, IsRefusedAfter, IsRefusedAt}
use Rattle.command_frames.specs.Refusals.{IsKeyRefused, IsRefusedBySlice, IsRefusedByTable, KeyRefusal}
use Rattle.command_frames.specs.declared.places.AskedKey.{AskedKey}
use Rattle.command_frames.specs.declared.key_answers.KeyAnswers.{KeyAnswers}
use Rattle.command_frames.proofs.Archives.{HaveBytesOf, bytes_kept, kept_then, same_bytes, slices_same, stale_same}
use Rattle.command_frames.proofs.Before.{said_below}
use Rattle.command_frames.proofs.Followed.{followed}
use Rattle.command_frames.proofs.Refused.{part_told}
use Rattle.command_frames.proofs.Runs.{among_frames, places_of}
use Rattle.command_frames.proofs.Shown.{only_key, under_as}
use Rattle.command_frames.proofs.States.{all_kept, fails_alone, none_failed_of, read_before, texts_of}

-- after the indexes were read
module _ {I P : Type 0} (left : I → Option (List ℕ)) (failures : I → ℕ) (whole : P → Option (List ℕ)) (failures_at : P → ℕ)
    (old mid new : List I) (before seen after : List P) (uuids : List (List ℕ)) (all : List (List (List ℕ))) (sizes : List ℕ)
    (more : length new ≡ length mid) (more_at : length after ≡ length seen)
    (read : AreRead (AreReadWith uuids (readers left failures old mid) (readers whole failures_at before seen) all)
    (EachUnfailed (readers left failures old mid) × EachUnfailed (readers whole failures_at before seen)))
    (lengths : HaveLengths (readers whole failures_at before seen) sizes)
    (kept : AreAllKept left failures old mid × AreAllKept whole failures_at before seen) (lines slices : Bool) where
  abbrev named : List (Reader I)
  named = readers left failures old new

  abbrev known : List (Reader P)
  known = readers whole failures_at before after

  abbrev later : List (Reader P)
  later = readers whole failures_at seen after

  long : length mid ≡ length old
  long = AllZip-long (IsKept left failures) old mid kept.0

  long_at : length seen ≡ length before
  long_at = AllZip-long (IsKept whole failures_at) before seen kept.1

  read_all : AreReadWith uuids named known all
  read_all =
      read_earlier whole failures_at uuids named before seen after all long_at (more_at ∙ long_at)
      (read_before left failures uuids (readers whole failures_at before seen) all old mid new long (more ∙ long) read.is)

  lengths_all : HaveLengths known sizes
  lengths_all = lengths_earlier whole failures_at before seen after sizes long_at (more_at ∙ long_at) lengths

  counts_kept : each_known failures mid ≡ each_known failures old
  counts_kept = (all_kept left failures old mid kept.0).1

  -- the bytes that the indexes are given with are those that their tables were told of
  given_texts : (texts : List (List ℕ)) → AreGiven named texts → HaveTexts left mid texts
  given_texts texts given =
      subst (λ (ds : List (Option (List ℕ))). AllZip HasText ds texts) (sym (all_kept left failures old mid kept.0).0)
      (texts_of left failures old new texts (more ∙ long) given)

  none_failed_named : NoneFailed failures mid new → EachUnfailed named
  none_failed_named none = none_failed_of left failures old new (none ∙ counts_kept)

  unfailed_known : EachUnfailed later → EachUnfailed known
  unfailed_known each = unfailed_through whole failures_at before seen after long_at (more_at ∙ long_at) read.unfailed.1 each

  pub unfailed_all : NoneFailed failures mid new × EachUnfailed later → AreUnfailedTogether named known
  unfailed_all u = (none_failed_named u.0, unfailed_known u.1)

  -- ---- a table is not told

  -- what a fault says of entries, and of those before the one that is at fault
  abbrev Untold : List EntryAt → AnswerFault → Type 0
  Untold answering fault = (texts : List (List ℕ)) → HaveTexts left mid texts → IsUntoldAmong texts answering fault

  abbrev First : List Where → List EntryAt → AnswerFault → Type 0
  First places answering fault = (texts : List (List ℕ)) → HaveTexts left mid texts → IsFirstAmong texts lines places answering fault

  changed_of : (places : List Where) (answering : List EntryAt) (input number : ℕ) (at : InputName) (why : Why)
      → command_fault (answer.Damaged input number) ≡ Input at why → Untold answering (answer.Damaged input number)
      → First places answering (answer.Damaged input number) → EachUnfailed named → IsChanged lines named places answering at why
  changed_of places answering input number at why told says first unfailed = record {
    input = input;
    number = number;
    at_is = cc;
    why_is = cc;
    changed = λ texts given. says texts (given_texts texts given);
    first = λ texts given. first texts (given_texts texts given);
    unfailed = unfailed;
  }

  lineless_of : (places : List Where) (answering : List EntryAt) (input number : ℕ) (at : InputName) (why : Why)
      → command_fault (answer.NoLines input number) ≡ Input at why → lines ≡ true → Untold answering (answer.NoLines input number)
      → First places answering (answer.NoLines input number) → EachUnfailed named → IsLineless lines named places answering at why
  lineless_of places answering input number at why told wanted says first unfailed = record {
    input = input;
    number = number;
    at_is = cc;
    why_is = cc;
    wanted = wanted;
    lacks = λ texts given. says texts (given_texts texts given);
    first = λ texts given. first texts (given_texts texts given);
    unfailed = unfailed;
  }

  unread_of : (answering : List EntryAt) (input offset : ℕ) (at : InputName) (why : Why) → command_fault (answer.Device input offset) ≡ Input at why
      → BlamesAmong lines answering (each_known failures mid) (each_known failures new) (answer.Device input offset) → IsUnreadTable named answering at why
  unread_of answering input offset at why told counts =
      let failed = counts.1 in
      record {
        input = input;
        offset = offset;
        at_is = cc;
        why_is = cc;
        asked = counts.0;
        failed = fails_alone left failures old new input failed.old failed.new
            (ap (λ (ds : List ℕ). slice_get ds input) (sym counts_kept) ∙ failed.old_is) failed.failed
            (failed.others ∙ ap (λ (ds : List ℕ). slice_set ds input failed.new) counts_kept);
      }

  fault_of : (wanted : Bool) (places : List Where) (answering : List EntryAt) (fault : AnswerFault) (at : InputName) (why : Why)
      → command_fault fault ≡ Input at why → RefusesAll wanted fault → Untold answering fault → First places answering fault
      → BlamesAmong lines answering (each_known failures mid) (each_known failures new) fault
      → IsTableRefused lines wanted named places answering at why
  fault_of false places answering (answer.Damaged input number) at why told refuses says first counts =
      inl (changed_of places answering input number at why told says first (none_failed_named counts))
  fault_of false places answering (answer.NoLines input number) at why told refuses says first counts =
      inr (inl (lineless_of places answering input number at why told counts.0 says first (none_failed_named counts.1)))
  fault_of false places answering (answer.Device input offset) at why told refuses says first counts =
      inr (inr (unread_of answering input offset at why told counts))
  fault_of false places answering answer.OutOfMemory at why told refuses says first counts = absurd (cc told)
  fault_of true places answering (answer.Damaged input number) at why told refuses says first counts = absurd refuses
  fault_of true places answering (answer.NoLines input number) at why told refuses says first counts = absurd refuses
  fault_of true places answering (answer.Device input offset) at why told refuses says first counts =
      unread_of answering input offset at why told counts
  fault_of true places answering answer.OutOfMemory at why told refuses says first counts = absurd (cc told)

  -- a key that is refused alone, for a table
  table_given : EachUnfailed named → (frames : List Frame) (refusal : KeyRefusal) (places : List Where)
      → HavePlaces frames (key_bytes refusal.key) places
      → IsKeyFault (HaveTexts left mid) all lines (key_bytes refusal.key) places refusal.at refusal.why
      → IsRefusedByTable lines frames named all refusal
  table_given unfailed frames refusal places has r = record {
    places = places;
    of_frames = has;
    answering = r.answering;
    are = r.are;
    untold = by r.fault r.told_as r.of_key r.says r.first;
  }
    where
      by : (fault : AnswerFault) → command_fault fault ≡ Input refusal.at refusal.why → IsOfKey lines fault
          → Untold r.answering fault → First places r.answering fault
          → IsChanged lines named places r.answering refusal.at refusal.why ⊎ IsLineless lines named places r.answering refusal.at refusal.why
      by (answer.Damaged input number) told of_key says first =
          inl (changed_of places r.answering input number refusal.at refusal.why told says first unfailed)
      by (answer.NoLines input number) told of_key says first =
          inr (lineless_of places r.answering input number refusal.at refusal.why told of_key says first unfailed)
      by (answer.Device input offset) told of_key says first = absurd of_key
      by answer.OutOfMemory told of_key says first = absurd of_key

  -- ---- what is told

  same_known : HaveBytesOf (readers whole failures_at seen seen) known
  same_known = same_bytes whole failures_at seen seen before after refl (more_at ∙ long_at) (sym (bytes_kept whole failures_at before seen kept.1))

  abbrev IsSaidLater : SliceKey → Where → AnswerRecord → List (List FrameRecord) → Type 0
  IsSaidLater = IsAnsweredAt (HaveTexts left mid) (readers whole failures_at seen seen) all lines

  abbrev IsRefusedLater : SliceKey → List Where → InputName → Why → Type 0
  IsRefusedLater = IsRefusedAt (HaveTexts left mid) (readers whole failures_at seen seen) all lines

  said_given : (key : SliceKey) (place : Where) (told : AnswerRecord) (frames : List (List FrameRecord))
      → IsAnsweredAt (HaveTexts left mid) (readers whole failures_at seen seen) all lines key place told frames
      → IsAnsweredAt (AreGiven named) known all lines key place told frames
  said_given key place told frames (inl is) =
      let by : IsAnsweredByTables (AreGiven named) all lines key place told frames =
      record { answer_is = λ texts given. is.answer_is texts (given_texts texts given); none_shown = is.none_shown } in
      inl by
  said_given key place told frames (inr is) =
      inr (slices_same (readers whole failures_at seen seen) known all lines key place told frames same_known is)

  refused_given : EachUnfailed named → EachUnfailed known → (frames : List Frame) (key : SliceKey) (places : List Where)
      (at : InputName) (why : Why) → HavePlaces frames (key_bytes key) places
      → IsRefusedAt (HaveTexts left mid) (readers whole failures_at seen seen) all lines key places at why
      → IsKeyRefused lines frames named known all (record { key = key; at = at; why = why })
  refused_given unfailed unfailed_at frames key places at why has (inl is) =
      inl (table_given unfailed frames (record { key = key; at = at; why = why }) places has is)
  refused_given unfailed unfailed_at frames key places at why has (inr is) =
      let by : IsRefusedBySlice known all (record { key = key; at = at; why = why }) = record {
        tied = is.0;
        stale = stale_same (readers whole failures_at seen seen) known all (key_bytes key) at why same_known is.1;
        unfailed = unfailed_at;
      } in
      inr by

  pub frames_told : (keys : List SliceKey) (frames : List Frame) (asked : List AskedKey) (told : List KeyAnswers)
      → AreAskedUuids (keys ++ frame_keys frames) uuids → AreKeysOf frames asked
      → AreRead (AreTold IsSaidLater IsRefusedLater slices asked told × (each_known left new ≡ each_known left mid) × AreAllKept whole failures_at seen after)
      (NoneFailed failures mid new × EachUnfailed later)
      → (status : Status) (text : List ℕ) → PrintsFrames told slices all keys frames status text
      → AreRead (AreToldAt lines slices named known keys frames status text) (AreUnfailedTogether named known)
  frames_told keys frames asked told under of r status text prints =
      let unfailed = unfailed_all r.unfailed in
      let are = r.is.0 in
      let true_now = All-weaker _ _ (under_as IsSaidLater (IsAnsweredAt (AreGiven named) known all lines) IsRefusedLater IsRefusedLater
      said_given (λ key places at why is. is) slices) told are.are_true in
      let now : AreTold (IsAnsweredAt (AreGiven named) known all lines) IsRefusedLater slices asked told =
      record { asked_is = are.asked_is; are_true = true_now } in
      let part = part_told slices now frames of (IsKeyRefused lines frames named known all) (refused_given unfailed.0 unfailed.1 frames)
      status prints.answers prints.refused prints.shown prints.refused_is in
      record {
        is = record {
          uuids = uuids;
          asked = under;
          all = all;
          read = read_all;
          told = followed slices (IsAnsweredAt (AreGiven named) known all lines) (IsKeyRefused lines frames named known all) all keys frames
              status prints.answers prints.refused text part prints.followed;
        };
        unfailed = unfailed;
      }

  -- ---- what is refused

  abbrev RefusesUnder : InputName → Why → List (List ℕ) → List Where → Type 0
  RefusesUnder at why keys places = IsRefusedUnder left failures whole failures_at lines slices all sizes mid new seen after keys places at why

  module _ (keys : List SliceKey) (frames : List Frame) (asked : List AskedKey) (under : AreAskedUuids (keys ++ frame_keys frames) uuids)
      (of : AreKeysOf frames asked) (at : InputName) (why : Why)
      (r : IsRefusedAfter IsSaidLater IsRefusedLater slices asked (RefusesUnder at why)) where
    asked_for : Contains asked r.one
    asked_for = (r.number, slice_get_within asked r.number r.one r.one_is, get_or_from_slice_get asked r.number r.one r.one r.one_is)

    -- its key is one of those of the frames, with the places that these mean
    there : (key : List ℕ) → key_bytes r.one.key ≡ key → Contains (keys_of frames) key
    there key is =
        subst (Contains (keys_of frames)) is
        (among_frames frames asked of (key_bytes r.one.key) (to_map (λ (a : AskedKey). key_bytes a.key) asked r.one asked_for))

    placed : (key : List ℕ) → key_bytes r.one.key ≡ key → HavePlaces frames key r.one.places.items
    placed key is = subst (λ (k : List ℕ). HavePlaces frames k r.one.places.items) is (places_of frames asked of r.one asked_for)

    -- the frames of lower keys have answers
    below : (key : List ℕ) → key_bytes r.one.key ≡ key → slices ≡ false → AreAnsweredBelow (AreGiven named) known all lines frames key
    below key is none frame has less =
        let before = subst (λ (s : Bool). AreTold IsSaidLater IsRefusedLater s (take r.number asked) r.told) none r.before in
        let said = said_below IsSaidLater IsRefusedLater frames asked of r.number r.one r.one_is r.told before frame has
        (ap (λ (b : List ℕ). slice_cmp nat_cmp (key_bytes frame.key) b) is ∙ less) in
        record {
          key = said.key;
          key_is = said.key_is;
          answer = said.answer;
          frames = said.frames;
          answered = said_given said.key (asked_of frame.load frame.address) said.answer said.frames said.said;
        }

    refused_so : RefusesUnder at why (key_bytes r.one.key ∷ []) r.one.places.items → AreRefusedAsking lines slices frames named known at why
    refused_so (inl (each, u)) =
        let is = only_key (key_bytes r.one.key) u.key u.key_is in
        let told : AreUntold lines slices uuids frames named known at why = record {
          all = all;
          read = read_all;
          unfailed = unfailed_known each;
          untold = record {
            key = u.key;
            key_is = there u.key is;
            places = r.one.places.items;
            answering = u.answering;
            are = u.are;
            untold = fault_of slices r.one.places.items u.answering u.fault at why u.told_as u.refuses u.says u.first u.counts;
          };
          of_frames = placed u.key is;
          before = below u.key is;
        } in
        (keys, uuids, under, inr (inr told))
    refused_so (inr (none, u)) =
        let is = only_key (key_bytes r.one.key) u.key u.key_is in
        let long_mid : length u.mid ≡ length seen = AllZip-long (IsKept whole failures_at) seen u.mid u.kept in
        let later_refused : AreRefusedLater uuids (u.key ∷ []) named known at why = record {
          all = all;
          read = read_all;
          sizes = sizes;
          lengths = lengths_all;
          unfailed = none_failed_named none;
          later = readers whole failures_at u.mid after;
          are_later = later_readers whole failures_at before u.mid after (more_at ∙ sym long_mid)
              (kept_then whole failures_at before seen u.mid kept.1 u.kept);
          refused = u.refused;
        } in
        let told : AreUnread lines slices uuids frames named known at why = record {
          key = u.key;
          key_is = there u.key is;
          refused = later_refused;
          tied = u.tied;
          before = below u.key is;
          of_all = u.of_all;
        } in
        (keys, uuids, under, inr (inl told))

  pub frames_refused : (keys : List SliceKey) (frames : List Frame) (asked : List AskedKey) → AreAskedUuids (keys ++ frame_keys frames) uuids
      → AreKeysOf frames asked → (fault : CommandFault)
      → IsRefusal (λ at why. IsRefusedAfter IsSaidLater IsRefusedLater slices asked (RefusesUnder at why))
      (NoneFailed failures mid new × EachUnfailed later) fault
      → IsRefusal (AreRefusedAsking lines slices frames named known) (AreUnfailedTogether named known) fault
  frames_refused keys frames asked under of (Input at why) r = refused_so keys frames asked under of at why r r.refused
  frames_refused keys frames asked under of OutOfMemory r = unfailed_all r
  frames_refused keys frames asked under of fault r = absurd r
