-- Replies to frames: answers alone, or also keys that are refused, where slices are wanted.
use Rattle.std.proofs.Common.{◌≡◌, ◌≢◌, ◌↔◌, ℕ, zero, suc, ◌&&◌, ◌||◌, if◌then◌else◌, Bool, true, false, List, []}
use Rattle.std.proofs.Common.{◌∷◌, ◌++◌, map, get_or, Contains, Option, Some, None, refl, sym, ap, ◌∙◌, subst, inl}
use Rattle.std.proofs.Common.{inr, arith, fold}
use Rattle.std.specs.Prelude.{slice_get}
use Rattle.std.specs.List.{AllZip, flat_map, list_all, list_any}
use Rattle.std.specs.List.Sorted.{IsStrictlySortedBy}
use Rattle.std.proofs.lemmas.Bool.{or_right, true≢false}
use Rattle.std.proofs.lemmas.List.Elements.{All-contains, Contains-get_or}
use Rattle.archive_core.specs.Content.{Operations}
use Rattle.archive_core.specs.Key.{key_bytes}
use Rattle.archive_core.specs.Lookup.{AnswerRecord, answer_view}
use Rattle.archive_core.specs.declared.keys.SliceKey.{SliceKey}
use Rattle.archive_core.specs.declared.lookup.Where.{Where}
use Rattle.archive_core.proofs.Members.{in_cons, in_front, in_map, to_map}
use Rattle.dwarf_source_frames.specs.Frames.{FrameRecord}
use Rattle.command_queries.specs.Places.{IsPlaceTold, address_in}
use Rattle.command_queries.specs.Symbolicate.{Answered, answers_text, asked_of, is_symbol}
use Rattle.text_input_files.specs.declared.frame.Frame.{Frame}
use Rattle.command_common.specs.declared.faults.InputName.{InputName}
use Rattle.command_common.specs.declared.faults.Status.{Status}
use Rattle.command_common.specs.declared.faults.Status.TheVariants.{Done, Partial, SomeRefused as RefusedStatus}
use Rattle.command_common.specs.declared.faults.Why.{Why}
use Rattle.command_queries.specs.Frames.{IsFrameSaid, TellFrames, TellsFrames}
use Rattle.command_queries.specs.SourceFrames.{IsAnswerWithFrames}
use Rattle.command_frames.specs.Asking.{HavePlaces, keys_of}
use Rattle.command_frames.specs.Frames.{IsAnsweredOrRefused, IsFrameReplied, TellFramesBesides}
use Rattle.command_frames.specs.InnerPlaces.{AreKeysOf, key_cmp}
use Rattle.command_frames.specs.InnerKeyReplies.{AreTold, IsFrameTold, IsKeyReply, IsPrintedOf, IsToldUnder, Printed, ShowsFrames, StandsAt}
use Rattle.command_frames.specs.InnerKeyReplies.{NoneRefused, asked_in, refusals_in, status_with}
use Rattle.command_frames.specs.InnerReplies.{TellFramesPart}
use Rattle.command_frames.specs.Refusals.{AreRefusing, KeyRefusal, Reply, is_found, is_refused, refusal_lines, replies_text, replies_status, reply_text}
use Rattle.command_frames.specs.declared.places.AskedKey.{AskedKey}
use Rattle.command_frames.specs.declared.tables.KeyReply.{KeyReply}
use Rattle.command_frames.specs.declared.tables.KeyReply.TheVariants.{Told, Refused}
use Rattle.command_frames.specs.declared.key_answers.KeyAnswers.{KeyAnswers}
use Rattle.command_frames.proofs.Runs.{keys_total, not_same, once, places_of, told_ascend}
use Rattle.command_frames.proofs.Shown.{of_told, refusals_ascend, to_refusals}

-- what is told under a key is told once
once_told : (told : List KeyAnswers) (a b : KeyAnswers) → IsStrictlySortedBy (λ x y. key_cmp x.asked.now.key y.asked.now.key) told
    → Contains told a → Contains told b → key_bytes a.asked.now.key ≡ key_bytes b.asked.now.key → a ≡ b
once_told told a b up there also same = once keys_total (λ (one : KeyAnswers). one.asked.now.key) told a b up there also
    (λ less. not_same (key_bytes a.asked.now.key) (key_bytes b.asked.now.key) less same)
    (λ less. not_same (key_bytes b.asked.now.key) (key_bytes a.asked.now.key) less (sym same))

-- ---- how a command ends

-- how it ends for one reply
abbrev reply_status : Option Answered → Status
reply_status None = RefusedStatus
reply_status (Some row) = if is_symbol row.answer then Done else Partial

with_twice : (a b c : Status) → status_with (status_with a b) c ≡ status_with a (status_with b c)
with_twice Done b c = refl
with_twice Partial Done c = refl
with_twice Partial Partial Done = refl
with_twice Partial Partial Partial = refl
with_twice Partial Partial RefusedStatus = refl
with_twice Partial RefusedStatus c = refl
with_twice RefusedStatus b c = refl

with_done : (a : Status) → status_with a Done ≡ a
with_done Done = refl
with_done Partial = refl
with_done RefusedStatus = refl

status_first : (reply : Option Answered) (any each : Bool)
    → status_with (reply_status reply) (if any then RefusedStatus else if each then Done else Partial)
    ≡ (if is_refused reply || any then RefusedStatus else if is_found reply && each then Done else Partial)
status_first None any each = refl
status_first (Some row) any each = by (is_symbol row.answer) any each
  where
    by : (s a e : Bool) → status_with (if s then Done else Partial) (if a then RefusedStatus else if e then Done else Partial)
        ≡ (if a then RefusedStatus else if s && e then Done else Partial)
    by true a e = refl
    by false true e = refl
    by false false true = refl
    by false false false = refl

-- ---- pairs

zip_get : {X Y : Type 0} (R : X → Y → Type 0) (xs : List X) (ys : List Y) (n : ℕ) (x : X) (y : Y) → AllZip R xs ys
    → slice_get xs n ≡ Some x → slice_get ys n ≡ Some y → R x y
zip_get R [] ys n x y all at_x at_y = absurd (cc at_x)
zip_get R (a ∷ xs) [] n x y all at_x at_y = absurd all
zip_get {X} {Y} R (a ∷ xs) (b ∷ ys) zero x y all at_x at_y =
    let is_x : a ≡ x = cc at_x in
    let is_y : b ≡ y = cc at_y in
    subst (λ (z : X). R z y) is_x (subst (λ (z : Y). R a z) is_y all.0)
zip_get R (a ∷ xs) (b ∷ ys) (suc n) x y all at_x at_y = zip_get R xs ys n x y all.1 at_x at_y

address_asked : (load : Option ℕ) (address : ℕ) → address_in (asked_of load address) ≡ address
address_asked None address = refl
address_asked (Some load) address = refl

-- ---- replies of which none is refused

module _ (IsSaid : SliceKey → Where → AnswerRecord → List (List FrameRecord) → Type 0) (refusals : List KeyRefusal) where
  record AreRows (few : List Frame) (replies : List Reply) : Type 0 where
    rows : List Answered
    answered : AllZip (IsFrameSaid IsSaid) few rows
    none : list_any (λ (r : Reply). is_refused r.answered) replies ≡ false
    each : list_all (λ (r : Reply). is_found r.answered) replies ≡ list_all (λ (row : Answered). is_symbol row.answer) rows
    text_is : replies_text replies ≡ answers_text rows

  row_of : (frame : Frame) (reply : Reply) → refusals ≡ [] → IsFrameReplied IsSaid refusals frame reply
      → (row : Answered) × (reply.answered ≡ Some row) × IsFrameSaid IsSaid frame row
  row_of frame reply none (address_is, is) = by reply.answered refl is
    where
      by : (r : Option Answered) → reply.answered ≡ r → IsAnsweredOrRefused IsSaid refusals frame r
          → (row : Answered) × (reply.answered ≡ Some row) × IsFrameSaid IsSaid frame row
      by None same h = absurd (omega (arith, (subst (λ (l : List KeyRefusal). AreRefusing l (key_bytes frame.key)) none h).1))
      by (Some row) same h = (row, same, h.0)

  rows_of : (few : List Frame) (replies : List Reply) → refusals ≡ [] → AllZip (IsFrameReplied IsSaid refusals) few replies
      → AreRows few replies
  rows_of [] [] none zip = record { rows = []; answered = tt; none = refl; each = refl; text_is = refl }
  rows_of [] (reply ∷ replies) none zip = absurd zip
  rows_of (frame ∷ few) [] none zip = absurd zip
  rows_of (frame ∷ few) (reply ∷ replies) none (first, rest) =
      let row = row_of frame reply none first in
      let more = rows_of few replies none rest in
      record {
        rows = row.0 ∷ more.rows;
        answered = (row.2, more.answered);
        none = (λ i. is_refused (row.1 i) || more.none i);
        each = (λ i. is_found (row.1 i) && more.each i);
        text_is = (λ i. reply_text reply.address (row.1 i) ++ more.text_is i);
      }

  -- they are answers
  pub answers_alone : (IsRefused : KeyRefusal → Type 0) (frames : List Frame) (status : Status) (text : List ℕ) → refusals ≡ []
      → TellFramesBesides IsSaid IsRefused frames refusals status text → TellFrames IsSaid frames status text
  answers_alone IsRefused frames status text none told =
      let are = rows_of frames told.replies none told.replied in
      record {
        rows = are.rows;
        answered = are.answered;
        status_is = told.status_is ∙ (λ i. if are.none i then RefusedStatus else if are.each i then Done else Partial);
        text_is = told.text_is ∙ are.text_is;
      }

-- ---- of what is told

-- a refusal at the places of the frames of its key is one of these
abbrev IsOneFor : (SliceKey → List Where → InputName → Why → Type 0) → List Frame → (KeyRefusal → Type 0) → Type 0
IsOneFor IsRefused frames IsOne = (key : SliceKey) (places : List Where) (at : InputName) (why : Why)
    → HavePlaces frames (key_bytes key) places → IsRefused key places at why → IsOne (record { key = key; at = at; why = why })

module _ {IsSaid : SliceKey → Where → AnswerRecord → List (List FrameRecord) → Type 0}
    {IsRefused : SliceKey → List Where → InputName → Why → Type 0}
    {slices : Bool} {asked : List AskedKey} {told : List KeyAnswers}
    (are : AreTold IsSaid IsRefused slices asked told) (frames : List Frame) (of : AreKeysOf frames asked)
    (IsOne : KeyRefusal → Type 0) (to_one : IsOneFor IsRefused frames IsOne) where
  abbrev refusals : List KeyRefusal
  refusals = refusals_in told

  abbrev bytes_of : KeyRefusal → List ℕ
  bytes_of refusal = key_bytes refusal.key

  keys : AreKeysOf frames (asked_in told)
  keys = subst (AreKeysOf frames) (sym are.asked_is) of

  up : IsStrictlySortedBy (λ x y. key_cmp x.asked.now.key y.asked.now.key) told
  up = told_ascend told keys.order

  own : (one : KeyAnswers) → Contains told one → IsToldUnder IsSaid IsRefused slices one
  own one there = All-contains (IsToldUnder IsSaid IsRefused slices) told one are.are_true there

  -- ---- each refusal

  refusal_so : (refusal : KeyRefusal) → Contains refusals refusal → (slices ≡ true) × IsOne refusal
  refusal_so refusal there =
      let r = of_told told refusal there in
      let one : AskedKey = r.one.asked.now in
      let is : IsKeyReply (IsSaid one.key) (IsRefused one.key one.places.items) slices one.places.items (Refused refusal.at refusal.why) =
      subst (IsKeyReply (IsSaid one.key) (IsRefused one.key one.places.items) slices one.places.items) r.told_is (own r.one r.is_one) in
      let places = places_of frames (asked_in told) keys one (to_map (λ (k : KeyAnswers). k.asked.now) told r.one r.is_one) in (
        is.0,
        subst (λ (key : SliceKey). IsOne (record { key = key; at = refusal.at; why = refusal.why })) r.key_is
            (to_one one.key one.places.items refusal.at refusal.why places is.1),
      )

  refusal_of_frame : (refusal : KeyRefusal) → Contains refusals refusal → Contains (keys_of frames) (key_bytes refusal.key)
  refusal_of_frame refusal there =
      let r = of_told told refusal there in
      let asked_for = All-contains (λ (one : AskedKey). Contains (keys_of frames) (key_bytes one.key)) (asked_in told) r.one.asked.now
      keys.of_frames (to_map (λ (one : KeyAnswers). one.asked.now) told r.one r.is_one) in
      subst (λ (key : SliceKey). Contains (keys_of frames) (key_bytes key)) r.key_is asked_for

  -- none is, if slices are not wanted
  none_refused : slices ≡ false → refusals ≡ []
  none_refused none = by refusals refl
    where
      by : (l : List KeyRefusal) → refusals ≡ l → refusals ≡ []
      by [] is = is
      by (refusal ∷ l) is =
          let there : Contains refusals refusal = subst (λ (x : List KeyRefusal). Contains x refusal) (sym is) (in_front refusal l) in
          absurd (true≢false (sym (refusal_so refusal there).0 ∙ none))

  -- ---- each reply

  -- a frame has a reply, and this is printed of it
  record HasReply (frame : Frame) (printed : Printed) : Type 0 where
    reply : Option Answered
    replied : IsAnsweredOrRefused IsSaid refusals frame reply
    status_is : printed.status ≡ reply_status reply
    text_is : printed.text ≡ reply_text frame.address reply

  module _ (frame : Frame) (printed : Printed) (one : KeyAnswers) (number : ℕ)
      (stands : StandsAt told frame.key (asked_of frame.load frame.address) one number) where
    -- a key that is told is not refused
    not_refused : ((at : InputName) (why : Why) → one.told ≡ Refused at why → ⊥) → AreRefusing refusals (key_bytes frame.key) → ⊥
    not_refused never refusing =
        let found = in_map bytes_of refusals (key_bytes frame.key) refusing in
        let r = of_told told found.0 found.1 in
        let same : r.one ≡ one = once_told told r.one one up r.is_one stands.is_one
        (ap key_bytes r.key_is ∙ sym found.2 ∙ sym (ap key_bytes stands.key_is)) in
        never found.0.at found.0.why (sym (ap (λ (k : KeyAnswers). k.told) same) ∙ r.told_is)

    reply_so : (t : KeyReply) → one.told ≡ t → IsPrintedOf t frame.address number printed → HasReply frame printed
    reply_so (Told answers) is h =
        let key : AskedKey = one.asked.now in
        let it : IsKeyReply (IsSaid key.key) (IsRefused key.key key.places.items) slices key.places.items (Told answers) =
        subst (IsKeyReply (IsSaid key.key) (IsRefused key.key key.places.items) slices key.places.items) is (own one stands.is_one) in
        let place : Where = asked_of frame.load frame.address in
        let p = zip_get (IsPlaceTold (IsSaid key.key)) key.places.items answers.items number place h.0 it stands.place_is h.1 in
        let address_is : p.row.address ≡ frame.address = p.address_is ∙ address_asked frame.load frame.address in
        let said = subst (λ (address : ℕ). IsSaid frame.key (asked_of frame.load address) (answer_view p.row.answer) p.row.frames) (sym address_is)
        (subst (λ (key : SliceKey). IsSaid key place (answer_view p.row.answer) p.row.frames) stands.key_is p.is_said) in
        record {
          reply = Some p.row;
          replied = ((address_is, said), not_refused (λ at why refused. absurd (cc (is, refused))));
          status_is = h.2 ∙ p.status_is;
          text_is = h.3 ∙ p.text_is;
        }
    reply_so (Refused at why) is h = record {
      reply = None;
      replied = subst (λ (key : SliceKey). AreRefusing refusals (key_bytes key)) stands.key_is (to_map bytes_of refusals
          (record { key = one.asked.now.key; at = at; why = why }) (to_refusals told one at why stands.is_one is));
      status_is = h.0;
      text_is = h.1;
    }

  record AreReplies (few : List Frame) (printed : List Printed) : Type 0 where
    replies : List Reply
    replied : AllZip (IsFrameReplied IsSaid refusals) few replies
    status_is : (before : Status) → fold (λ (s : Status) (p : Printed). status_with s p.status) before printed ≡ status_with before (replies_status replies)
    text_is : flat_map (λ (p : Printed). p.text) printed ≡ replies_text replies

  replies_of : (few : List Frame) (printed : List Printed) → AllZip (IsFrameTold told) few printed → AreReplies few printed
  replies_of [] [] zip = record { replies = []; replied = tt; status_is = λ before. sym (with_done before); text_is = refl }
  replies_of [] (p ∷ printed) zip = absurd zip
  replies_of (frame ∷ few) [] zip = absurd zip
  replies_of (frame ∷ few) (p ∷ printed) (first, rest) =
      let one = reply_so frame p first.one first.number first.stands first.one.told refl first.printed_is in
      let more = replies_of few printed rest in
      let reply : Reply = record { address = frame.address; answered = one.reply } in
      record {
        replies = reply ∷ more.replies;
        replied = ((refl, one.replied), more.replied);
        status_is = λ before. more.status_is (status_with before p.status)
            ∙ with_twice before p.status (replies_status more.replies)
            ∙ ap (status_with before) (ap (λ (s : Status). status_with s (replies_status more.replies)) one.status_is
            ∙ status_first one.reply (list_any (λ (r : Reply). is_refused r.answered) more.replies)
            (list_all (λ (r : Reply). is_found r.answered) more.replies));
        text_is = (λ i. one.text_is i ++ more.text_is i);
      }

  -- ---- the status is refused exactly if a key is

  refusing_some : (key : List ℕ) → AreRefusing refusals key → refusals ≢ []
  refusing_some key refusing none =
      let nowhere = subst (λ (l : List KeyRefusal). Contains (map bytes_of l) key) none refusing in
      absurd (omega (arith, nowhere.1))

  -- a reply without an answer is one of a key that is refused
  refused_any : (few : List Frame) (replies : List Reply) → AllZip (IsFrameReplied IsSaid refusals) few replies
      → list_any (λ (r : Reply). is_refused r.answered) replies ≡ true → refusals ≢ []
  refused_any [] [] zip any = absurd (true≢false (sym any))
  refused_any [] (reply ∷ replies) zip any = absurd zip
  refused_any (frame ∷ few) [] zip any = absurd zip
  refused_any (frame ∷ few) (reply ∷ replies) (first, rest) any = by reply.answered first.1 (refused_any few replies rest) any
    where
      by : (r : Option Answered) → IsAnsweredOrRefused IsSaid refusals frame r
          → (list_any (λ (r : Reply). is_refused r.answered) replies ≡ true → refusals ≢ [])
          → (is_refused r || list_any (λ (r : Reply). is_refused r.answered) replies) ≡ true → refusals ≢ []
      by None refusing more h = refusing_some (key_bytes frame.key) refusing
      by (Some row) told more h = more h

  -- a frame of such a key has such a reply
  any_refused : (few : List Frame) (replies : List Reply) → AllZip (IsFrameReplied IsSaid refusals) few replies
      → (frame : Frame) → Contains few frame → AreRefusing refusals (key_bytes frame.key) → list_any (λ (r : Reply). is_refused r.answered) replies ≡ true
  any_refused [] replies zip frame there refusing = absurd (omega (arith, there.1))
  any_refused (first ∷ few) [] zip frame there refusing = absurd zip
  any_refused (first ∷ few) (reply ∷ replies) (one, rest) frame there refusing = elim (in_cons first few frame there) [
    | inl same ↦ here reply.answered one.1 (subst (λ (f : Frame). AreRefusing refusals (key_bytes f.key)) (sym same) refusing)
    | inr later ↦ or_right (is_refused reply.answered) (list_any (λ (r : Reply). is_refused r.answered) replies)
        (any_refused few replies rest frame later refusing)
  ]
    where
      here : (r : Option Answered) → IsAnsweredOrRefused IsSaid refusals first r → AreRefusing refusals (key_bytes first.key)
          → (is_refused r || list_any (λ (r : Reply). is_refused r.answered) replies) ≡ true
      here None told its = refl
      here (Some row) told its = absurd (told.1 its)

  status_so : (replies : List Reply) → AllZip (IsFrameReplied IsSaid refusals) frames replies
      → (replies_status replies ≡ RefusedStatus) ↔ (refusals ≢ [])
  status_so replies zip = (λ is. refused_any frames replies zip (any_of is), λ some. status_of (any_if some))
    where
      any : Bool
      any = list_any (λ (r : Reply). is_refused r.answered) replies

      any_of : replies_status replies ≡ RefusedStatus → any ≡ true
      any_of is = by any (list_all (λ (r : Reply). is_found r.answered) replies) is
        where
          by : (a e : Bool) → (if a then RefusedStatus else if e then Done else Partial) ≡ RefusedStatus → a ≡ true
          by true e is = refl
          by false true is = absurd (cc is)
          by false false is = absurd (cc is)

      status_of : any ≡ true → replies_status replies ≡ RefusedStatus
      status_of is = ap (λ (a : Bool). if a then RefusedStatus else if list_all (λ (r : Reply). is_found r.answered) replies then Done else Partial) is

      any_if : refusals ≢ [] → any ≡ true
      any_if some = by refusals refl
        where
          by : (l : List KeyRefusal) → refusals ≡ l → any ≡ true
          by [] is = absurd (some is)
          by (refusal ∷ l) is =
              let there : Contains refusals refusal = subst (λ (x : List KeyRefusal). Contains x refusal) (sym is) (in_front refusal l) in
              let frame = in_map (λ (f : Frame). key_bytes f.key) frames (key_bytes refusal.key) (refusal_of_frame refusal there) in
              any_refused frames replies zip frame.0 frame.1 (subst (AreRefusing refusals) frame.2 (to_map bytes_of refusals refusal there))

  besides : (status : Status) (text : List ℕ) → ShowsFrames told frames status text
      → TellFramesBesides IsSaid IsOne frames refusals status text
  besides status text shown =
      let are_replies = replies_of frames shown.printed shown.each in
      let status_is : status ≡ replies_status are_replies.replies = shown.status_is ∙ are_replies.status_is Done in
      record {
        replies = are_replies.replies;
        replied = are_replies.replied;
        ascending = refusals_ascend told up;
        of_frames = λ k d lt. refusal_of_frame (get_or refusals k d) (Contains-get_or refusals k d lt);
        refused = λ k d lt. (refusal_so (get_or refusals k d) (Contains-get_or refusals k d lt)).1;
        status_is = status_is;
        status_refused = let so = status_so are_replies.replies are_replies.replied in (λ is. so.0 (sym status_is ∙ is), λ some. status_is ∙ so.1 some);
        text_is = shown.text_is ∙ are_replies.text_is;
      }

-- what is shown of frames is true of them
pub part_told : {IsSaid : SliceKey → Where → AnswerRecord → List (List FrameRecord) → Type 0}
    {IsRefused : SliceKey → List Where → InputName → Why → Type 0}
    (slices : Bool) {asked : List AskedKey} {told : List KeyAnswers} → AreTold IsSaid IsRefused slices asked told
    → (frames : List Frame) → AreKeysOf frames asked → (IsOne : KeyRefusal → Type 0) → IsOneFor IsRefused frames IsOne
    → (status : Status) (text refused : List ℕ) → ShowsFrames told frames status text → refused ≡ refusal_lines (refusals_in told)
    → TellFramesPart slices IsSaid IsOne frames status text refused
part_told {IsSaid} {IsRefused} false {told = told} are frames of IsOne to status text refused shown is =
    answers_alone IsSaid (refusals_in told) IsOne frames status text (none_refused are frames of IsOne to refl)
    (besides are frames of IsOne to status text shown)
part_told true {told = told} are frames of IsOne to status text refused shown is =
    (refusals_in told, besides are frames of IsOne to status text shown, is)

-- and so it is of what records tell, by which no key is refused
pub records_tell : (lines : Bool) (o : Operations) (frames : List Frame) (asked : List AskedKey) (told : List KeyAnswers) (status : Status) (text : List ℕ)
    → AreKeysOf frames asked → AreTold (λ key. IsAnswerWithFrames o key lines) NoneRefused false asked told
    → ShowsFrames told frames status text → TellsFrames lines o frames status text
records_tell lines o frames asked told status text of are shown =
    part_told false are frames of (λ refusal. ⊥) (λ key places at why has none. none) status text (refusal_lines (refusals_in told)) shown refl
