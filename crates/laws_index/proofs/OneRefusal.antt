-- Two calls by the indexes of the same contents refuse one of them, for one reason.
use Rattle.std.proofs.Common.{◌≡◌, ◌⊎◌, ℕ, ◌<◌, Bool, true, false, List, [], ◌∷◌, ◌++◌, Contains, Some, refl, sym, ap, ◌∙◌, subst}
use Rattle.std.proofs.Common.{arith, drop, inl, inr}
use Rattle.std.specs.Prelude.{slice_get}
use Rattle.std.specs.Cmp.{tied_itself}
use Rattle.std.specs.Cmp.Lexicographic.{nat_list_cmp_total, slice_cmp}
use Rattle.std.specs.List.{AllPairs, AllZip}
use Rattle.std.specs.Ordering.{nat_cmp, ordering_reverse}
use Rattle.std.specs.declared.cmp.Ordering.{Ordering}
use Rattle.std.specs.declared.cmp.Ordering.TheVariants.{Less, Equal, Greater}
use Rattle.std.proofs.lemmas.List.Elements.{All-contains, Contains-append_cases, Contains-append_right}
use Rattle.table_checked_pages.proofs.PageLemmas.{may_be}
use Rattle.table_source_frames.specs.OfBytes.{HaveNoLines}
use Rattle.table_source_frames.specs.SliceTable.{IsSliceTable}
use Rattle.dwarf_source_frames.specs.Frames.{FrameRecord}
use Rattle.archive_core.specs.Content.{Operations}
use Rattle.archive_core.specs.Key.{IsKey, key_bytes}
use Rattle.archive_core.specs.Lookup.{AnswerRecord}
use Rattle.archive_core.specs.Record.{admission_record}
use Rattle.archive_core.specs.declared.keys.SliceKey.{SliceKey}
use Rattle.archive_core.specs.declared.lookup.Where.{Where}
use Rattle.archive_core.proofs.Entries.{slice_of}
use Rattle.archive_core.proofs.Made.{bytes_same}
use Rattle.archive_core.proofs.Members.{in_cons, in_front, in_map}
use Rattle.archive_records.proofs.Contents.{order}
use Rattle.text_input_files.specs.declared.frame.Frame.{Frame}
use Rattle.index_format.specs.Entry.{claim_in}
use Rattle.index_format.specs.Text.{IsIndexText}
use Rattle.index_format.proofs.Faults.{one_list}
use Rattle.index_build.specs.Content.{IsIndexOf}
use Rattle.index_lookup.specs.Among.{AreAnsweringAmong, AreTied, EntryAt, IsAmong, StandsBefore, all_of, answers_among}
use Rattle.index_lookup.specs.AmongAsked.{IsLinelessAt, TellBefore}
use Rattle.index_lookup.specs.AmongTold.{AreFramesToldAt, IsAnswerAmong}
use Rattle.index_lookup.specs.Contents.{IsSliceOf}
use Rattle.index_lookup.specs.Told.{AreFramesToldBy, HasNoLinesBy}
use Rattle.index_lookup.specs.Views.{IsColumnAt, frame_lists}
use Rattle.index_lookup.specs.declared.answers.EntryAnswers.{EntryAnswers}
use Rattle.index_lookup.proofs.Lists.{pairs_head, pairs_tail}
use Rattle.command_common.specs.Inputs.{IsDeviceFault, Reader}
use Rattle.command_common.specs.declared.faults.InputName.{InputName}
use Rattle.command_common.specs.declared.faults.InputName.TheVariants.{Index}
use Rattle.command_common.specs.declared.faults.Why.{Why}
use Rattle.command_common.specs.declared.faults.Why.TheVariants.{NoLines}
use Rattle.command_queries.specs.Frames.{frame_keys}
use Rattle.command_queries.specs.Symbolicate.{asked_of}
use Rattle.command_frames.specs.Asking.{AreAskedUuids, AreGiven, AreRefusedAsking, AreUntold, HavePlaces, IsAnsweredAt, IsTableRefused, keys_of}
use Rattle.laws_index.specs.Contents.{AreOwnIndexes}
use Rattle.laws_index.specs.Indexes.{AreIndexes, DigestsDiffer, IsIndexFile}
use Rattle.laws_index.proofs.Accepted.{first_by_device, later_by_device}
use Rattle.laws_index.proofs.Among.{IsOfSlice}
use Rattle.laws_index.proofs.ByTables.{IsAskedKey, asked_bytes, asked_frame, own_given, parts_are, texts_of, untold_table}
use Rattle.laws_index.proofs.Parts.{AreParts, answering_whole, tied_whole, told_whole}
use Rattle.laws_index.proofs.IndexesAreRight as right
use Rattle.laws_index.proofs.IndexesAreRight.{IsAnsweringSlice, zip_left}

-- ---- lists in order

-- an element stands before those after it
before_after : {X : Type 0} (R : X → X → Type 0) (before : List X) (x : X) (after : List X) (y : X) → AllPairs R (before ++ x ∷ after)
    → Contains after y → R x y
before_after R [] x after y pairs there = All-contains (R x) after y (pairs_head R x after pairs) there
before_after R (first ∷ before) x after y pairs there =
    before_after R before x after y (pairs_tail R first (before ++ x ∷ after) pairs) there

-- an element is one of those before another, this, or one of those after it
in_parts : {X : Type 0} (before : List X) (x : X) (after : List X) (y : X) → Contains (before ++ x ∷ after) y
    → Contains before y ⊎ ((x ≡ y) ⊎ Contains after y)
in_parts before x after y there = elim (Contains-append_cases before (x ∷ after) y there) [
  | inl sooner ↦ inl sooner
  | inr rest ↦ inr (in_cons x after y rest)
]

-- what is related to one at most is one
zip_one : {X Y : Type 0} (R : X → Y → Type 0) (xs : List X) (ys zs : List Y) → ((x : X) (y z : Y) → R x y → R x z → y ≡ z)
    → AllZip R xs ys → AllZip R xs zs → ys ≡ zs
zip_one R [] [] [] one a b = refl
zip_one R [] [] (z ∷ zs) one a b = absurd b
zip_one R [] (y ∷ ys) zs one a b = absurd a
zip_one R (x ∷ xs) [] zs one a b = absurd a
zip_one R (x ∷ xs) (y ∷ ys) [] one a b = absurd b
zip_one R (x ∷ xs) (y ∷ ys) (z ∷ zs) one a b = (λ i. one x y z a.0 b.0 i ∷ zip_one R xs ys zs one a.1 b.1 i)

-- two byte strings are not each before the other
not_both : (a b : List ℕ) → slice_cmp nat_cmp a b ≡ Less → slice_cmp nat_cmp b a ≡ Less → ⊥
not_both a b less also =
    let high : Less ≡ ordering_reverse Less = sym less ∙ nat_list_cmp_total.antisymm a b ∙ ap ordering_reverse also in
    absurd (cc high)

-- ---- where a call stopped

-- The table of an entry has no lines, and the tables of those before it have the frames of these places.
record IsStop (texts : List (List ℕ)) (indexes : List (List (List ℕ))) (prefix : List ℕ) (places : List Where) (answering : List EntryAt) : Type 0 where
  x : EntryAt
  are : AreAnsweringAmong prefix indexes answering
  before : List EntryAt
  after : List EntryAt
  parts : answering ≡ before ++ x ∷ after
  columns : List EntryAnswers
  told : AllZip (IsColumnAt texts true places) before columns
  text : List ℕ
  text_is : slice_get texts x.input ≡ Some text
  lacks : HasNoLinesBy text (claim_in x.entry)

stop_of : (texts : List (List ℕ)) (indexes : List (List (List ℕ))) (prefix : List ℕ) (places : List Where) (answering : List EntryAt) (input number : ℕ)
    → AreAnsweringAmong prefix indexes answering → IsLinelessAt texts answering input number → TellBefore texts true places answering input number
    → (s : IsStop texts indexes prefix places answering) × (s.x.input ≡ input) × (s.x.number ≡ number)
stop_of texts indexes prefix places answering input number are lacks first =
    let y : EntryAt = record { input = input; number = number; entry = first.entry } in
    let there : Contains answering y =
    subst (λ (l : List EntryAt). Contains l y) (sym first.order) (Contains-append_right first.before (y ∷ first.after) y (in_front y first.after)) in
    let a = All-contains (IsAmong indexes) answering y are.among there in
    let b = All-contains (IsAmong indexes) answering (record { input = input; number = number; entry = lacks.entry }) are.among lacks.answers in
    let entries : a.entries ≡ b.entries = cc (a.index_is, b.index_is) in
    let same : first.entry ≡ lacks.entry = cc (a.entry_is, b.entry_is, entries) in (
      record {
        x = record { input = input; number = number; entry = lacks.entry };
        are = are;
        before = first.before;
        after = first.after;
        parts = first.order ∙ ap (λ (e : List ℕ). first.before ++ record { input = input; number = number; entry = e } ∷ first.after) same;
        columns = first.columns;
        told = first.told;
        text = lacks.text;
        text_is = lacks.text_is;
        lacks = lacks.lacks;
      },
      refl,
      refl,
    )

-- ---- under a key

module _ (one_table : (image bytes others : List ℕ) → IsSliceTable image bytes → IsSliceTable image others → bytes ≡ others)
    (os : List Operations) (texts : List (List ℕ)) (indexes : List (List (List ℕ))) (all : AreIndexes os texts indexes)
    (tell : DigestsDiffer os) (key : SliceKey) (is_key : IsKey key) where
  abbrev Of : EntryAt → List ℕ → Type 0
  Of x slice = IsOfSlice os texts indexes x slice

  abbrev Answers : EntryAt → Type 0
  Answers x = answers_among (key_bytes key) (all_of indexes) x.entry ≡ true

  abbrev Stop : List Where → List EntryAt → Type 0
  Stop places answering = IsStop texts indexes (key_bytes key) places answering

  among_of : (answering : List EntryAt) → AreAnsweringAmong (key_bytes key) indexes answering → (x : EntryAt) → Contains answering x → IsAmong indexes x
  among_of answering are x there = All-contains (IsAmong indexes) answering x are.among there

  answers_of : (answering : List EntryAt) → AreAnsweringAmong (key_bytes key) indexes answering → (x : EntryAt) → Contains answering x → Answers x
  answers_of answering are x there = All-contains Answers answering x are.each there

  slice_for : (answering : List EntryAt) → AreAnsweringAmong (key_bytes key) indexes answering → (x : EntryAt) → Contains answering x
      → (slice : List ℕ) × IsAnsweringSlice os texts indexes key x slice
  slice_for answering are x there =
      right.slice_at os texts indexes all key is_key x (among_of answering are x there) (answers_of answering are x there)

  middle : (places : List Where) (answering : List EntryAt) (s : Stop places answering) → Contains answering s.x
  middle places answering s =
      subst (λ (l : List EntryAt). Contains l s.x) (sym s.parts) (Contains-append_right s.before (s.x ∷ s.after) s.x (in_front s.x s.after))

  -- a slice whose table has no lines has no frames by another entry
  no_frames : (x y : EntryAt) (slice text other : List ℕ) (asked : Where) (frames : List FrameRecord) → Of x slice → Of y slice
      → slice_get texts x.input ≡ Some text → HasNoLinesBy text (claim_in x.entry) → slice_get texts y.input ≡ Some other
      → AreFramesToldBy other (claim_in y.entry) asked frames → ⊥
  no_frames x y slice text other asked frames of_x of_y text_is lacks other_is has =
      let same : of_x.of.text ≡ text = cc (of_x.of.file.text_at, text_is) in
      let also : of_y.of.text ≡ other = cc (of_y.of.file.text_at, other_is) in
      let a : IsSliceOf text slice x.entry = subst (λ (t : List ℕ). IsSliceOf t slice x.entry) same of_x.is.is in
      let b : IsSliceOf other slice y.entry = subst (λ (t : List ℕ). IsSliceOf t slice y.entry) also of_y.is.is in
      let none : HaveNoLines b.table = subst HaveNoLines (one_table slice a.table b.table a.is_table b.is_table)
      (lacks.of_bytes a.table (may_be text a.table (claim_in x.entry) a.stored)) in
      let some = has.of_bytes b.table (may_be other b.table (claim_in y.entry) b.stored) in
      some.is_table.some none.none.none

  -- an entry that answers, or that of an earlier index for it, is among those of another list
  record IsHere (answering : List EntryAt) (x : EntryAt) (slice : List ℕ) : Type 0 where
    z : EntryAt
    there : Contains answering z
    of : Of z slice
    is : (z ≡ x) ⊎ (z.input < x.input)

  here : (answering : List EntryAt) → AreAnsweringAmong (key_bytes key) indexes answering → (x : EntryAt) (slice : List ℕ) → IsAmong indexes x
      → Answers x → Of x slice → IsHere answering x slice
  here answering are x slice among answers of = elim (are.whole x among answers) [
    | inl there ↦ record { z = x; there = there; of = of; is = inl refl }
    | inr repeat ↦
        let s = slice_for answering are repeat.0 repeat.1 in
        let same : slice ≡ s.0 = right.one_of_two os texts indexes all key is_key x repeat.0 slice s.0 tell of s.1.of repeat.2 in
        record {
          z = repeat.0;
          there = repeat.1;
          of = subst (λ (t : List ℕ). Of repeat.0 t) (sym same) s.1.of;
          is = inr repeat.2.earlier;
        }
  ]

  -- where a call stopped no other has the frames
  unanswered : (places : List Where) (answering : List EntryAt) → Stop places answering → (asked : Where) (answer : AnswerRecord)
      (frames : List (List FrameRecord)) → IsAnswerAmong texts indexes (key_bytes key) true asked answer frames → ⊥
  unanswered places answering s asked answer frames is =
      let there = middle places answering s in
      let slice = slice_for answering s.are s.x there in
      let h = here is.answering is.are s.x slice.0 (among_of answering s.are s.x there) (answers_of answering s.are s.x there) slice.1.of in
      let shown = zip_left (AreFramesToldAt texts asked) is.answering frames h.z is.shown h.there in
      no_frames s.x h.z slice.0 s.text h.of.of.text asked shown.0 slice.1.of h.of s.text_is s.lacks h.of.of.file.text_at
      (shown.2 h.of.of.text h.of.of.file.text_at)

  -- an entry of this slice is where the call stopped, or after it
  record IsFrom (places : List Where) (answering : List EntryAt) (s : Stop places answering) (x : EntryAt) (slice : List ℕ) : Type 0 where
    z : EntryAt
    there : Contains answering z
    of : Of z slice
    is : (z ≡ x) ⊎ (z.input < x.input)
    from : (s.x ≡ z) ⊎ Contains s.after z

  from_stop : (places others : List Where) (place : Where) → Contains places place → (answering also : List EntryAt)
      (s : Stop places answering) (t : Stop others also) (slice : List ℕ) → Of t.x slice → IsFrom places answering s t.x slice
  from_stop places others place has answering also s t slice of =
      let there = middle others also t in
      let h = here answering s.are t.x slice (among_of also t.are t.x there) (answers_of also t.are t.x there) of in
      elim (in_parts s.before s.x s.after h.z (subst (λ (l : List EntryAt). Contains l h.z) s.parts h.there)) [
        | inl sooner ↦
            let column = zip_left (IsColumnAt texts true places) s.before s.columns h.z s.told sooner in
            let lists = column.2.frames refl h.of.of.text h.of.of.file.text_at in
            let frames = zip_left (AreFramesToldBy h.of.of.text (claim_in h.z.entry)) places (frame_lists column.0) place lists has in
            absurd (no_frames t.x h.z slice t.text h.of.of.text place frames.0 of h.of t.text_is t.lacks h.of.of.file.text_at frames.2)
        | inr rest ↦ record { z = h.z; there = h.there; of = h.of; is = h.is; from = rest }
      ]

  -- one slice, or that of the stop comes first
  in_order : (places : List Where) (answering : List EntryAt) (s : Stop places answering) (x : EntryAt) (one slice : List ℕ)
      → IsAnsweringSlice os texts indexes key s.x one → IsFrom places answering s x slice
      → (one ≡ slice) ⊎ (order (admission_record one) (admission_record slice) ≡ Less)
  in_order places answering s x one slice is f = elim f.from [
    | inl same ↦
        let of : Of s.x slice = subst (λ (z : EntryAt). Of z slice) (sym same) f.of in
        let records = right.one_record os texts indexes s.x (admission_record one) (admission_record slice) is.of.of of.of in
        inl (sym (slice_of one is.of.is.valid) ∙ ap (drop 33) records ∙ slice_of slice of.is.valid)
    | inr later ↦
        let stands = before_after StandsBefore s.before s.x s.after f.z (subst (AllPairs StandsBefore) s.parts s.are.ordered) later in
        let its = slice_for answering s.are f.z f.there in
        let less = right.before os texts indexes key s.x f.z one its.0 is its.1 stands in
        let records = right.one_record os texts indexes f.z (admission_record its.0) (admission_record slice) its.1.of.of f.of.of in
        inr (subst (λ (r : List ℕ). order (admission_record one) r ≡ Less) records less)
  ]

  -- it is where the call stopped, if it is of its slice
  at_stop : (places : List Where) (answering : List EntryAt) (s : Stop places answering) (x : EntryAt) (one slice : List ℕ)
      → IsAnsweringSlice os texts indexes key s.x one → one ≡ slice → (f : IsFrom places answering s x slice) → s.x ≡ f.z
  at_stop places answering s x one slice is same f = elim f.from [
    | inl at ↦ at
    | inr later ↦
        let stands = before_after StandsBefore s.before s.x s.after f.z (subst (AllPairs StandsBefore) s.parts s.are.ordered) later in
        let its = slice_for answering s.are f.z f.there in
        let less = right.before os texts indexes key s.x f.z one its.0 is its.1 stands in
        let records = right.one_record os texts indexes f.z (admission_record its.0) (admission_record slice) its.1.of.of f.of.of in
        let itself : order (admission_record one) (admission_record one) ≡ Less =
        subst (λ (r : List ℕ). order (admission_record one) r ≡ Less) (records ∙ ap admission_record (sym same)) less in
        absurd (cc (itself, tied_itself nat_list_cmp_total (admission_record one)))
  ]

  -- two calls stop at one entry
  one_stop : (places others : List Where) (place other : Where) → Contains places place → Contains others other
      → (answering also : List EntryAt) (s : Stop places answering) (t : Stop others also) → s.x ≡ t.x
  one_stop places others place other has too answering also s t =
      let a = slice_for answering s.are s.x (middle places answering s) in
      let b = slice_for also t.are t.x (middle others also t) in
      let f = from_stop places others place has answering also s t b.0 b.1.of in
      let g = from_stop others places other too also answering t s a.0 a.1.of in
      let same : a.0 ≡ b.0 = elim (in_order places answering s t.x a.0 b.0 a.1 f) [
        | inl e ↦ e
        | inr less ↦ elim (in_order others also t s.x b.0 a.0 b.1 g) [
          | inl e ↦ sym e
          | inr more ↦ absurd (not_both (admission_record a.0) (admission_record b.0) less more)
        ]
      ] in
      let one = at_stop places answering s t.x a.0 b.0 a.1 same f in
      let two = at_stop others also t s.x b.0 a.0 b.1 (sym same) g in
      elim f.is [
        | inl is ↦ one ∙ is
        | inr lower ↦ elim g.is [
          | inl is ↦ sym (two ∙ is)
          | inr higher ↦ absurd (omega (arith, lower, higher, ap (λ (x : EntryAt). x.input) one, ap (λ (x : EntryAt). x.input) two))
        ]
      ]

-- ---- calls

-- A call is refused for lines under the key of a frame, after the frames of lower keys were answered or tied.
record IsLinelessCall (frames : List Frame) (texts : List (List ℕ)) (all : List (List (List ℕ))) (at : InputName) (why : Why) : Type 0 where
  key : List ℕ
  key_is : Contains (keys_of frames) key
  places : List Where
  of_frames : HavePlaces frames key places
  answering : List EntryAt
  are : AreAnsweringAmong key all answering
  input : ℕ
  number : ℕ
  at_is : at ≡ Index input
  why_is : why ≡ NoLines number
  lacks : IsLinelessAt texts answering input number
  first : TellBefore texts true places answering input number
  below : (frame : Frame) → Contains frames frame → slice_cmp nat_cmp (key_bytes frame.key) key ≡ Less
      → ((answer : AnswerRecord) × (shown : List (List FrameRecord))
      × IsAnswerAmong texts all (key_bytes frame.key) true (asked_of frame.load frame.address) answer shown) ⊎ AreTied (key_bytes frame.key) all

-- the same, by the entries of the indexes
record IsLinelessOf (frames : List Frame) (texts : List (List ℕ)) (at : InputName) (why : Why) : Type 0 where
  all : List (List (List ℕ))
  read : AllZip IsIndexText texts all
  call : IsLinelessCall frames texts all at why

module _ {I P : Type 0} (inputs : List (Reader I)) (archives : List (Reader P)) (os : List Operations) (lines slices : Bool)
    (frames : List Frame) (at : InputName) (why : Why) (are : AreOwnIndexes inputs archives os) (known : IsDeviceFault why → ⊥)
    (texts : List (List ℕ)) (given : AreGiven inputs texts) (files : AllZip IsIndexFile os texts) where
  lineless_untold : (keys : List SliceKey) (uuids : List (List ℕ)) → AreAskedUuids (keys ++ frame_keys frames) uuids
      → AreUntold lines slices uuids frames inputs archives at why → IsLinelessOf frames texts at why
  lineless_untold keys uuids asks u = by slices refl u.untold.untold
    where
      p : AreParts uuids os texts u.all
      p = parts_are uuids inputs archives u.all u.read os texts given files

      is_asked : (frame : Frame) → Contains frames frame → IsAskedKey uuids (key_bytes frame.key)
      is_asked frame there = asked_frame keys frames uuids asks frame there

      own : IsAskedKey uuids u.untold.key
      own = asked_bytes keys frames uuids asks u.untold.key u.untold.key_is

      answers : AreAnsweringAmong u.untold.key p.whole u.untold.answering
      answers = answering_whole uuids u.untold.key own.short own.under p.whole u.all p.parts u.untold.answering u.untold.are

      answered : (frame : Frame) (key : SliceKey) (answer : AnswerRecord) (shown : List (List FrameRecord)) → Contains frames frame → lines ≡ true
          → key_bytes key ≡ key_bytes frame.key
          → IsAnsweredAt (AreGiven inputs) archives u.all lines key (asked_of frame.load frame.address) answer shown
          → ((answer : AnswerRecord) × (shown : List (List FrameRecord))
          × IsAnswerAmong texts p.whole (key_bytes frame.key) true (asked_of frame.load frame.address) answer shown)
          ⊎ AreTied (key_bytes frame.key) p.whole
      answered frame key answer shown there wanted same (inl is) =
          let asked = is_asked frame there in
          inl (
            answer,
            shown,
            told_whole uuids (key_bytes frame.key) asked.short asked.under p.whole u.all p.parts texts true (asked_of frame.load frame.address) answer shown
                (subst (λ (l : Bool). IsAnswerAmong texts u.all (key_bytes frame.key) l (asked_of frame.load frame.address) answer shown) wanted
                (subst (λ (b : List ℕ). IsAnswerAmong texts u.all b lines (asked_of frame.load frame.address) answer shown) same (is.answer_is texts given))),
          )
      answered frame key answer shown there wanted same (inr is) =
          let asked = is_asked frame there in
          inr (tied_whole uuids (key_bytes frame.key) asked.short asked.under p.whole u.all p.parts
          (subst (λ (b : List ℕ). AreTied b u.all) same is.tied))

      by : (wanted : Bool) → slices ≡ wanted → IsTableRefused lines wanted inputs u.untold.places u.untold.answering at why
          → IsLinelessOf frames texts at why
      by true is unread = absurd (known (untold_table frames inputs archives at why inputs u.untold.answering unread))
      by false is (inl changed) = absurd (right.none_damaged os texts p.whole p.indexes u.untold.key u.untold.answering changed.input
          changed.number answers (changed.changed texts given))
      by false is (inr (inr unread)) = absurd (known (untold_table frames inputs archives at why inputs u.untold.answering unread))
      by false is (inr (inl lacking)) = record {
        all = p.whole;
        read = p.indexes.read;
        call = record {
          key = u.untold.key;
          key_is = u.untold.key_is;
          places = u.untold.places;
          of_frames = u.of_frames;
          answering = u.untold.answering;
          are = answers;
          input = lacking.input;
          number = lacking.number;
          at_is = lacking.at_is;
          why_is = lacking.why_is;
          lacks = lacking.lacks texts given;
          first = subst (λ (l : Bool). TellBefore texts l u.untold.places u.untold.answering lacking.input lacking.number) lacking.wanted
              (lacking.first texts given);
          below = λ frame there less.
              let has = u.before is frame there less in
              answered frame has.key has.answer has.frames there lacking.wanted has.key_is has.answered;
        };
      }

  lineless_call : AreRefusedAsking lines slices frames inputs archives at why → IsLinelessOf frames texts at why
  lineless_call (keys, uuids, asks, inl first) = absurd (known (first_by_device uuids (keys_of frames) inputs archives os at why are first))
  lineless_call (keys, uuids, asks, inr (inl unread)) =
      let asked = asked_bytes keys frames uuids asks unread.key unread.key_is in
      absurd (known (later_by_device uuids (unread.key ∷ []) inputs archives os at why are (asked.some, tt) unread.refused))
  lineless_call (keys, uuids, asks, inr (inr untold)) = lineless_untold keys uuids asks untold

module _ (one_table : (image bytes others : List ℕ) → IsSliceTable image bytes → IsSliceTable image others → bytes ≡ others)
    (os : List Operations) (tell : DigestsDiffer os) (frames : List Frame) (keyed : (frame : Frame) → Contains frames frame → IsKey frame.key)
    (texts : List (List ℕ)) (files : AllZip IsIndexFile os texts) (all : List (List (List ℕ))) (read : AllZip IsIndexText texts all) where
  indexes : AreIndexes os texts all
  indexes = record { files = files; read = read }

  -- a frame of the key of a call
  frame_of : (at : InputName) (why : Why) (c : IsLinelessCall frames texts all at why) → (frame : Frame) × Contains frames frame
      × (c.key ≡ key_bytes frame.key)
  frame_of at why c = in_map (λ (frame : Frame). key_bytes frame.key) frames c.key c.key_is

  -- where it stopped
  stop_at : (at : InputName) (why : Why) (c : IsLinelessCall frames texts all at why) (key : SliceKey) → c.key ≡ key_bytes key
      → (s : IsStop texts all (key_bytes key) c.places c.answering) × (s.x.input ≡ c.input) × (s.x.number ≡ c.number)
  stop_at at why c key is = stop_of texts all (key_bytes key) c.places c.answering c.input c.number
      (subst (λ (k : List ℕ). AreAnsweringAmong k all c.answering) is c.are) c.lacks c.first

  -- none is refused under a lower key
  not_lower : (at other : InputName) (why another : Why) (c : IsLinelessCall frames texts all at why)
      (d : IsLinelessCall frames texts all other another) → slice_cmp nat_cmp c.key d.key ≡ Less → ⊥
  not_lower at other why another c d less =
      let f = frame_of at why c in
      let lower : slice_cmp nat_cmp (key_bytes f.0.key) d.key ≡ Less = subst (λ (k : List ℕ). slice_cmp nat_cmp k d.key ≡ Less) f.2 less in
      let s = stop_at at why c f.0.key f.2 in
      elim (d.below f.0 f.1 lower) [
        | inl told ↦ unanswered one_table os texts all indexes tell f.0.key (keyed f.0 f.1) c.places c.answering s.0
            (asked_of f.0.load f.0.address) told.0 told.1 told.2
        | inr tied ↦ s.0.are.untied tied
      ]

  one_input : (at other : InputName) (why another : Why) → IsLinelessCall frames texts all at why → IsLinelessCall frames texts all other another
      → (at ≡ other) × (why ≡ another)
  one_input at other why another c d = by (slice_cmp nat_cmp c.key d.key) refl
    where
      by : (o : Ordering) → slice_cmp nat_cmp c.key d.key ≡ o → (at ≡ other) × (why ≡ another)
      by Less is = absurd (not_lower at other why another c d is)
      by Greater is = absurd (not_lower other at another why d c (nat_list_cmp_total.antisymm d.key c.key ∙ ap ordering_reverse is))
      by Equal is =
          let same : c.key ≡ d.key = bytes_same c.key d.key is in
          let f = frame_of at why c in
          let s = stop_at at why c f.0.key f.2 in
          let t = stop_at other another d f.0.key (sym same ∙ f.2) in
          let place : Where = asked_of f.0.load f.0.address in
          let one = one_stop one_table os texts all indexes tell f.0.key (keyed f.0 f.1) c.places d.places place place
          (c.of_frames.whole f.0 f.1 (sym f.2)) (d.of_frames.whole f.0 f.1 (sym f.2 ∙ same)) c.answering d.answering s.0 t.0 in
          let input : c.input ≡ d.input = sym s.1 ∙ ap (λ (x : EntryAt). x.input) one ∙ t.1 in
          let number : c.number ≡ d.number = sym s.2 ∙ ap (λ (x : EntryAt). x.number) one ∙ t.2 in
          (c.at_is ∙ ap Index input ∙ sym d.at_is, c.why_is ∙ ap NoLines number ∙ sym d.why_is)

pub one_refusal : {I J P Q : Type 0} → ((o : Operations) (text other : List ℕ) → IsIndexOf o text → IsIndexOf o other → text ≡ other)
    → ((image bytes others : List ℕ) → IsSliceTable image bytes → IsSliceTable image others → bytes ≡ others)
    → (inputs : List (Reader I)) (archives : List (Reader P)) (others : List (Reader J)) (more : List (Reader Q)) (os : List Operations)
    → DigestsDiffer os → (lines slices : Bool) (frames : List Frame) → ((frame : Frame) → Contains frames frame → IsKey frame.key)
    → (at other : InputName) (why another : Why) → AreOwnIndexes inputs archives os → AreOwnIndexes others more os
    → AreRefusedAsking lines slices frames inputs archives at why → AreRefusedAsking lines slices frames others more other another
    → (IsDeviceFault why → ⊥) → (IsDeviceFault another → ⊥) → (at ≡ other) × (why ≡ another)
one_refusal one_index one_table inputs archives others more os tell lines slices frames keyed at other why another are also refused too known seen =
    let t = texts_of inputs os (own_given inputs archives os are) in
    let u = texts_of others os (own_given others more os also) in
    let same : u.texts ≡ t.texts = zip_one IsIndexFile os u.texts t.texts (λ o a b x y. one_index o a b x.index y.index) u.files t.files in
    let given : AreGiven others t.texts = subst (λ (l : List (List ℕ)). AreGiven others l) same u.given in
    let c = lineless_call inputs archives os lines slices frames at why are known t.texts t.given t.files refused in
    let d = lineless_call others more os lines slices frames other another also seen t.texts given t.files too in
    let lists : d.all ≡ c.all = zip_one IsIndexText t.texts d.all c.all (λ text a b x y. one_list text a b x y) d.read c.read in
    one_input one_table os tell frames keyed t.texts t.files c.all c.read at other why another c.call
    (subst (λ (l : List (List (List ℕ))). IsLinelessCall frames t.texts l other another) lists d.call)
