-- What is asked of tables and of slices, told by them and shown of it.
use Rattle.std.proofs.Common.{◌≡◌, ℕ, zero, suc, ◌+◌, ◌<◌, Bool, true, false, List, [], ◌∷◌, ◌++◌, length, take, map}
use Rattle.std.proofs.Common.{get_or, Option, Some, None, refl, sym, ap, ◌∙◌, subst, arith, inl, inr, Ok, Err}
use Rattle.std.specs.Prelude.{slice_get, MatchOption}
use Rattle.std.specs.List.{AllByRecursion, AllZip, Contains, cons_option}
use Rattle.std.specs.List.Sorted.{IsStrictlySortedBy}
use Rattle.std.specs.Option.{option_to_list}
use Rattle.std.specs.declared.cmp.Ordering.TheVariants.{Less}
use Rattle.std.proofs.lemmas.Grind.{flat_map-append}
use Rattle.std.proofs.lemmas.List.{flat_map_more, take_more}
use Rattle.std.proofs.lemmas.List.Elements.{All-weaker, filter_map-append}
use Rattle.std.proofs.lemmas.List.Sums.{fold-append}
use Rattle.std.proofs.lemmas.Option.{get_or_from_slice_get, slice_get_within}
use Rattle.std.proofs.lemmas.Slice.Zip.{AllZip-long}
use Rattle.archive_core.specs.Key.{key_bytes}
use Rattle.archive_core.specs.Lookup.{AnswerRecord}
use Rattle.archive_core.specs.declared.keys.SliceKey.{SliceKey}
use Rattle.archive_core.specs.declared.lookup.Where.{Where}
use Rattle.archive_core.proofs.Members.{in_cons, in_front, in_rest}
use Rattle.dwarf_source_frames.specs.Frames.{FrameRecord}
use Rattle.text_input_files.specs.declared.frame.Frame.{Frame}
use Rattle.command_common.specs.declared.faults.InputName.{InputName}
use Rattle.command_common.specs.declared.faults.InputName.TheVariants.{Index}
use Rattle.command_common.specs.declared.faults.Status.{Status}
use Rattle.command_common.specs.declared.faults.Why.{Why}
use Rattle.command_common.specs.declared.faults.Why.TheVariants as why
use Rattle.command_common.proofs.Readers.{pairs_more}
use Rattle.command_common.specs.Inputs.{AreRead, ReadsInputs}
use Rattle.command_common.specs.declared.faults.CommandFault.TheVariants.{Input}
use Rattle.command_queries.specs.Places.{IsPlaceTold}
use Rattle.command_queries.specs.Symbolicate.{asked_of}
use Rattle.command_queries.specs.declared.places.PlaceAnswer.{PlaceAnswer}
use Rattle.index_lookup.proofs.Columns.{zip_as}
use Rattle.index_lookup.specs.declared.answers.Answers.{Answers}
use Rattle.index_lookup.specs.Among.{AreAnsweringAmong, AreTied, EntryAt}
use Rattle.index_lookup.specs.AmongAsked.{AsksAmong, BlamesAmong, HasText, HaveTexts, IsFirstAmong, each_known}
use Rattle.index_lookup.specs.AmongTold.{IsAnswerAmong}
use Rattle.index_lookup.specs.Views.{IsColumnAt, answer_of, row_at, shown_of}
use Rattle.index_lookup.specs.declared.answers.EntryAnswers.{EntryAnswers}
use Rattle.index_lookup.specs.declared.fault.AnswerFault.{AnswerFault}
use Rattle.index_lookup.specs.declared.fault.AnswerFault.TheVariants as faults
use Rattle.command_frames.specs.Asking.{IsAnsweredByTables}
use Rattle.command_frames.specs.InnerAsking.{IsKeyFault, IsOfKey, IsUntoldBy, NoneFailed, RefusesAll, command_fault}
use Rattle.command_frames.specs.InnerPlaces.{key_cmp}
use Rattle.command_frames.specs.InnerKeyReplies.{AreTold, AreToldOf, HasNumber, HaveEach, HaveEachTold, IsAnswerIn, IsFrameTold, IsKeyReply, IsPrinted}
use Rattle.command_frames.specs.InnerKeyReplies.{IsToldUnder, Printed, ShowsFrames, StandsAt, answer_at, refusal_in, refusals_in}
use Rattle.command_frames.specs.InnerKeyReplies.{shown_at, status_with, reply_to_fault}
use Rattle.command_frames.specs.Refusals.{KeyRefusal, refusal_lines}
use Rattle.command_frames.specs.declared.places.AskedKey.{AskedKey}
use Rattle.command_frames.specs.declared.tables.KeyReply.{KeyReply}
use Rattle.command_frames.specs.declared.tables.KeyReply.TheVariants.{Told, Refused}
use Rattle.command_frames.specs.declared.key_answers.KeyAnswers.{KeyAnswers}

-- one key is among one
pub one_key : (key : List ℕ) → Contains (key ∷ []) key
one_key key = (0, omega arith, refl)

pub only_key : (key other : List ℕ) → Contains (key ∷ []) other → key ≡ other
only_key key other (zero, lt, e) = e
only_key key other (suc n, lt, e) = absurd (omega (arith, lt))

-- ---- what is true of answers

-- what is true of an answer, and more so
pub place_as : (IsSaid IsMore : Where → AnswerRecord → List (List FrameRecord) → Type 0)
    → ((place : Where) (answer : AnswerRecord) (frames : List (List FrameRecord)) → IsSaid place answer frames → IsMore place answer frames)
    → (place : Where) (told : PlaceAnswer) → IsPlaceTold IsSaid place told → IsPlaceTold IsMore place told
place_as IsSaid IsMore more place told is = record {
  row = is.row;
  address_is = is.address_is;
  is_said = more place _ is.row.frames is.is_said;
  status_is = is.status_is;
  text_is = is.text_is;
}

pub places_as : (IsSaid IsMore : Where → AnswerRecord → List (List FrameRecord) → Type 0)
    → ((place : Where) (answer : AnswerRecord) (frames : List (List FrameRecord)) → IsSaid place answer frames → IsMore place answer frames)
    → (places : List Where) (answers : List PlaceAnswer) → AllZip (IsPlaceTold IsSaid) places answers → AllZip (IsPlaceTold IsMore) places answers
places_as IsSaid IsMore more places answers zip =
    zip_as (IsPlaceTold IsSaid) (IsPlaceTold IsMore) places answers (place_as IsSaid IsMore more) zip

pub key_as : (IsSaid IsMore : Where → AnswerRecord → List (List FrameRecord) → Type 0) (IsRefused IsNot : InputName → Why → Type 0)
    → ((place : Where) (answer : AnswerRecord) (frames : List (List FrameRecord)) → IsSaid place answer frames → IsMore place answer frames)
    → ((at : InputName) (why : Why) → IsRefused at why → IsNot at why)
    → (slices : Bool) (places : List Where) (told : KeyReply) → IsKeyReply IsSaid IsRefused slices places told → IsKeyReply IsMore IsNot slices places told
key_as IsSaid IsMore IsRefused IsNot more also slices places (Told answers) is = places_as IsSaid IsMore more places answers.items is
key_as IsSaid IsMore IsRefused IsNot more also slices places (Refused at why) (wanted, is) = (wanted, also at why is)

pub under_as : (IsSaid IsMore : SliceKey → Where → AnswerRecord → List (List FrameRecord) → Type 0)
    (IsRefused IsNot : SliceKey → List Where → InputName → Why → Type 0)
    → ((key : SliceKey) (place : Where) (answer : AnswerRecord) (frames : List (List FrameRecord)) → IsSaid key place answer frames
    → IsMore key place answer frames)
    → ((key : SliceKey) (places : List Where) (at : InputName) (why : Why) → IsRefused key places at why → IsNot key places at why)
    → (slices : Bool) (one : KeyAnswers) → IsToldUnder IsSaid IsRefused slices one → IsToldUnder IsMore IsNot slices one
under_as IsSaid IsMore IsRefused IsNot more also slices one is =
    let key : SliceKey = one.asked.now.key in
    let places : List Where = one.asked.now.places.items in
    key_as (IsSaid key) (IsMore key) (IsRefused key places) (IsNot key places) (more key) (also key places) slices places one.told is

-- there are as many answers as places
pub even_of : (IsSaid : Where → AnswerRecord → List (List FrameRecord) → Type 0) (IsRefused : InputName → Why → Type 0)
    (slices : Bool) (places : List Where) (told : KeyReply) → IsKeyReply IsSaid IsRefused slices places told → HaveEach told places
even_of IsSaid IsRefused slices places (Told answers) is = AllZip-long (IsPlaceTold IsSaid) places answers.items is
even_of IsSaid IsRefused slices places (Refused at why) is = tt

-- and one of the number of each
pub numbered_there : (told : KeyReply) (places : List Where) (number : ℕ) (place : Where) → HaveEach told places
    → slice_get places number ≡ Some place → HasNumber told number
numbered_there (Told answers) places number place even at = omega (arith, even, slice_get_within places number place at)
numbered_there (Refused at why) places number place even there = tt

-- no frames are shown if no lines are wanted
none_shown : (lines : Bool) (answers : Answers) (number : ℕ) → lines ≡ false → shown_at lines answers number ≡ []
none_shown lines answers number none = subst (λ (l : Bool). shown_at l answers number ≡ []) (sym none) refl

-- the answers in their places are what tables tell of these
pub tables_tell : (AreTexts : List (List ℕ) → Type 0) (all : List (List (List ℕ))) (key : SliceKey) (lines : Bool)
    (places : List Where) (answers : Answers) (told : List PlaceAnswer) → AreToldOf AreTexts all key lines places answers
    → AllZip (IsPlaceTold (IsAnswerIn answers lines places)) places told
    → AllZip (IsPlaceTold (IsAnsweredByTables AreTexts all lines key)) places told
tables_tell AreTexts all key lines places answers told are zip =
    places_as (IsAnswerIn answers lines places) (IsAnsweredByTables AreTexts all lines key) (λ place answer frames is. record {
      answer_is = λ texts given. rw (is.2.0, is.2.1) (are texts given is.0 place is.1);
      none_shown = λ none. is.2.1 ∙ none_shown lines answers is.0 none;
    }) places told zip

-- ---- under one key

module _ {D : Type 0} (whole : D → Option (List ℕ)) (failures : D → ℕ) (key : SliceKey) (all : List (List (List ℕ)))
    (answering : List EntryAt) (are : AreAnsweringAmong (key_bytes key) all answering) (old new : List D) (lines : Bool)
    (places : List Where) where
  abbrev AreColumns : List (List ℕ) → Answers → Type 0
  AreColumns texts answers = AllZip (IsColumnAt texts lines places) answering answers.columns.items

  -- each column tells of each place
  pub told_of : (answers : Answers) → AsksAmong whole failures lines answering old new (Ok answers) AreColumns
      → ((texts : List (List ℕ)) (indexes : List (List (List ℕ))) (prefix : List ℕ) (answering : List EntryAt)
      (lines : Bool) (asked : List Where) (columns : List EntryAnswers) (number : ℕ) (none : Where)
      → AreAnsweringAmong prefix indexes answering → AllZip (IsColumnAt texts lines asked) answering columns → number < length asked
      → IsAnswerAmong texts indexes prefix lines (get_or asked number none) (answer_of (map (row_at number) columns)) (shown_of lines number columns))
      → AreToldOf (HaveTexts whole old) all key lines places answers
  told_of answers asks law = λ texts have number place at.
      let is : get_or places number place ≡ place = get_or_from_slice_get places number place place at in
      subst (λ (p : Where). IsAnswerAmong texts all (key_bytes key) lines p (answer_at answers number) (shown_at lines answers number)) is
      (law texts all (key_bytes key) answering lines places answers.columns.items number place are
      (asks.says texts have) (slice_get_within places number place at))

  -- a fault refuses all keys, or the key alone if slices are wanted
  abbrev IsKeyOutcome : Bool → Option KeyReply → Type 0
  IsKeyOutcome slices told = MatchOption told (AreTied (key_bytes key) all)
      (IsKeyReply (IsAnsweredByTables (HaveTexts whole old) all lines key)
      (IsKeyFault (HaveTexts whole old) all lines (key_bytes key) places) slices places)
      × (each_known whole new ≡ each_known whole old)

  -- the entries before the one that is at fault tell
  abbrev IsFirst : AnswerFault → Type 0
  IsFirst fault = (texts : List (List ℕ)) → HaveTexts whole old texts → IsFirstAmong texts lines places answering fault

  refuses_all : (slices : Bool) (fault : AnswerFault) (at : InputName) (why : Why) → command_fault fault ≡ Input at why
      → RefusesAll slices fault → AsksAmong whole failures lines answering old new (Err fault) AreColumns → IsFirst fault
      → IsUntoldBy whole failures lines slices (key_bytes key ∷ []) places all old new at why
  refuses_all slices fault at why told refuses asks first = record {
    key = key_bytes key;
    key_is = one_key (key_bytes key);
    answering = answering;
    are = are;
    fault = fault;
    told_as = told;
    refuses = refuses;
    says = asks.says;
    first = first;
    counts = asks.counts;
  }

  refuses_key : (fault : AnswerFault) (at : InputName) (why : Why) → command_fault fault ≡ Input at why
      → IsOfKey lines fault → each_known failures new ≡ each_known failures old
      → AsksAmong whole failures lines answering old new (Err fault) AreColumns → IsFirst fault
      → AreRead (IsKeyOutcome true (Some (Refused at why))) (NoneFailed failures old new)
  refuses_key fault at why told of_key none asks first = record {
    is = (
      (
        refl,
        record { answering = answering; are = are; fault = fault; told_as = told; of_key = of_key; says = asks.says; first = first },
      ),
      asks.keeps,
    );
    unfailed = none;
  }

  pub fault_told : (slices : Bool) (fault : AnswerFault) → AsksAmong whole failures lines answering old new (Err fault) AreColumns
      → IsFirst fault → ReadsInputs (reply_to_fault slices fault) (IsKeyOutcome slices)
      (IsUntoldBy whole failures lines slices (key_bytes key ∷ []) places all old new) (NoneFailed failures old new)
  fault_told false (faults.Damaged input number) asks first =
      refuses_all false (faults.Damaged input number) (Index input) (why.Damaged number) refl tt asks first
  fault_told false (faults.NoLines input number) asks first =
      refuses_all false (faults.NoLines input number) (Index input) (why.NoLines number) refl tt asks first
  fault_told false (faults.Device input offset) asks first = refuses_all false (faults.Device input offset) (Index input) _ refl tt asks first
  fault_told false faults.OutOfMemory asks first = asks.counts
  fault_told true (faults.Damaged input number) asks first =
      refuses_key (faults.Damaged input number) (Index input) (why.Damaged number) refl tt asks.counts asks first
  fault_told true (faults.NoLines input number) asks first =
      refuses_key (faults.NoLines input number) (Index input) (why.NoLines number) refl asks.counts.0 asks.counts.1 asks first
  fault_told true (faults.Device input offset) asks first = refuses_all true (faults.Device input offset) (Index input) _ refl tt asks first
  fault_told true faults.OutOfMemory asks first = asks.counts

-- ---- under several keys

module _ {D : Type 0} (whole : D → Option (List ℕ)) (failures : D → ℕ) (lines : Bool) (all : List (List (List ℕ)))
    (first mid : List D) (texts_kept : each_known whole mid ≡ each_known whole first) where
  texts_first : (texts : List (List ℕ)) → HaveTexts whole first texts → HaveTexts whole mid texts
  texts_first texts have = subst (λ (ds : List (Option (List ℕ))). AllZip HasText ds texts) (sym texts_kept) have

  -- what is true of later states is true of the first
  pub tables_first : (key : SliceKey) (place : Where) (answer : AnswerRecord) (frames : List (List FrameRecord))
      → IsAnsweredByTables (HaveTexts whole mid) all lines key place answer frames
      → IsAnsweredByTables (HaveTexts whole first) all lines key place answer frames
  tables_first key place answer frames is = record { answer_is = λ texts have. is.answer_is texts (texts_first texts have); none_shown = is.none_shown }

  pub fault_first : (key : List ℕ) (places : List Where) (at : InputName) (why : Why)
      → IsKeyFault (HaveTexts whole mid) all lines key places at why → IsKeyFault (HaveTexts whole first) all lines key places at why
  fault_first key places at why is = record {
    answering = is.answering;
    are = is.are;
    fault = is.fault;
    told_as = is.told_as;
    of_key = is.of_key;
    says = λ texts have. is.says texts (texts_first texts have);
    first = λ texts have. is.first texts (texts_first texts have);
  }

  -- what is not told under some keys is not told under others, among which they are
  pub untold_first : (slices : Bool) (counts_kept : each_known failures mid ≡ each_known failures first) (new : List D) (keys others : List (List ℕ))
      (places : List Where) (at : InputName) (why : Why) → ((key : List ℕ) → Contains keys key → Contains others key)
      → IsUntoldBy whole failures lines slices keys places all mid new at why
      → IsUntoldBy whole failures lines slices others places all first new at why
  untold_first slices counts_kept new keys others places at why among r = record {
    key = r.key;
    key_is = among r.key r.key_is;
    answering = r.answering;
    are = r.are;
    fault = r.fault;
    told_as = r.told_as;
    refuses = r.refuses;
    says = λ texts have. r.says texts (texts_first texts have);
    first = λ texts have. r.first texts (texts_first texts have);
    counts = subst (λ (olds : List ℕ). BlamesAmong lines r.answering olds (each_known failures new) r.fault) counts_kept r.counts;
  }

-- ---- frames

-- there is an answer for each place of a key that is told
pub even_told : (IsSaid : SliceKey → Where → AnswerRecord → List (List FrameRecord) → Type 0)
    (IsRefused : SliceKey → List Where → InputName → Why → Type 0) (slices : Bool) (asked : List AskedKey) (told : List KeyAnswers)
    → AreTold IsSaid IsRefused slices asked told → HaveEachTold told
even_told IsSaid IsRefused slices asked told are =
    All-weaker (IsToldUnder IsSaid IsRefused slices) (λ (one : KeyAnswers). HaveEach one.told one.asked.now.places.items)
    (λ one is. even_of (IsSaid one.asked.now.key) (IsRefused one.asked.now.key one.asked.now.places.items) slices
    one.asked.now.places.items one.told is) told are.are_true

pub more_frames : (told : List KeyAnswers) (frames : List Frame) (i : ℕ) (frame : Frame)
    (status next : Status) (text printed : List ℕ) (one : KeyAnswers) (number : ℕ) → i < length frames → frame
    ≡ get_or frames i frame
    → ShowsFrames told (take i frames) status text
    → StandsAt told frame.key (asked_of frame.load frame.address) one number
    → IsPrinted one.told frame.address number status next text printed
    → ShowsFrames told (take (i + 1) frames) next printed
more_frames told frames i frame status next text printed one number lt is shown stands done =
    let seen : take (i + 1) frames ≡ take i frames ++ frame ∷ [] = take_more frames i frame lt ∙ ap (λ (f : Frame). take i frames ++ f ∷ []) (sym is) in
    record {
      printed = shown.printed ++ done.printed ∷ [];
      each = subst (λ (fs : List Frame). AllZip (IsFrameTold told) fs (shown.printed ++ done.printed ∷ [])) (sym seen)
          (pairs_more (IsFrameTold told) (take i frames) shown.printed frame done.printed shown.each
          (record { one = one; number = number; stands = stands; printed_is = done.printed_is }));
      status_is = done.status_is ∙ ap (λ (s : Status). status_with s done.printed.status) shown.status_is
          ∙ sym (fold-append (λ (s : Status) (p : Printed). status_with s p.status) _ shown.printed (done.printed ∷ []));
      text_is = done.text_is ∙ ap (λ (t : List ℕ). t ++ done.printed.text) shown.text_is
          ∙ flat_map_more (λ (p : Printed). p.text) [] shown.printed done.printed;
    }

-- ---- what is refused

-- the refusals ascend as what is told does
refused_after : (key : SliceKey) (told : List KeyAnswers)
    → AllByRecursion (λ (one : KeyAnswers). key_cmp key one.asked.now.key ≡ Less) told
    → AllByRecursion (λ (refusal : KeyRefusal). key_cmp key refusal.key ≡ Less) (refusals_in told)
refused_after key [] all = tt
refused_after key (one ∷ told) all = by one.told (refused_after key told all.1)
  where
    by : (t : KeyReply) → AllByRecursion (λ (refusal : KeyRefusal). key_cmp key refusal.key ≡ Less) (refusals_in told)
        → AllByRecursion (λ (refusal : KeyRefusal). key_cmp key refusal.key ≡ Less) (cons_option (refusal_in one.asked.now.key t) (refusals_in told))
    by (Told answers) more = more
    by (Refused at why) more = (all.0, more)

pub refusals_ascend : (told : List KeyAnswers) → IsStrictlySortedBy (λ a b. key_cmp a.asked.now.key b.asked.now.key) told
    → IsStrictlySortedBy (λ a b. key_cmp a.key b.key) (refusals_in told)
unfolding IsStrictlySortedBy
refusals_ascend [] up = tt
refusals_ascend (one ∷ told) up = by one.told (refusals_ascend told up.1)
  where
    by : (t : KeyReply) → IsStrictlySortedBy (λ a b. key_cmp a.key b.key) (refusals_in told)
        → IsStrictlySortedBy (λ a b. key_cmp a.key b.key) (cons_option (refusal_in one.asked.now.key t) (refusals_in told))
    by (Told answers) more = more
    by (Refused at why) more = (refused_after one.asked.now.key told up.0, more)

-- each refusal is of something that is told, and each of these a refusal
pub record IsRefusedIn (told : List KeyAnswers) (refusal : KeyRefusal) : Type 0 where
  pub one : KeyAnswers
  pub is_one : Contains told one
  pub key_is : one.asked.now.key ≡ refusal.key
  pub told_is : one.told ≡ Refused refusal.at refusal.why

pub of_told : (told : List KeyAnswers) (refusal : KeyRefusal) → Contains (refusals_in told) refusal → IsRefusedIn told refusal
of_told [] refusal there = absurd (omega (arith, there.1))
of_told (one ∷ told) refusal there = by one.told refl (λ more. of_told told refusal more) there
  where
    later : IsRefusedIn told refusal → IsRefusedIn (one ∷ told) refusal
    later r = record { one = r.one; is_one = in_rest one told r.one r.is_one; key_is = r.key_is; told_is = r.told_is }

    by : (t : KeyReply) → one.told ≡ t → (Contains (refusals_in told) refusal → IsRefusedIn told refusal)
        → Contains (cons_option (refusal_in one.asked.now.key t) (refusals_in told)) refusal → IsRefusedIn (one ∷ told) refusal
    by (Told answers) is rest more = later (rest more)
    by (Refused at why) is rest more = elim (in_cons (record { key = one.asked.now.key; at = at; why = why }) (refusals_in told) refusal more) [
      | inl same ↦ record {
        one = one;
        is_one = in_front one told;
        key_is = ap (λ (r : KeyRefusal). r.key) same;
        told_is = is ∙ ap (λ (r : KeyRefusal). Refused r.at r.why) same;
      }
      | inr there ↦ later (rest there)
    ]

pub to_refusals : (told : List KeyAnswers) (one : KeyAnswers) (at : InputName) (why : Why) → Contains told one
    → one.told ≡ Refused at why → Contains (refusals_in told) (record { key = one.asked.now.key; at = at; why = why })
to_refusals [] one at why there is = absurd (omega (arith, there.1))
to_refusals (first ∷ told) one at why there is = elim (in_cons first told one there) [
  | inl same ↦
      let own : first.told ≡ Refused at why = ap (λ (k : KeyAnswers). k.told) same ∙ is in
      rw own (subst (λ (k : SliceKey). Contains (record { key = first.asked.now.key; at = at; why = why } ∷ refusals_in told)
      (record { key = k; at = at; why = why })) (ap (λ (k : KeyAnswers). k.asked.now.key) same)
      (in_front (record { key = first.asked.now.key; at = at; why = why }) (refusals_in told)))
  | inr later ↦ by first.told (to_refusals told one at why later is)
]
  where
    by : (t : KeyReply) → Contains (refusals_in told) (record { key = one.asked.now.key; at = at; why = why })
        → Contains (cons_option (refusal_in first.asked.now.key t) (refusals_in told))
        (record { key = one.asked.now.key; at = at; why = why })
    by (Told answers) more = more
    by (Refused a w) more = in_rest (record { key = first.asked.now.key; at = a; why = w }) (refusals_in told)
        (record { key = one.asked.now.key; at = at; why = why }) more

-- the lines of the refusals of one more
pub refusals_more : (told : List KeyAnswers) (i : ℕ) (one : KeyAnswers) → i < length told → one ≡ get_or told i one
    → refusal_lines (refusals_in (take (i + 1) told)) ≡ refusal_lines (refusals_in (take i told))
    ++ refusal_lines (option_to_list (refusal_in one.asked.now.key one.told))
refusals_more told i one lt is =
    let seen : take (i + 1) told ≡ take i told ++ one ∷ [] = take_more told i one lt ∙ ap (λ (k : KeyAnswers). take i told ++ k ∷ []) (sym is) in
    ap (λ (l : List KeyAnswers). refusal_lines (refusals_in l)) seen
    ∙ ap refusal_lines (filter_map-append (λ (k : KeyAnswers). refusal_in k.asked.now.key k.told) (take i told) (one ∷ []))
    ∙ ap (λ (l : List KeyRefusal). refusal_lines (refusals_in (take i told) ++ l)) (last (refusal_in one.asked.now.key one.told))
    ∙ flat_map-append _ (refusals_in (take i told)) (option_to_list (refusal_in one.asked.now.key one.told))
  where
    last : (r : Option KeyRefusal) → cons_option r [] ≡ option_to_list r
    last None = refl
    last (Some r) = refl
