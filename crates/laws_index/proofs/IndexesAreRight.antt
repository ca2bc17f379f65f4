-- What several indexes tell together is right of the content that their archives make together.
use Rattle.std.proofs.Common.{◌≡◌, ◌≢◌, ℕ, suc, ◌<◌, ◌≤◌, Bool, true, false, List, [], ◌∷◌, ◌++◌, length, drop, get_or}
use Rattle.std.proofs.Common.{refl, sym, ap, ◌∙◌, subst, inl, inr, arith, Option, Some, slice_get, ◌^◌}
use Rattle.std.specs.List.{AllByRecursion, AllZip, Contains}
use Rattle.std.specs.List.Sorted.{IsStrictlySortedBy}
use Rattle.std.specs.Ordering.{nat_cmp, on}
use Rattle.std.specs.declared.cmp.Ordering.TheVariants.{Less}
use Rattle.std.specs.Cmp.Lexicographic.{slice_cmp}
use Rattle.std.proofs.lemmas.Bool.{and_parts}
use Rattle.std.proofs.lemmas.List.Elements.{All-contains, recursion_from_All}
use Rattle.std.proofs.lemmas.Option.{get_or_from_slice_get, slice_get_within}
use Rattle.std.proofs.lemmas.Slice.Zip.{AllZip-long}
use Rattle.sha2.specs.Sha256.{sha256}
use Rattle.macho_symbols.specs.Found.{FoundRecord}
use Rattle.dwarf_source_frames.specs.Frames.{FrameRecord}
use Rattle.table_source_frames.specs.SliceTable.{HasNoLines}
use Rattle.table_checked_pages.proofs.PageLemmas.{may_be}
use Rattle.join_core.specs.Listing.{listing}
use Rattle.archive_core.specs.Content.{IsAnswering, Operations, is_admission}
use Rattle.archive_core.specs.Find.{AreAnswering}
use Rattle.archive_core.specs.Key.{IsKey, key_bytes}
use Rattle.archive_core.specs.Lookup.{AnswerRecord, IsAnswerOf, IsOwn, IsOwnRow, OwnRow, Unanswered, Alone, Disputed}
use Rattle.archive_core.specs.Record.{admission_record}
use Rattle.archive_core.specs.Valid.{key_of}
use Rattle.archive_core.specs.declared.keys.SliceKey.{SliceKey}
use Rattle.archive_core.specs.declared.lookup.Where.{Where}
use Rattle.archive_core.proofs.Entries.{slice_of}
use Rattle.archive_core.proofs.Members.{in_cons, in_front, in_rest}
use Rattle.archive_core.proofs.Records.{length-key_of, same_parts}
use Rattle.archive_records.proofs.Contents.{order}
use Rattle.index_format.specs.Entry.{offset_in}
use Rattle.index_format.specs.Entry.{claim_in}
use Rattle.index_format.specs.Text.{IsIndexText}
use Rattle.index_lookup.specs.Among.{AreAnsweringAmong, AreTied, EntryAt, IsAmong, IsRepeatOf, StandsBefore, all_of, answers_among, lives_under}
use Rattle.command_queries.specs.SourceFrames.{AreFramesAt, AreShown, IsAnswerWithFrames}
use Rattle.index_lookup.specs.AmongTold.{AreFramesToldAt, AreShownAmong, IsAnswerAmong, IsToldOfAmong, IsToldRowAt}
use Rattle.index_lookup.specs.AmongAsked.{HasNoTable, IsDamagedAt, IsLinelessAt}
use Rattle.index_lookup.specs.Contents.{IsSliceOf}
use Rattle.laws_index.specs.Indexes.{AnswersUnder, AreIndexes, AreTiedSlices, DigestsDiffer, IsIndexFile, all_joined}
use Rattle.laws_index.proofs.Among.{IsOfSlice, IsRecordOf, answers_if, answers_then, entry_if_live, held, is_held, listed_at, slice_of_entry}
use Rattle.laws_index.proofs.Joined.{joined_alone, tells_alone}
use Rattle.laws_index.proofs.OfContent.{IsAt, in_turn, one_place, shorter_first}

-- ---- lists place by place

pub zip_left : {X Y : Type 0} (R : X → Y → Type 0) (xs : List X) (ys : List Y) (x : X) → AllZip R xs ys → Contains xs x → (y : Y) × Contains ys y × R x y
zip_left R [] ys x all c = absurd (omega (arith, c.1))
zip_left R (z ∷ xs) [] x all c = absurd all
zip_left R (z ∷ xs) (y ∷ ys) x all c = elim (in_cons z xs x c) [
  | inl e ↦ (y, in_front y ys, subst (λ w. R w y) e all.0)
  | inr there ↦ let f = zip_left R xs ys x all.1 there in (f.0, in_rest y ys f.0 f.1, f.2)
]

pub zip_right : {X Y : Type 0} (R : X → Y → Type 0) (xs : List X) (ys : List Y) (y : Y) → AllZip R xs ys → Contains ys y → (x : X) × R x y
zip_right R xs [] y all c = absurd (omega (arith, c.1))
zip_right R [] (z ∷ ys) y all c = absurd all
zip_right R (x ∷ xs) (z ∷ ys) y all c = elim (in_cons z ys y c) [
  | inl e ↦ (x, subst (λ w. R x w) e all.0)
  | inr there ↦ zip_right R xs ys y all.1 there
]

-- what is related to lists that are related
pub zip_through : {X Y Z : Type 0} (R : X → Y → Type 0) (S : X → Z → Type 0) (T : Y → Z → Type 0) (xs : List X) (ys : List Y) (zs : List Z)
    → ((x : X) (y : Y) (z : Z) → R x y → S x z → T y z) → AllZip R xs ys → AllZip S xs zs → AllZip T ys zs
zip_through R S T [] [] [] f all also = tt
zip_through R S T [] (y ∷ ys) zs f all also = absurd all
zip_through R S T (x ∷ xs) [] zs f all also = absurd all
zip_through R S T (x ∷ xs) (y ∷ ys) (z ∷ zs) f all also = (f x y z all.0 also.0, zip_through R S T xs ys zs f all.1 also.1)
zip_through R S T xs ys zs f all also = absurd also

pub zip_empty : {X Y : Type 0} (R : X → Y → Type 0) (xs : List X) (ys : List Y) → xs ≡ [] → AllZip R xs ys → ys ≡ []
zip_empty R [] [] none all = refl
zip_empty R [] (y ∷ ys) none all = absurd all
zip_empty R (x ∷ xs) ys none all = cc (none)

module _ (os : List Operations) (texts : List (List ℕ)) (indexes : List (List (List ℕ))) where
  -- ---- two entries of one index

  -- the second record and its entry, in the words of the first
  together : (x y : EntryAt) (r s : List ℕ) (a : IsRecordOf os texts indexes x r) (b : IsRecordOf os texts indexes y s) → x.input ≡ y.input
      → (slice_get a.entries y.number ≡ Some y.entry) × IsAt a.o a.text y.entry b.place × (get_or (listing a.o) b.place [] ≡ s)
  together x y r s a b same =
      let contents : b.o ≡ a.o = cc (a.file.content_at, b.file.content_at, same) in
      let text : b.text ≡ a.text = cc (a.file.text_at, b.file.text_at, same) in
      let entries : b.entries ≡ a.entries = cc (a.file.index_at, b.file.index_at, same) in (
        subst (λ (es : List (List ℕ)). slice_get es y.number ≡ Some y.entry) entries b.entry_at,
        subst (λ o. IsAt o a.text y.entry b.place) contents (subst (λ (t : List ℕ). IsAt b.o t y.entry b.place) text b.is),
        ap (λ o. get_or (listing o) b.place []) (sym contents) ∙ b.record_is,
      )

  -- an entry has one record
  pub one_record : (x : EntryAt) (r s : List ℕ) → IsRecordOf os texts indexes x r → IsRecordOf os texts indexes x s → r ≡ s
  one_record x r s a b =
      let t = together x x r s a b refl in
      sym a.record_is ∙ ap (λ (k : ℕ). get_or (listing a.o) k []) (one_place a.o a.file.are.content a.text x.entry a.place b.place a.is t.1) ∙ t.2

  -- entries of one index at different numbers stand in the order of their records
  in_one_index : (x y : EntryAt) (r s : List ℕ) → IsRecordOf os texts indexes x r → IsRecordOf os texts indexes y s
      → x.input ≡ y.input → x.number ≢ y.number → offset_in x.entry ≤ offset_in y.entry → order r s ≡ Less
  in_one_index x y r s a b same apart le =
      let t = together x y r s a b same in
      elim (in_turn a.o a.file.are.content a.text x.entry y.entry a.place b.place a.is t.1 le) [
        | inl e ↦
            let also : IsAt a.o a.text y.entry a.place = subst (IsAt a.o a.text y.entry) (sym e) t.1 in
            let entry : x.entry ≡ y.entry =
            a.file.are.same x.entry y.entry a.place (listed_at a.entries x.number x.entry a.entry_at) (listed_at a.entries y.number y.entry t.0) a.is also in
            let within_x : x.number < length a.entries = slice_get_within a.entries x.number x.entry a.entry_at in
            absurd (apart (a.file.are.numbers x.number y.number within_x (slice_get_within a.entries y.number y.entry t.0)
            (get_or_from_slice_get a.entries x.number x.entry [] a.entry_at ∙ entry ∙ sym (get_or_from_slice_get a.entries y.number y.entry [] t.0))))
        | inr less ↦ (λ k. order (sym a.record_is k) (sym t.2 k)) ∙ less
      ]

  -- ---- two entries of slices under one key

  -- the entry is that of a slice that answers
  pub record IsAnsweringSlice (key : SliceKey) (x : EntryAt) (slice : List ℕ) : Type 0 where
    pub of : IsOfSlice os texts indexes x slice
    pub answers : IsAnswering (all_joined os) key slice

  pub before : (key : SliceKey) (x y : EntryAt) (a b : List ℕ) → IsAnsweringSlice key x a → IsAnsweringSlice key y b
      → StandsBefore x y → order (admission_record a) (admission_record b) ≡ Less
  before key x y a b is_x is_y (inl shorter) =
      shorter_first a b is_x.of.is.valid is_y.of.is.valid
      (ap key_bytes (is_x.answers.live.under ∙ sym is_y.answers.live.under))
      (omega (arith, shorter, is_x.of.is.length_is, is_y.of.is.length_is))
  before key x y a b is_x is_y (inr rest) =
      in_one_index x y (admission_record a) (admission_record b) is_x.of.of is_y.of.of rest.1 rest.2 rest.3

  -- slices of entries that stand in order are strictly ascending
  all_before : (key : SliceKey) (x : EntryAt) (a : List ℕ) (xs : List EntryAt) (ss : List (List ℕ))
      → IsAnsweringSlice key x a → AllZip (IsAnsweringSlice key) xs ss
      → ((k : ℕ) → k < length xs → StandsBefore x (get_or xs k x))
      → AllByRecursion (λ s. on admission_record (slice_cmp nat_cmp) a s ≡ Less) ss
  all_before key x a [] [] is all stands = tt
  all_before key x a (y ∷ xs) (s ∷ ss) is all stands =
      (before key x y a s is all.0 (stands 0 (omega arith)), all_before key x a xs ss is all.1 (λ k lt. stands (suc k) (omega (arith, lt))))
  all_before key x a xs ss is all stands = absurd all

  ascending : (key : SliceKey) (xs : List EntryAt) (ss : List (List ℕ)) → AllZip (IsAnsweringSlice key) xs ss
      → ((i j : ℕ) (none : EntryAt) → i < j → j < length xs → StandsBefore (get_or xs i none) (get_or xs j none))
      → IsStrictlySortedBy (on admission_record (slice_cmp nat_cmp)) ss
  unfolding IsStrictlySortedBy
  ascending key [] [] all stands = tt
  ascending key (x ∷ xs) (s ∷ ss) all stands = (
    all_before key x s xs ss all.0 all.1 (λ k lt. stands 0 (suc k) x (omega arith) (omega (arith, lt))),
    ascending key xs ss all.1 (λ i j none lt within. stands (suc i) (suc j) none (omega (arith, lt)) (omega (arith, within))),
  )
  ascending key xs ss all stands = absurd all

  -- ---- what is told of them

  row_right : (key : SliceKey) (asked : Where) (x : EntryAt) (slice : List ℕ) (row : OwnRow)
      → IsAnsweringSlice key x slice → IsToldRowAt texts asked x row → IsOwnRow asked slice row
  row_right key asked x slice row is told = record {
    digest_is = told.digest_is ∙ is.of.is.is.digest_is;
    own_is =
        let its = is.of.is.is in
        (told.own_is is.of.of.text is.of.of.file.text_at).of_slice slice its.table its.bytes its.is_table
        (may_be is.of.of.text its.table (claim_in x.entry) its.stored);
  }

  one_slice : (key : SliceKey) (asked : Where) (x : EntryAt) (row : OwnRow) (own : Option FoundRecord)
      (ss : List (List ℕ)) → AllZip (IsAnsweringSlice key) (x ∷ []) ss → row.own ≡ own → IsToldRowAt texts asked x row
      → (slice : List ℕ) × (ss ≡ slice ∷ []) × IsOwn slice asked own
  one_slice key asked x row own [] all is told = absurd all
  one_slice key asked x row own (s ∷ []) all is told = (s, refl, subst (IsOwn s asked) is (row_right key asked x s row all.0 told).own_is)
  one_slice key asked x row own (s ∷ (r ∷ ss)) all is told = absurd all.1

  told_right : (key : SliceKey) (asked : Where) (xs : List EntryAt) (ss : List (List ℕ)) (answer : AnswerRecord)
      → AllZip (IsAnsweringSlice key) xs ss → IsToldOfAmong texts asked xs answer → IsAnswerOf asked ss answer
  told_right key asked xs ss Unanswered all is = zip_empty (IsAnsweringSlice key) xs ss is all
  told_right key asked xs ss (Alone own) all is =
      one_slice key asked is.0 is.1 own ss (subst (λ (ys : List EntryAt). AllZip (IsAnsweringSlice key) ys ss) is.2 all) is.3 is.4
  told_right key asked xs ss (Disputed rows) all is =
      let rows_right = zip_through (IsAnsweringSlice key) (IsToldRowAt texts asked) (IsOwnRow asked) xs ss rows (row_right key asked) all is.1 in
      (omega (arith, is.0, AllZip-long (IsAnsweringSlice key) xs ss all), rows_right)

  -- ---- the frames that are shown of them

  frames_right : (key : SliceKey) (asked : Where) (x : EntryAt) (slice : List ℕ) (frames : List FrameRecord)
      → IsAnsweringSlice key x slice → AreFramesToldAt texts asked x frames → AreFramesAt asked slice frames
  frames_right key asked x slice frames is told =
      let its = is.of.is.is in
      (told is.of.of.text is.of.of.file.text_at).of_slice slice its.table its.bytes its.is_table (may_be is.of.of.text its.table (claim_in x.entry) its.stored)

  shown_right : (key : SliceKey) (lines : Bool) (asked : Where) (xs : List EntryAt) (ss : List (List ℕ))
      (lists : List (List FrameRecord)) → AllZip (IsAnsweringSlice key) xs ss → AreShownAmong texts lines asked xs lists
      → AreShown lines asked ss lists
  shown_right key true asked xs ss lists all shown =
      zip_through (IsAnsweringSlice key) (AreFramesToldAt texts asked) (AreFramesAt asked) xs ss lists (frames_right key asked) all shown
  shown_right key false asked xs ss lists all shown = shown

  module _ (all : AreIndexes os texts indexes) where
    -- ---- nothing is damaged

    tagged : (prefix : List ℕ) (x : EntryAt) → answers_among prefix (all_of indexes) x.entry ≡ true → is_admission x.entry ≡ true
    tagged prefix x h =
        let lives = (and_parts (lives_under prefix (all_of indexes) x.entry) _ h).0 in
        (and_parts (is_admission x.entry) _ (and_parts _ _ lives).0).0

    pub undamaged : (prefix text : List ℕ) (x : EntryAt) → IsAmong indexes x
        → answers_among prefix (all_of indexes) x.entry ≡ true → slice_get texts x.input ≡ Some text
        → HasNoTable text x.entry → ⊥
    undamaged prefix text x among h here none =
        let s = slice_of_entry os texts indexes all x among (tagged prefix x h) in
        let same : s.1.of.text ≡ text = cc (s.1.of.file.text_at, here) in
        let is : IsSliceOf text s.0 x.entry = subst (λ (t : List ℕ). IsSliceOf t s.0 x.entry) same s.1.is.is in
        none (subst (λ (t : List ℕ). length t < 2 ^ 64) same s.1.of.file.are.short) s.0 is.table is.is_table is.stored

    pub none_damaged : (prefix : List ℕ) (answering : List EntryAt) (input number : ℕ)
        → AreAnsweringAmong prefix indexes answering → IsDamagedAt texts answering input number → ⊥
    none_damaged prefix answering input number are damaged =
        let x : EntryAt = record { input = input; number = number; entry = damaged.entry } in
        let answers : answers_among prefix (all_of indexes) x.entry
        ≡ true = All-contains (λ y. answers_among prefix (all_of indexes) y.entry ≡ true) answering x are.each
        damaged.answers in
        undamaged prefix damaged.text x (All-contains (IsAmong indexes) answering x are.among damaged.answers) answers damaged.text_is damaged.absent

    -- ---- where there are no lines

    -- the entry is that of a slice that answers and has none
    pub record IsLinelessOf (prefix : List ℕ) (x : EntryAt) : Type 0 where
      pub slice : List ℕ
      pub of : IsOfSlice os texts indexes x slice
      pub answers : AnswersUnder os prefix slice
      pub lacks : HasNoLines slice

    pub lineless_of : (prefix : List ℕ) (answering : List EntryAt) (input number : ℕ)
        → AreAnsweringAmong prefix indexes answering → (lacking : IsLinelessAt texts answering input number)
        → IsLinelessOf prefix (record { input = input; number = number; entry = lacking.entry })
    lineless_of prefix answering input number are lacking =
        let x : EntryAt = record { input = input; number = number; entry = lacking.entry } in
        let answers : answers_among prefix (all_of indexes) x.entry
        ≡ true = All-contains (λ y. answers_among prefix (all_of indexes) y.entry ≡ true) answering x are.each
        lacking.answers in
        let s = slice_of_entry os texts indexes all x (All-contains (IsAmong indexes) answering x are.among lacking.answers) (tagged prefix x answers) in
        let same : s.1.of.text ≡ lacking.text = cc (s.1.of.file.text_at, lacking.text_is) in
        let is : IsSliceOf lacking.text s.0 x.entry = subst (λ (t : List ℕ). IsSliceOf t s.0 x.entry) same s.1.is.is in
        record {
          slice = s.0;
          of = s.1;
          answers = record {
            is_held = is_held os texts indexes x s.0 s.1;
            answers = λ key is_key is. answers_if os texts indexes all key is_key x s.0 s.1
                (subst (λ (f : List ℕ). answers_among f (all_of indexes) x.entry ≡ true) (sym is) answers);
          };
          lacks = lacking.lacks.of_slice s.0 is.table is.bytes is.is_table (may_be lacking.text is.table (claim_in x.entry) is.stored);
        }

    pub lineless : (prefix : List ℕ) (answering : List EntryAt) (input number : ℕ)
        → AreAnsweringAmong prefix indexes answering → IsLinelessAt texts answering input number → (slice : List ℕ)
        × AnswersUnder os prefix slice × HasNoLines slice
    lineless prefix answering input number are lacking =
        let of = lineless_of prefix answering input number are lacking in (of.slice, of.answers, of.lacks)

    module _ (key : SliceKey) (is_key : IsKey key) where
      abbrev every : List (List ℕ)
      every = all_of indexes

      -- an entry that answers is that of a slice that does
      pub slice_at : (x : EntryAt) → IsAmong indexes x → answers_among (key_bytes key) every x.entry ≡ true → (slice : List ℕ) × IsAnsweringSlice key x slice
      slice_at x among h =
          let s = slice_of_entry os texts indexes all x among (tagged (key_bytes key) x h) in
          (s.0, record { of = s.1; answers = answers_if os texts indexes all key is_key x s.0 s.1 h })

      slices_at : (xs : List EntryAt) → AllByRecursion (IsAmong indexes) xs
          → AllByRecursion (λ x. answers_among (key_bytes key) every x.entry ≡ true) xs → (ss : List (List ℕ))
          × AllZip (IsAnsweringSlice key) xs ss
      slices_at [] among answers = ([], tt)
      slices_at (x ∷ xs) among answers =
          let s = slice_at x among.0 answers.0 in
          let rest = slices_at xs among.1 answers.1 in
          (s.0 ∷ rest.0, (s.1, rest.1))

      -- ---- tied slices

      pub tied : AreTied (key_bytes key) indexes → AreTiedSlices os key
      tied t =
          let a = slice_at t.one t.one_among t.one_answers in
          let b = slice_at t.other t.other_among t.other_answers in
          record {
            one = a.0;
            other = b.0;
            number = t.one.input;
            other_number = t.other.input;
            one_is = record {
              o = a.1.of.of.o;
              there = a.1.of.of.file.content_at;
              has =
                  held os texts indexes t.one (admission_record a.0) a.1.of.of;
              answers = a.1.answers;
            };
            other_is = record {
              o = b.1.of.of.o;
              there = b.1.of.of.file.content_at;
              has =
                  held os texts indexes t.other (admission_record b.0) b.1.of.of;
              answers = b.1.answers;
            };
            numbers = t.unordered.inputs;
            lengths = omega (arith, a.1.of.is.length_is, b.1.of.is.length_is, t.unordered.same_length);
            differ = λ same. t.unordered.slices (a.1.of.is.prefix ∙ ap (λ (s : List ℕ). 2 ∷ (key_bytes (key_of s) ++ sha256 s)) same ∙ sym b.1.of.is.prefix);
          }

      -- ---- the answer

      -- two entries of one slice of different indexes are of the same slice, as far as digests tell
      pub one_of_two : (x y : EntryAt) (a b : List ℕ) → DigestsDiffer os → IsOfSlice os texts indexes x a
          → IsOfSlice os texts indexes y b → IsRepeatOf y x → a ≡ b
      one_of_two x y a b tell of_x of_y repeat =
          let fronts : key_bytes (key_of a) ++ sha256 a ≡ key_bytes (key_of b)
          ++ sha256 b = ap (drop 1) (sym of_x.is.prefix ∙ sym repeat.slices ∙ of_y.is.prefix) in
          let digests = (same_parts (key_bytes (key_of a)) (key_bytes (key_of b)) (sha256 a) (sha256 b)
          (length-key_of a of_x.is.valid ∙ sym (length-key_of b of_y.is.valid)) fronts).1 in
          let lt_x : x.input < length os = slice_get_within os x.input of_x.of.o of_x.of.file.content_at in
          tell (omega (arith, lt_x, repeat.earlier)) a b (is_held os texts indexes x a of_x) (is_held os texts indexes y b of_y) digests

      module _ (tell : DigestsDiffer os) (answering : List EntryAt)
          (are : AreAnsweringAmong (key_bytes key) indexes answering) (ss : List (List ℕ))
          (zip : AllZip (IsAnsweringSlice key) answering ss) where
        -- each slice that answers is there
        to_slices : (slice : List ℕ) → IsAnswering (all_joined os) key slice → Contains ss slice
        to_slices slice answers =
            let x = entry_if_live os texts indexes all key is_key slice answers.live in
            elim (are.whole x.0 x.1 (answers_then os texts indexes all key is_key x.0 slice x.2 answers)) [
              | inl here ↦
                  let s = zip_left (IsAnsweringSlice key) answering ss x.0 zip here in
                  let records = one_record x.0 (admission_record s.0) (admission_record slice) s.2.of.of x.2.of in
                  let same : s.0 ≡ slice = sym (slice_of s.0 s.2.of.is.valid) ∙ ap (drop 33) records ∙ slice_of slice x.2.is.valid in
                  subst (Contains ss) same s.1
              | inr other ↦
                  let s = zip_left (IsAnsweringSlice key) answering ss other.0 zip other.1 in
                  subst (Contains ss) (sym (one_of_two x.0 other.0 slice s.0 tell x.2 s.2.of other.2)) s.1
            ]

        are_slices : AreAnswering (all_joined os) key ss
        are_slices = record {
          ascending = ascending key answering ss zip are.ordered;
          exactly = λ slice. (λ c. (zip_right (IsAnsweringSlice key) answering ss slice zip c).1.answers, to_slices slice);
        }

      -- the slices of the entries that answer are those that do
      pub slices_right : (answering : List EntryAt) → DigestsDiffer os
          → AreAnsweringAmong (key_bytes key) indexes answering → (ss : List (List ℕ))
          × AllZip (IsAnsweringSlice key) answering ss × AreAnswering (all_joined os) key ss
      slices_right answering tell are =
          let ss = slices_at answering (recursion_from_All (IsAmong indexes) answering are.among)
          (recursion_from_All (λ x. answers_among (key_bytes key) every x.entry ≡ true) answering are.each) in
          (ss.0, ss.1, are_slices tell answering are ss.0 ss.1)

      pub right : (lines : Bool) (asked : Where) (answer : AnswerRecord) (frames : List (List FrameRecord))
          → DigestsDiffer os → IsAnswerAmong texts indexes (key_bytes key) lines asked answer frames
          → IsAnswerWithFrames (all_joined os) key lines asked answer frames
      right lines asked answer frames tell is =
          let ss = slices_right is.answering tell is.are in
          record {
            slices = ss.0;
            answering = ss.2;
            answer_is = told_right key asked is.answering ss.0 answer ss.1 is.answer_is;
            shown = shown_right key lines asked is.answering ss.0 frames ss.1 is.shown;
          }

-- ---- one index

pub right_alone : (o : Operations) (text : List ℕ) (entries : List (List ℕ)) (key : SliceKey) (lines : Bool)
    (asked : Where) (answer : AnswerRecord) (frames : List (List FrameRecord)) → IsIndexFile o text
    → IsIndexText text entries → IsKey key
    → IsAnswerAmong (text ∷ []) (entries ∷ []) (key_bytes key) lines asked answer frames → IsAnswerWithFrames o key lines asked answer frames
right_alone o text entries key lines asked answer frames file read is_key is =
    let all : AreIndexes (o ∷ []) (text ∷ []) (entries ∷ []) = record { files = (file, tt); read = (read, tt) } in
    subst (λ made. IsAnswerWithFrames made key lines asked answer frames) (joined_alone o file.content.itself)
    (right (o ∷ []) (text ∷ []) (entries ∷ []) all key is_key lines asked answer frames (tells_alone o) is)
