-- What came of asking one entry after another.
use Rattle.std.proofs.Common.{◌≡◌, ℕ, suc, ◌+◌, ◌<◌, Bool, List, [], ◌∷◌, ◌++◌, length, map, take, drop, set, get_or, slice_get, refl, sym, subst, ap, ◌∙◌}
use Rattle.std.proofs.Common.{arith, inl, inr}
use Rattle.std.specs.Prelude.{Contains, Option, Some, Result, Ok, Err, MatchResult}
use Rattle.std.specs.List.{AllZip}
use Rattle.std.proofs.Math.ListN.{length-map}
use Rattle.std.proofs.Math.Seq.{split_at}
use Rattle.std.specs.Option.{option_map}
use Rattle.std.proofs.lemmas.List.{map-set, set-get_or}
use Rattle.std.proofs.lemmas.List.Elements.{All-weaker}
use Rattle.std.proofs.lemmas.Option.{get_or_from_slice_get, same_Some, slice_get-get_or, slice_get-map, slice_get_within}
use Rattle.std.proofs.lemmas.Slice.Zip.{AllZip-long}
use Rattle.archive_core.specs.declared.lookup.Where.{Where}
use Rattle.archive_core.proofs.Members.{in_cons, in_front}
use Rattle.index_format.specs.Entry.{claim_in}
use Rattle.index_lookup.specs.Among.{EntryAt}
use Rattle.index_lookup.specs.AmongAsked.{AreThere, AsksAmong, BlamesAmong, HasText, HaveTexts, IsFirstAmong, IsUntoldAmong}
use Rattle.index_lookup.specs.AmongAsked.{TellBefore, each_known}
use Rattle.index_lookup.specs.InnerAnswering.{AsksOne, BlamesOne, IsColumnOf, IsUntoldOne, entry_at}
use Rattle.index_lookup.specs.Told.{AreFramesToldBy, IsToldBy}
use Rattle.index_lookup.specs.Views.{IsColumnAt, frame_lists, told_view}
use Rattle.index_lookup.specs.declared.answers.EntryAnswers.{EntryAnswers}
use Rattle.index_lookup.specs.declared.fault.AnswerFault.{AnswerFault}
use Rattle.index_lookup.specs.declared.fault.AnswerFault.TheVariants.{Damaged, Device, NoLines, OutOfMemory}
use Rattle.index_lookup.specs.declared.numbered.Numbered.{Numbered}
use Rattle.index_lookup.proofs.Columns.{zip_at, zip_more}
use Rattle.index_lookup.proofs.Lists.{map_has, map_within, read_map}

-- ---- what is known of the devices

module _ {D V : Type 0} (known : D → V) (devices : List D) (i : ℕ) (before : D) (is : slice_get devices i ≡ Some before) where
  pub known_at : slice_get (each_known known devices) i ≡ Some (known before)
  known_at = slice_get-map known devices i ∙ ap (option_map known) is

  pub known_set : (after : D) → each_known known (set devices i after) ≡ set (each_known known devices) i (known after)
  known_set after = map-set known devices i after

  pub known_kept : (after : D) → known after ≡ known before → each_known known (set devices i after) ≡ each_known known devices
  known_kept after same =
      known_set after ∙ ap (λ (v : V). set (each_known known devices) i v) same
      ∙ ap (λ (v : V). set (each_known known devices) i v) (sym (get_or_from_slice_get (each_known known devices) i (known before) (known before) known_at))
      ∙ set-get_or (each_known known devices) i (known before)

-- the text of a device
pub text_at : {D : Type 0} (whole : D → Option (List ℕ)) (devices : List D) (texts : List (List ℕ)) (i : ℕ) (before : D)
    → slice_get devices i ≡ Some before → HaveTexts whole devices texts
    → (text : List ℕ) × (slice_get texts i ≡ Some text) × (whole before ≡ Some text)
text_at whole devices texts i before is have =
    let ks = each_known whole devices in
    let here = known_at whole devices i before is in
    let lt : i < length ks = slice_get_within ks i (whole before) here in
    let long : length texts ≡ length ks = AllZip-long HasText ks texts have in (
      get_or texts i [],
      slice_get-get_or texts i [] (omega (arith, lt, long)),
      subst (λ k. HasText k (get_or texts i [])) (get_or_from_slice_get ks i (whole before) (whole before) here)
          (zip_at HasText ks texts i (whole before) [] have lt),
    )

-- as many devices are there whose bytes are as they were
all_there : {D : Type 0} (whole : D → Option (List ℕ)) (old new : List D) (xs : List EntryAt) → each_known whole new
    ≡ each_known whole old → AreThere old xs → AreThere new xs
all_there whole old new xs same there =
    let long : length new ≡ length old = sym (length-map new whole) ∙ ap length same ∙ length-map old whole in
    All-weaker (λ x. x.input < length old) (λ x. x.input < length new) (λ x h. omega (arith, h, long)) xs there

-- ---- one entry, of its device

module _ {D : Type 0} (whole : D → Option (List ℕ)) (failures : D → ℕ) (lines : Bool) (asked : List Where)
    (answering : List EntryAt) (x : EntryAt) (answers : Contains answering x) (devices : List D) (before after : D)
    (is : slice_get devices x.input ≡ Some before) where
  abbrev news : List D
  news = set devices x.input after

  named : (input number : ℕ) → input ≡ x.input → number ≡ x.number → Contains answering (record { input = input; number = number; entry = x.entry })
  named input number a b = subst (Contains answering) (λ i. record { input = sym a i; number = sym b i; entry = x.entry }) answers

  says_of : (r : Result EntryAnswers AnswerFault) (texts : List (List ℕ)) (text : List ℕ) → slice_get texts x.input ≡ Some text
      → MatchResult r (λ column. IsColumnOf text lines asked x column) (IsUntoldOne text x)
      → MatchResult r (λ column. IsColumnAt texts lines asked x column) (IsUntoldAmong texts answering)
  says_of (Ok column) texts text at h = record {
    digest_is = h.digest_is;
    owns = λ other there. subst (λ t. AllZip (IsToldBy t (claim_in x.entry)) asked (map told_view column.owns.items))
        (same_Some text other (sym at ∙ there)) h.owns;
    frames = λ wanted other there. subst (λ t. AllZip (AreFramesToldBy t (claim_in x.entry)) asked (frame_lists column))
        (same_Some text other (sym at ∙ there)) (h.frames wanted);
  }
  says_of (Err (Damaged input number)) texts text at h = record {
    entry = x.entry;
    answers = named input number h.0 h.1;
    text = text;
    text_is = ap (slice_get texts) h.0 ∙ at;
    absent = h.2;
  }
  says_of (Err (NoLines input number)) texts text at h = record {
    entry = x.entry;
    answers = named input number h.0 h.1;
    text = text;
    text_is = ap (slice_get texts) h.0 ∙ at;
    lacks = h.2;
  }
  says_of r texts text at h = tt

  counts_of : (r : Result EntryAnswers AnswerFault) → MatchResult r (λ _. failures after ≡ failures before)
      (BlamesOne lines x (failures before) (failures after))
      → MatchResult r (λ _. each_known failures news ≡ each_known failures devices)
      (BlamesAmong lines answering (each_known failures devices) (each_known failures news))
  counts_of (Ok column) h = known_kept failures devices x.input before is after h
  counts_of (Err (Damaged input number)) h = known_kept failures devices x.input before is after h
  counts_of (Err (NoLines input number)) h = (h.0, known_kept failures devices x.input before is after h.1)
  counts_of (Err OutOfMemory) h = known_kept failures devices x.input before is after h
  counts_of (Err (Device input offset)) h = (
    record { number = x.number; entry = x.entry; answers = named input x.number h.0 refl; offset_is = h.1 },
    record {
      old = failures before;
      new = failures after;
      old_is = ap (slice_get (each_known failures devices)) h.0 ∙ known_at failures devices x.input before is;
      failed = h.2;
      others = known_set failures devices x.input before is after ∙ ap (λ n. set (each_known failures devices) n (failures after)) (sym h.0);
    },
  )

  pub asked_one : (r : Result EntryAnswers AnswerFault)
      → ((text : List ℕ) → whole before ≡ Some text → MatchResult r (λ column. IsColumnOf text lines asked x column)
      (IsUntoldOne text x)) → whole after ≡ whole before
      → MatchResult r (λ _. failures after ≡ failures before) (BlamesOne lines x (failures before) (failures after))
      → AsksAmong whole failures lines answering devices news r (λ texts column. IsColumnAt texts lines asked x column)
  asked_one r says keeps counts = record {
    says = λ texts have. let text = text_at whole devices texts x.input before is have in says_of r texts text.0 text.1 (says text.0 text.2);
    keeps = known_kept whole devices x.input before is after keeps;
    counts = counts_of r counts;
  }

-- the same of the device as it is read and written
pub asked_at : {D : Type 0} (whole : D → Option (List ℕ)) (failures : D → ℕ) (lines : Bool) (asked : List Where)
    (answering : List EntryAt) (x : EntryAt) (devices : List D) (old new : D) (r : Result EntryAnswers AnswerFault)
    → Contains answering x → slice_get devices x.input ≡ Some old
    → AsksOne whole failures lines x old new r (λ text column. IsColumnOf text lines asked x column)
    → AsksAmong whole failures lines answering devices (set devices x.input new) r (λ texts column. IsColumnAt texts lines asked x column)
asked_at whole failures lines asked answering x devices old new r answers is one =
    asked_one whole failures lines asked answering x answers devices old new is r one.says one.keeps one.counts

-- ---- one after another

only_one : (x y : EntryAt) → Contains (x ∷ []) y → x ≡ y
only_one x y there = elim (in_cons x [] y there) [
  | inl same ↦ same
  | inr none ↦ absurd (omega (arith, none.1))
]

module _ {D : Type 0} (whole : D → Option (List ℕ)) (failures : D → ℕ) (lines : Bool) (asked : List Where) (entries : List Numbered) where
  abbrev answering : List EntryAt
  answering = map entry_at entries

  -- what the first of the entries tell
  abbrev pub HaveTold : ℕ → List D → List D → List EntryAnswers → Type 0
  HaveTold i old new columns = AsksAmong whole failures lines answering old new (Ok columns)
      (λ texts cs. AllZip (IsColumnAt texts lines asked) (take i answering) cs)

  module _ (i : ℕ) (n : Numbered) (lt : i < length entries) (is : n ≡ get_or entries i n) (old mid : List D)
      (columns : List EntryAnswers) (so_far : HaveTold i old mid columns) where
    -- the device of the next one is there
    pub there_here : AreThere old answering → n.input < length mid
    there_here there =
        subst (λ z. z.input < length mid) (sym (read_map entry_at entries i n lt is))
        (all_there whole old mid answering so_far.keeps there i (entry_at n)
        (map_within entry_at entries i n lt is))

    have_texts : (texts : List (List ℕ)) → HaveTexts whole old texts → HaveTexts whole mid texts
    have_texts texts have = subst (λ ks. AllZip HasText ks texts) (sym so_far.keeps) have

    -- what comes of asking it, where it is among entries
    abbrev IsAsked : List D → Result EntryAnswers AnswerFault → Type 0
    IsAsked new r = (xs : List EntryAt) → Contains xs (entry_at n)
        → AsksAmong whole failures lines xs mid new r (λ texts c. IsColumnAt texts lines asked (entry_at n) c)

    pub one_told : (new : List D) (after : List EntryAnswers) (column : EntryAnswers) → after ≡ columns ++ column ∷ []
        → IsAsked new (Ok column) → HaveTold (i + 1) old new after
    one_told new after column grown all =
        let told = all answering (map_has entry_at entries i n lt is) in
        record {
          says = λ texts have. zip_more (IsColumnAt texts lines asked) answering i (entry_at n) columns after column
              (map_within entry_at entries i n lt is) (read_map entry_at entries i n lt is) grown
              (so_far.says texts have) (told.says texts (have_texts texts have));
          keeps = told.keeps ∙ so_far.keeps;
          counts = told.counts ∙ so_far.counts;
        }

    -- a refusal is passed on
    pub none_more : {U : Type 0} (new : List D) (f : AnswerFault) (B : List (List ℕ) → U → Type 0) → IsAsked new (Err f)
        → AsksAmong whole failures lines answering old new (Err f) B
    none_more new f B all =
        let told = all answering (map_has entry_at entries i n lt is) in
        record {
          says = λ texts have. told.says texts (have_texts texts have);
          keeps = told.keeps ∙ so_far.keeps;
          counts = subst (λ ks. BlamesAmong lines answering ks (each_known failures new) f) so_far.counts told.counts;
        }

    -- it is the first that is not told
    pub first_untold : (new : List D) (f : AnswerFault) → IsAsked new (Err f) → (texts : List (List ℕ)) → HaveTexts whole old texts
        → IsFirstAmong texts lines asked answering f
    first_untold new f all texts have = by f ((all (entry_at n ∷ []) (in_front (entry_at n) [])).says texts (have_texts texts have))
      where
        before : (input number : ℕ) (entry : List ℕ) → Contains (entry_at n ∷ []) (record { input = input; number = number; entry = entry })
            → TellBefore texts lines asked answering input number
        before input number entry there = record {
          before = take i answering;
          entry = entry;
          after = drop (suc i) answering;
          order = split_at answering i (entry_at n) (map_within entry_at entries i n lt is)
              ∙ ap (λ (x : EntryAt). take i answering ++ x ∷ drop (suc i) answering)
              (sym (read_map entry_at entries i n lt is) ∙ only_one (entry_at n) (record { input = input; number = number; entry = entry }) there);
          columns = columns;
          told = so_far.says texts have;
        }

        by : (g : AnswerFault) → IsUntoldAmong texts (entry_at n ∷ []) g → IsFirstAmong texts lines asked answering g
        by (Damaged input number) h = before input number h.entry h.answers
        by (NoLines input number) h = before input number h.entry h.answers
        by (Device input offset) h = tt
        by OutOfMemory h = tt

    -- no memory is left for what was told
    pub no_memory : {U : Type 0} (new : List D) (column : EntryAnswers) (B : List (List ℕ) → U → Type 0)
        → IsAsked new (Ok column) → AsksAmong whole failures lines answering old new (Err OutOfMemory) B
    no_memory new column B all =
        let told = all answering (map_has entry_at entries i n lt is) in
        record { says = λ texts have. tt; keeps = told.keeps ∙ so_far.keeps; counts = told.counts ∙ so_far.counts }
