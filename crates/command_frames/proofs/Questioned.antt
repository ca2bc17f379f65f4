-- Keys that are asked of records, one after another.
use Rattle.std.proofs.Common.{◌≡◌, ℕ, Bool, true, false, List, [], ◌∷◌, ◌++◌, length, map, take, drop, refl, sym, ap, ◌∙◌, subst}
use Rattle.std.proofs.Common.{append_assoc, append-nil, arith}
use Rattle.std.specs.List.{Contains}
use Rattle.std.specs.Option.{ForSome}
use Rattle.std.specs.Str.{bytes_eq}
use Rattle.std.proofs.lemmas.List.{length-map, map-append, nil_from_length}
use Rattle.std.proofs.lemmas.List.Elements.{All-push}
use Rattle.std.proofs.lemmas.List.Folds.{list_any-from_Any}
use Rattle.archive_core.specs.Content.{Operations}
use Rattle.archive_core.specs.Key.{key_bytes}
use Rattle.archive_core.specs.Lookup.{AnswerRecord}
use Rattle.archive_core.specs.Part.{is_under}
use Rattle.archive_core.specs.declared.keys.SliceKey.{SliceKey}
use Rattle.archive_core.specs.declared.lookup.Where.{Where}
use Rattle.archive_core.proofs.Members.{in_map}
use Rattle.archive_from_records.specs.Keys.{AnswersAs, first_key}
use Rattle.dwarf_source_frames.specs.Frames.{FrameRecord}
use Rattle.text_input_files.specs.declared.frame.Frame.{Frame}
use Rattle.command_common.specs.declared.faults.Status.{Status}
use Rattle.command_queries.specs.Frames.{TellsFrames}
use Rattle.command_queries.specs.SourceFrames.{IsAnswerWithFrames}
use Rattle.command_queries.proofs.AnswersWithFrames.{sourced_as}
use Rattle.command_frames.specs.InnerPlaces.{AreKeysOf, is_asked}
use Rattle.command_frames.specs.InnerKeyReplies.{AreTold, AreToldSoFar, HaveEachTold, IsToldUnder, NoneRefused, ShowsFrames, asked_in}
use Rattle.command_frames.specs.declared.places.AskedKey.{AskedKey}
use Rattle.command_frames.specs.declared.key_answers.KeyAnswers.{KeyAnswers}
use Rattle.command_frames.proofs.Refused.{records_tell}
use Rattle.command_frames.proofs.Shown.{even_told, key_as}

abbrev key_in : AskedKey → SliceKey
key_in one = one.key

-- each record under one of the keys is read
pub asked_picked : (asked : List AskedKey) (key : SliceKey) → Contains (map (λ (one : AskedKey). one.key) asked) key
    → length (key_bytes key) ≡ 24 → (r : List ℕ) → is_under (key_bytes key) r ≡ true → is_asked asked r ≡ true
unfolding is_under
asked_picked asked key there long r under =
    let one = in_map key_in asked key there in
    let same : bytes_eq (key_bytes one.0.key) (take 24 (drop 1 r)) ≡ true =
    ap (λ (k : SliceKey). bytes_eq (key_bytes k) (take 24 (drop 1 r))) (sym one.2)
    ∙ ap (λ (n : ℕ). bytes_eq (key_bytes key) (take n (drop 1 r))) (sym long) ∙ under in
    list_any-from_Any (λ (a : AskedKey). bytes_eq (key_bytes a.key) (take 24 (drop 1 r))) asked (one.1.0, one.0, one.1.1, one.1.2, same)

-- all are left
pub none_told : (IsSaid : SliceKey → Where → AnswerRecord → List (List FrameRecord) → Type 0) (asked : List AskedKey) (told : List KeyAnswers)
    → told ≡ [] → AreToldSoFar IsSaid asked asked told
none_told IsSaid asked told none = rw none (record { asked_is = refl; are_true = λ k d lt. absurd (omega (arith, lt)) })

-- one more is told by a content that answers under its key as another one
pub told_next : (content o : Operations) (lines wanted : Bool) (asked before left : List AskedKey) (told next : List KeyAnswers) (one : KeyAnswers)
    → wanted ≡ lines → next ≡ told ++ one ∷ [] → before ≡ one.asked.now ∷ left
    → IsToldUnder (λ key. IsAnswerWithFrames content key wanted) NoneRefused false one
    → ForSome (first_key (map (λ (a : AskedKey). a.key) before)) (λ key. AnswersAs key content o)
    → AreToldSoFar (λ key. IsAnswerWithFrames o key lines) asked before told → AreToldSoFar (λ key. IsAnswerWithFrames o key lines) asked left next
told_next content o lines wanted asked before left told next one same more first its answers so =
    let key : SliceKey = one.asked.now.key in
    let alike : AnswersAs key content o = answers key (ap (λ (l : List AskedKey). first_key (map key_in l)) first) in
    let wants : IsToldUnder (λ k. IsAnswerWithFrames content k lines) NoneRefused false one =
    subst (λ (w : Bool). IsToldUnder (λ k. IsAnswerWithFrames content k w) NoneRefused false one) same its in
    record {
      asked_is = ap (λ (l : List KeyAnswers). asked_in l ++ left) more
          ∙ ap (λ (l : List AskedKey). l ++ left) (map-append (λ (k : KeyAnswers). k.asked.now) told (one ∷ []))
          ∙ append_assoc (asked_in told) (one.asked.now ∷ []) left
          ∙ ap (λ (l : List AskedKey). asked_in told ++ l) (sym first) ∙ so.asked_is;
      are_true = rw more (All-push (IsToldUnder (λ k. IsAnswerWithFrames o k lines) NoneRefused false) told one so.are_true
          (told_as content o lines one alike wants));
    }
  where
    told_as : (content o : Operations) (lines : Bool) (one : KeyAnswers) → AnswersAs one.asked.now.key content o
        → IsToldUnder (λ k. IsAnswerWithFrames content k lines) NoneRefused false one → IsToldUnder (λ k. IsAnswerWithFrames o k lines) NoneRefused false one
    told_as content o lines one alike its =
        key_as (IsAnswerWithFrames content one.asked.now.key lines) (IsAnswerWithFrames o one.asked.now.key lines)
        (NoneRefused one.asked.now.key one.asked.now.places.items) (NoneRefused one.asked.now.key one.asked.now.places.items)
        (λ place answer frames is. sourced_as content o one.asked.now.key lines place answer frames alike is)
        (λ at why is. is) false one.asked.now.places.items one.told its

-- none is left
pub all_told : (IsSaid : SliceKey → Where → AnswerRecord → List (List FrameRecord) → Type 0) (asked left : List AskedKey) (told : List KeyAnswers)
    → map (λ (one : AskedKey). one.key) left ≡ [] → AreToldSoFar IsSaid asked left told → AreTold IsSaid NoneRefused false asked told
all_told IsSaid asked left told none so =
    let nothing : left ≡ [] = nil_from_length left (omega (arith, length-map left key_in, ap length none)) in
    record {
      asked_is = sym (append-nil (asked_in told)) ∙ ap (λ (l : List AskedKey). asked_in told ++ l) (sym nothing) ∙ so.asked_is;
      are_true = so.are_true;
    }

-- what was told is printed of frames with these keys, and is what the content tells of them
pub answered : (lines wanted : Bool) (o : Operations) (frames : List Frame) (asked start left : List AskedKey) (told : List KeyAnswers)
    → wanted ≡ lines → start ≡ asked → AreKeysOf frames asked → map (λ (one : AskedKey). one.key) left ≡ []
    → AreToldSoFar (λ key. IsAnswerWithFrames o key wanted) start left told
    → AreKeysOf frames (asked_in told) × HaveEachTold told
    × ((status : Status) (text : List ℕ) → ShowsFrames told frames status text → TellsFrames lines o frames status text)
answered lines wanted o frames asked start left told same begins of none so =
    let all = all_told (λ key. IsAnswerWithFrames o key wanted) start left told none so in
    let are : AreTold (λ key. IsAnswerWithFrames o key lines) NoneRefused false asked told =
    subst (λ (w : Bool). AreTold (λ key. IsAnswerWithFrames o key w) NoneRefused false asked told) same
    (subst (λ (l : List AskedKey). AreTold (λ key. IsAnswerWithFrames o key wanted) NoneRefused false l told) begins all) in (
      subst (AreKeysOf frames) (sym are.asked_is) of,
      even_told (λ key. IsAnswerWithFrames o key lines) NoneRefused false asked told are,
      λ status text shown. records_tell lines o frames asked told status text of are shown,
    )
