-- What a content answers under a key, with the source frames of the slices that answer.
use Rattle.std.proofs.Common.{◌≡◌, ℕ, Bool, true, false, List, [], ◌∷◌, ◌++◌, map, filter_map, length, take, get_or}
use Rattle.std.proofs.Common.{◌<◌, ◌+◌, Option, Some, None, refl, sym, ap, subst, ◌∙◌, inl, inr, arith}
use Rattle.std.specs.Prelude.{slice_index}
use Rattle.std.specs.List.{AllZip, Contains}
use Rattle.std.specs.Cmp.Lexicographic.{on_texts}
use Rattle.std.proofs.lemmas.Grind.{get_or_default_zero}
use Rattle.std.proofs.lemmas.List.{map-append, take_more}
use Rattle.std.specs.Borrow.{Bor}
use Rattle.archive_core.specs.declared.slices.Slice.{Slice}
use Rattle.archive_core.specs.Content.{Operations}
use Rattle.archive_core.specs.Find.{AreAnswering}
use Rattle.archive_core.specs.Lookup.{AnswerRecord, IsAnswer, file_address}
use Rattle.archive_core.specs.Record.{admission_record}
use Rattle.archive_core.specs.declared.keys.SliceKey.{SliceKey}
use Rattle.archive_core.specs.declared.lookup.Where.{Where}
use Rattle.archive_core.proofs.Members.{in_cons, in_front, in_rest, one_with_members, pairs_more, to_map}
use Rattle.archive_from_records.specs.Keys.{AnswersAs}
use Rattle.dwarf_source_frames.specs.AddressFrames.{AreFramesOf}
use Rattle.dwarf_asked_frames.specs.FoundFrames.{frames_under}
use Rattle.dwarf_source_frames.specs.Frames.{FrameRecord}
use Rattle.command_queries.specs.InnerSourceFrames.{AreSourceFramesOf, frames_in, slices_of}
use Rattle.command_queries.specs.SourceFrames.{AreFramesAt, IsAnswerWithFrames}
use Rattle.command_queries.specs.declared.source_frames.SlicedFrames.{SlicedFrames}

-- ---- answers with frames

-- a content that answers as another one under a key has its answers, with their frames
pub sourced_as : (o p : Operations) (key : SliceKey) (lines : Bool) (place : Where) (answer : AnswerRecord)
    (frames : List (List FrameRecord)) → AnswersAs key o p → IsAnswerWithFrames o key lines place answer frames
    → IsAnswerWithFrames p key lines place answer frames
sourced_as o p key lines place answer frames answers is =
    record {
      slices = is.slices;
      answering = answers is.slices is.answering;
      answer_is = is.answer_is;
      shown =
          is.shown;
    }

-- the slices that answer are one list
pub one_answering : (o : Operations) (key : SliceKey) (slices others : List (List ℕ)) → AreAnswering o key slices → AreAnswering o key others → slices ≡ others
one_answering o key slices others a b = one_with_members (on_texts admission_record) slices others a.ascending
    b.ascending (λ s h. (b.exactly s).1 ((a.exactly s).0 h)) (λ s h. (a.exactly s).1 ((b.exactly s).0 h))

pub answer_of : (o : Operations) (key : SliceKey) (lines : Bool) (place : Where) (answer : AnswerRecord)
    (frames : List (List FrameRecord)) → IsAnswerWithFrames o key lines place answer frames → IsAnswer o key place answer
answer_of o key lines place answer frames is = record { slices = is.slices; answering = is.answering; answer_is = is.answer_is }

-- an answer, and what was found in the slices that answer
pub sourced : (o : Operations) (key : SliceKey) (lines : Bool) (place : Where) (answer : AnswerRecord)
    (found : List SlicedFrames) → IsAnswer o key place answer → AreSourceFramesOf o key lines place found
    → IsAnswerWithFrames o key lines place answer (map (frames_in place) found)
sourced o key true place answer found is sources = record {
  slices = is.slices;
  answering = is.answering;
  answer_is = is.answer_is;
  shown = subst (λ (ss : List (List ℕ)). AllZip (AreFramesAt place) ss (map (frames_in place) found))
      (one_answering o key (slices_of found) is.slices sources.0 is.answering) sources.1;
}
sourced o key false place answer found is none = record
    { slices = is.slices; answering = is.answering; answer_is = is.answer_is; shown = ap (map (frames_in place)) none }

-- ---- the frames of places that were found in a slice

kept : {X Y : Type 0} (f : X → Option Y) (first : X) (xs : List X) (y : Y) → Contains (filter_map f xs) y
    → (o : Option Y) → f first ≡ o → Contains (filter_map f (first ∷ xs)) y
kept f first xs y there None is = rw is there
kept f first xs y there (Some z) is = rw is (in_rest z (filter_map f xs) y there)

mapped_there : {X Y : Type 0} (f : X → Option Y) (xs : List X) (x : X) (y : Y) → Contains xs x → f x ≡ Some y → Contains (filter_map f xs) y
mapped_there f [] x y there is = absurd (omega (arith, there.1))
mapped_there f (first ∷ xs) x y there is = elim (in_cons first xs x there) [
  | inl same ↦ let first_is : f first ≡ Some y = ap f same ∙ is in rw first_is (in_front y (filter_map f xs))
  | inr later ↦ kept f first xs y (mapped_there f xs x y later is) (f first) refl
]

pub places_found : (slice image : List ℕ) (places : List Where) (it : SlicedFrames) (addresses : List ℕ) → it.slice.now
    ≡ slice → image ≡ slice → addresses ≡ filter_map (file_address slice) places
    → ((i : ℕ) → i < length addresses → AreFramesOf image (slice_index addresses i) (frames_under it.frames (slice_index addresses i)))
    → (place : Where) → Contains places place → AreFramesAt place slice (frames_in place it)
places_found slice image places it addresses same is_image all each place there = by_case (file_address slice place) refl
  where
    by_case : (at : Option ℕ) → file_address slice place ≡ at → AreFramesAt place slice (frames_in place it)
    by_case None is = rw (same, is) refl
    by_case (Some address) is =
        let found : Contains addresses address = subst (λ (all_of : List ℕ). Contains all_of address) (sym all)
        (mapped_there (file_address slice) places place address there is) in
        let at : slice_index addresses found.0 ≡ address = sym (get_or_default_zero addresses found.0 address found.1) ∙ found.2 in
        rw (same, is) (subst (λ (a : ℕ). AreFramesOf slice a (frames_under it.frames a)) at
        (subst (λ (bytes : List ℕ). AreFramesOf bytes (slice_index addresses found.0)
        (frames_under it.frames (slice_index addresses found.0))) is_image (each found.0 found.1)))

-- ---- the frames that were found in one slice more

pub slices_more : (found new : List SlicedFrames) (slices : List (Bor Slice)) (i : ℕ) (it : SlicedFrames)
    (slice : Bor Slice) → i < length slices → slice ≡ get_or slices i slice → new ≡ found ++ it ∷ [] → it.slice.now
    ≡ slice.now
    → slices_of found ≡ map (λ (s : Bor Slice). s.now) (take i slices) → slices_of new ≡ map (λ (s : Bor Slice). s.now) (take (i + 1) slices)
slices_more found new slices i it slice lt at grown same before = rw (grown, take_more slices i slice lt, ← at) (simp map-append (λ j. before j ++ same j ∷ []))

pub frames_more : (place : Where) (found new : List SlicedFrames) (it : SlicedFrames) (slice : List ℕ) → new ≡ found
    ++ it ∷ [] → it.slice.now ≡ slice → AllZip (AreFramesAt place) (slices_of found) (map (frames_in place) found)
    → AreFramesAt place slice (frames_in place it) → AllZip (AreFramesAt place) (slices_of new) (map (frames_in place) new)
frames_more place found new it slice grown same are is =
    rw grown (simp map-append (pairs_more (AreFramesAt place) (slices_of found) (map (frames_in place) found)
    it.slice.now (frames_in place it) are (subst (λ (bytes : List ℕ). AreFramesAt place bytes (frames_in place it))
    (sym same) is)))

-- ---- answers of one archive, with what was found in its slices

pub answered_by : (o : Operations) (key : SliceKey) (lines : Bool) (place at : Where) (answer : AnswerRecord)
    (found : List SlicedFrames) (frames : List (List FrameRecord)) → at ≡ place → IsAnswer o key at answer
    → AreSourceFramesOf o key lines place found → frames ≡ map (frames_in at) found → IsAnswerWithFrames o key lines place answer frames
answered_by o key lines place at answer found frames is answered sources are =
    subst (λ (fs : List (List FrameRecord)). IsAnswerWithFrames o key lines place answer fs) (sym (are ∙ ap (λ (p : Where). map (frames_in p) found) is))
    (sourced o key lines place answer found (subst (λ (p : Where). IsAnswer o key p answer) is answered) sources)
