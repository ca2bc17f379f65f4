-- What is told under the keys before one of which something is refused.
use Rattle.std.proofs.Common.{◌≡◌, ℕ, zero, suc, false, List, [], ◌∷◌, take, Contains, Some, sym, ap, ◌∙◌, subst, arith, inl, inr}
use Rattle.std.specs.Prelude.{slice_get}
use Rattle.std.specs.Cmp.Lexicographic.{slice_cmp}
use Rattle.std.specs.List.{AllZip}
use Rattle.std.specs.List.Sorted.{IsStrictlySortedBy}
use Rattle.std.specs.Ordering.{nat_cmp, ordering_reverse}
use Rattle.std.specs.declared.cmp.Ordering.TheVariants.{Less}
use Rattle.std.proofs.lemmas.Bool.{true≢false}
use Rattle.std.proofs.lemmas.List.Elements.{All-contains, All-from_recursion}
use Rattle.archive_core.specs.Key.{key_bytes}
use Rattle.archive_core.specs.Lookup.{AnswerRecord, answer_view}
use Rattle.archive_core.specs.declared.keys.SliceKey.{SliceKey}
use Rattle.archive_core.specs.declared.lookup.Where.{Where}
use Rattle.archive_core.proofs.Members.{in_cons, in_front, in_map, in_rest}
use Rattle.dwarf_source_frames.specs.Frames.{FrameRecord}
use Rattle.text_input_files.specs.declared.frame.Frame.{Frame}
use Rattle.command_common.specs.declared.faults.InputName.{InputName}
use Rattle.command_common.specs.declared.faults.Why.{Why}
use Rattle.command_queries.specs.Places.{IsPlaceTold}
use Rattle.command_queries.specs.Symbolicate.{asked_of}
use Rattle.command_frames.specs.InnerPlaces.{AreKeysOf, key_cmp}
use Rattle.command_frames.specs.InnerKeyReplies.{AreTold, IsKeyReply, IsToldUnder}
use Rattle.command_frames.specs.declared.places.AskedKey.{AskedKey}
use Rattle.command_frames.specs.declared.tables.KeyReply.{KeyReply}
use Rattle.command_frames.specs.declared.tables.KeyReply.TheVariants.{Told, Refused}
use Rattle.command_frames.specs.declared.key_answers.KeyAnswers.{KeyAnswers}
use Rattle.command_frames.proofs.Runs.{keys_total, not_same}

zip_left : {X Y : Type 0} (R : X → Y → Type 0) (xs : List X) (ys : List Y) (x : X) → AllZip R xs ys → Contains xs x → (y : Y) × R x y
zip_left R [] ys x all there = absurd (omega (arith, there.1))
zip_left R (a ∷ xs) [] x all there = absurd all
zip_left {X} {Y} R (a ∷ xs) (b ∷ ys) x all there = elim (in_cons a xs x there) [
  | inl same ↦ (b, subst (λ (z : X). R z b) same all.0)
  | inr more ↦ zip_left R xs ys x all.1 more
]

-- of keys that ascend, one that is lower than another is before it
earlier : (asked : List AskedKey) (number : ℕ) (one other : AskedKey) → IsStrictlySortedBy (λ a b. key_cmp a.key b.key) asked
    → slice_get asked number ≡ Some one → Contains asked other → key_cmp other.key one.key ≡ Less → Contains (take number asked) other
unfolding IsStrictlySortedBy
earlier [] number one other up at there less = absurd (omega (arith, there.1))
earlier (first ∷ asked) zero one other up at there less =
    let is : first ≡ one = cc at in
    elim (in_cons first asked other there) [
      | inl same ↦ absurd (not_same (key_bytes other.key) (key_bytes one.key) less (ap (λ (a : AskedKey). key_bytes a.key) (sym same ∙ is)))
      | inr later ↦
          let above : key_cmp first.key other.key ≡ Less =
          All-contains (λ (a : AskedKey). key_cmp first.key a.key ≡ Less) asked other (All-from_recursion _ asked up.0) later in
          let high : Less ≡ ordering_reverse Less = sym less ∙ keys_total.antisymm other.key one.key
          ∙ ap ordering_reverse (ap (λ (a : AskedKey). key_cmp a.key other.key) (sym is) ∙ above) in
          absurd (cc high)
    ]
earlier (first ∷ asked) (suc n) one other up at there less = elim (in_cons first asked other there) [
  | inl same ↦ subst (Contains (first ∷ take n asked)) same (in_front first (take n asked))
  | inr later ↦ in_rest first (take n asked) other (earlier asked n one other up.1 at later less)
]

module _ (IsSaid : SliceKey → Where → AnswerRecord → List (List FrameRecord) → Type 0)
    (IsRefused : SliceKey → List Where → InputName → Why → Type 0) where
  -- a place has an answer under a key with these bytes
  pub record IsSaidUnder (bytes : List ℕ) (place : Where) : Type 0 where
    pub key : SliceKey
    pub key_is : key_bytes key ≡ bytes
    pub answer : AnswerRecord
    pub frames : List (List FrameRecord)
    pub said : IsSaid key place answer frames

  said_of : (bytes : List ℕ) (key : SliceKey) (places : List Where) (told : KeyReply) (place : Where) → key_bytes key ≡ bytes
      → IsKeyReply (IsSaid key) (IsRefused key places) false places told → Contains places place → IsSaidUnder bytes place
  said_of bytes key places (Told answers) place key_is is there =
      let one = zip_left (IsPlaceTold (IsSaid key)) places answers.items place is there in
      record { key = key; key_is = key_is; answer = answer_view one.1.row.answer; frames = one.1.row.frames; said = one.1.is_said }
  said_of bytes key places (Refused at why) place key_is is there = absurd (true≢false (sym is.0))

  -- the frames of lower keys have answers, if none is refused
  pub said_below : (frames : List Frame) (asked : List AskedKey) → AreKeysOf frames asked → (number : ℕ) (one : AskedKey)
      → slice_get asked number ≡ Some one → (told : List KeyAnswers) → AreTold IsSaid IsRefused false (take number asked) told
      → (frame : Frame) → Contains frames frame → slice_cmp nat_cmp (key_bytes frame.key) (key_bytes one.key) ≡ Less
      → IsSaidUnder (key_bytes frame.key) (asked_of frame.load frame.address)
  said_below frames asked of number one at told are frame there less =
      let place : Where = asked_of frame.load frame.address in
      let h = of.whole frame there in
      let lower : key_cmp h.one.key one.key ≡ Less = ap (λ (b : List ℕ). slice_cmp nat_cmp b (key_bytes one.key)) h.key_is ∙ less in
      let before = earlier asked number one h.one of.order.keys at h.is_one lower in
      let k = in_map (λ (t : KeyAnswers). t.asked.now) told h.one (subst (λ (l : List AskedKey). Contains l h.one) (sym are.asked_is) before) in
      said_of (key_bytes frame.key) k.0.asked.now.key k.0.asked.now.places.items k.0.told place
      (ap (λ (a : AskedKey). key_bytes a.key) (sym k.2) ∙ h.key_is)
      (All-contains (IsToldUnder IsSaid IsRefused false) told k.0 are.are_true k.1)
      (subst (λ (a : AskedKey). Contains a.places.items place) k.2 h.place_in)
