-- The frames of each address, by those at the turns.
use Rattle.std.proofs.Common.{◌≡◌, ℕ, zero, suc, ◌<◌, ◌≤◌, ◌^◌, List, [], ◌∷◌, refl, inl, inr, arith, subst, ◌⊎◌}
use Rattle.std.specs.List.{All, Contains}
use Rattle.std.proofs.lemmas.Bool.{cases_eq}
use Rattle.std.proofs.lemmas.List.Elements.{All-cons, All-head, All-nil, All-tail}
use Rattle.dwarf_source_frames.specs.AddressFrames.{AreFramesOf}
use Rattle.dwarf_source_frames.specs.DebugSections.{debug_sections}
use Rattle.dwarf_source_frames.specs.Frames.{FrameRecord}
use Rattle.dwarf_frame_changes.specs.Given.{AreTurnsOf, IsTurnWithFrames, TurnRecord, addresses}
use Rattle.dwarf_frame_changes.specs.Turns.{IsTurn}
use Rattle.table_source_frames_build.specs.TurnSteps.{step_of_turn, steps_of_turns}
use Rattle.table_source_frames.specs.Steps.{Stays, StepRecord, starts_of}

-- the frames of an address, where there is a turn; else there is none
abbrev Known : List ℕ → List TurnRecord → ℕ → Type 0
Known image turns a = ((frames : List FrameRecord) × AreFramesOf image a frames) ⊎ (Contains (addresses turns) a → ⊥)

known : (image : List ℕ) (turns : List TurnRecord) (a : ℕ) → All (IsTurnWithFrames (debug_sections image)) turns → Known image turns a
known image [] a each = inr (λ c. omega (arith, c.1))
known image (turn ∷ turns) a each = elim (cases_eq turn.address a) [
  | inl here ↦ inl (turn.frames, subst (λ n. AreFramesOf image n turn.frames) here (All-head (IsTurnWithFrames (debug_sections image)) turn turns each).1)
  | inr other ↦ elim (known image turns a (All-tail (IsTurnWithFrames (debug_sections image)) turn turns each)) [
    | inl found ↦ inl found
    | inr none ↦ inr (later other none)
  ]
]
  where
    later : (turn.address ≡ a → ⊥) → (Contains (addresses turns) a → ⊥) → Contains (addresses (turn ∷ turns)) a → ⊥
    later other none (zero, within, is) = other is
    later other none (suc k, within, is) = none (k, omega (arith, within), is)

module _ (image : List ℕ)
    (same : (a b : ℕ) (frames : List FrameRecord) → a < b → b < 2 ^ 64
    → ((turn : ℕ) → a < turn → turn ≤ b → IsTurn image turn → ⊥) → AreFramesOf image a frames
    → AreFramesOf image b frames)
    (empty : (a : ℕ) → a < 2 ^ 64 → ((turn : ℕ) → turn ≤ a → IsTurn image turn → ⊥) → AreFramesOf image a []) where
  -- the frames of the next address, which is no turn
  next : (a : ℕ) (frames : List FrameRecord) → suc a < 2 ^ 64 → (IsTurn image (suc a) → ⊥) → AreFramesOf image a frames → AreFramesOf image (suc a) frames
  next a frames fits none are = same a (suc a) frames (omega arith) fits (λ turn less upto is. none (subst (IsTurn image) (omega (arith, less, upto)) is)) are

  -- those of address 0, if it is no turn
  first : (IsTurn image 0 → ⊥) → AreFramesOf image 0 []
  first none = empty 0 (omega arith) (λ turn upto is. none (subst (IsTurn image) (omega (arith, upto)) is))

  -- each address has frames
  module _ (turns : List TurnRecord) (are : AreTurnsOf image turns) where
    frames_there : (a : ℕ) → a < 2 ^ 64 → (frames : List FrameRecord) × AreFramesOf image a frames
    frames_there zero fits = elim (known image turns 0 are.each) [
      | inl found ↦ found
      | inr none ↦ ([], first (λ is. none (are.all 0 is)))
    ]
    frames_there (suc a) fits = elim (known image turns (suc a) are.each) [
      | inl found ↦ found
      | inr none ↦
          let before = frames_there a (omega (arith, fits)) in
          (before.0, next a before.0 fits (λ is. none (are.all (suc a) is)) before.1)
    ]

    pub stays : (a : ℕ) → a < 2 ^ 64 → (IsTurn image a → ⊥) → Stays image a
    stays zero fits none = record { frames = []; are_before = refl; are_frames = first none }
    stays (suc a) fits none =
        let before = frames_there a (omega (arith, fits)) in
        record { frames = before.0; are_before = before.1; are_frames = next a before.0 fits none before.1 }

-- ---- turns as steps

same_starts : (turns : List TurnRecord) → addresses turns ≡ starts_of (steps_of_turns turns)
same_starts [] = refl
same_starts (turn ∷ turns) = λ i. turn.address ∷ same_starts turns i

pub start_there : (image : List ℕ) (turns : List TurnRecord) (a : ℕ) → AreTurnsOf image turns → IsTurn image a → Contains (starts_of (steps_of_turns turns)) a
start_there image turns a are is = subst (λ l. Contains l a) (same_starts turns) (are.all a is)

small : (image : List ℕ) (turns : List TurnRecord) → All (IsTurnWithFrames (debug_sections image)) turns
    → All (λ (s : StepRecord). s.start < 2 ^ 64) (steps_of_turns turns)
small image [] each = All-nil (λ (s : StepRecord). s.start < 2 ^ 64)
small image (turn ∷ turns) each =
    All-cons (λ (s : StepRecord). s.start < 2 ^ 64) (step_of_turn turn) (steps_of_turns turns)
    (All-head (IsTurnWithFrames (debug_sections image)) turn turns each).0.0
    (small image turns (All-tail (IsTurnWithFrames (debug_sections image)) turn turns each))

right : (image : List ℕ) (turns : List TurnRecord) → All (IsTurnWithFrames (debug_sections image)) turns
    → All (λ (s : StepRecord). AreFramesOf image s.start s.frames) (steps_of_turns turns)
right image [] each = All-nil (λ (s : StepRecord). AreFramesOf image s.start s.frames)
right image (turn ∷ turns) each =
    All-cons (λ (s : StepRecord). AreFramesOf image s.start s.frames) (step_of_turn turn) (steps_of_turns turns)
    (All-head (IsTurnWithFrames (debug_sections image)) turn turns each).1
    (right image turns (All-tail (IsTurnWithFrames (debug_sections image)) turn turns each))

pub starts_small : (image : List ℕ) (turns : List TurnRecord) → AreTurnsOf image turns → All (λ (s : StepRecord). s.start < 2 ^ 64) (steps_of_turns turns)
starts_small image turns are = small image turns are.each

pub frames_right : (image : List ℕ) (turns : List TurnRecord) → AreTurnsOf image turns
    → All (λ (s : StepRecord). AreFramesOf image s.start s.frames) (steps_of_turns turns)
frames_right image turns are = right image turns are.each
