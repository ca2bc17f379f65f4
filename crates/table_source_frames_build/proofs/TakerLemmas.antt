-- A store that takes turns.
use Rattle.std.proofs.Common.{◌≡◌, List, [], ◌∷◌, ◌++◌, sym, ap, ◌∙◌}
use Rattle.std.proofs.lemmas.List.{append-nil, map-append}
use Rattle.dwarf_frame_changes.specs.Given.{Takes, TurnRecord}
use Rattle.table_source_frames_build.specs.TurnSteps.{step_of_turn, steps_of_turns}
use Rattle.table_source_frames.specs.Steps.{StepRecord}

-- what has taken some turns has taken one more
pub takes_turn : (old new : List StepRecord) (turn : TurnRecord) → new ≡ old ++ step_of_turn turn ∷ []
    → Takes (λ turns. old ≡ steps_of_turns turns) (λ turns. new ≡ steps_of_turns turns) (turn ∷ [])
takes_turn old new turn is before had =
    is ∙ ap (λ steps. steps ++ step_of_turn turn ∷ []) had ∙ sym (map-append step_of_turn before (turn ∷ []))

-- what has taken some turns has taken no more
pub takes_none : (old new : List StepRecord) → new ≡ old
    → Takes (λ turns. old ≡ steps_of_turns turns) (λ turns. new ≡ steps_of_turns turns) []
takes_none old new is before had = is ∙ had ∙ ap steps_of_turns (sym (append-nil before))
