-- Turns as the steps that a store accepts.
use Rattle.std.specs.Prelude.{List, map}
use Rattle.dwarf_frame_changes.specs.Given.{TurnRecord}
use Rattle.table_source_frames.specs.Steps.{StepRecord}

-- the frames from the address of a turn on are those of the turn
abbrev pub step_of_turn : TurnRecord → StepRecord
step_of_turn turn = record { start = turn.address; frames = turn.frames }

-- the steps of these turns
abbrev pub steps_of_turns : List TurnRecord → List StepRecord
steps_of_turns turns = map step_of_turn turns
