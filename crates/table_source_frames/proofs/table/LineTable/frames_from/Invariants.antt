use Rattle.std.proofs.Common.{◌≡◌, ℕ, ◌≤◌, List, ◌++◌, length, Some}
use Rattle.table_checked_pages.specs.Views.{ArePagesOf}
use Rattle.dwarf_source_frames.specs.Frames.{FrameRecord}
use Rattle.table_source_frames.specs.FrameViews.{owned_frames}
use Rattle.table_source_frames.specs.Inner.{HasPosition}
use Rattle.table_source_frames.specs.LineText.{parts_of}
use Rattle.table_source_frames.specs.Opened.{IsOpened}
use Rattle.table_source_frames.specs.Steps.{StepRecord}
use Rattle.table_source_frames.proofs.ByteLemmas.{AreFrom}
use Rattle.table_source_frames.proofs.table.LineTable.frames_from.Given as goal

abbrev pub invariant-callers : goal.invariant-callers
invariant-callers g l = record {
  claim : l.pages.claim ≡ l.initial.pages.claim;
  whole : g.P.Placed.whole l.device ≡ g.P.Placed.whole l.initial.device;
  unfailed : g.P.Placed.failures l.device ≡ g.P.Placed.failures l.initial.device;
  keeps : (text all : List ℕ) → g.P.Placed.whole l.initial.device ≡ Some text → ArePagesOf l.initial.pages text all → ArePagesOf l.pages text all;
  told : (text all strings : List ℕ) (steps : List StepRecord) (chain : List FrameRecord) → g.P.Placed.whole l.initial.device
      ≡ Some text → IsOpened l.self l.initial.pages text all strings steps
      → HasPosition (parts_of strings steps) l.fn.from chain → length chain ≤ 256 → (rest : List FrameRecord)
      × HasPosition (parts_of strings steps) l.position rest × (owned_frames l.frames.items ++ rest ≡ chain);
  bytes : (text all : List ℕ) → g.P.Placed.whole l.initial.device ≡ Some text → ArePagesOf l.initial.pages text all
      → (rest : List FrameRecord) → AreFrom l.self all l.position rest
      → AreFrom l.self all l.fn.from (owned_frames l.frames.items ++ rest);
}

abbrev pub decreases-callers : goal.decreases-callers
decreases-callers g l = l.position.scope
