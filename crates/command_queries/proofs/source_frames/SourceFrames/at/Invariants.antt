use Rattle.std.proofs.Common.{◌≡◌, map, take}
use Rattle.command_queries.specs.InnerSourceFrames.{frames_in}
use Rattle.text_reports.specs.FrameLists.{lists_view}
use Rattle.command_queries.proofs.source_frames.SourceFrames.at.Given as goal

abbrev pub invariant-slices : goal.invariant-slices
invariant-slices l = lists_view l.lists.items ≡ map (frames_in l.place) (take l.it-index l.self.found.items)
