use Rattle.std.proofs.Common.{◌≡◌, Contains, map, take}
use Rattle.std.specs.List.{AllZip}
use Rattle.archive_core.specs.declared.lookup.Where.{Where}
use Rattle.command_queries.specs.InnerSourceFrames.{frames_in, slices_of}
use Rattle.command_queries.specs.SourceFrames.{AreFramesAt}
use Rattle.command_queries.proofs.source_frames.SourceFrames.of.Given as goal

abbrev pub invariant-slices : goal.invariant-slices
invariant-slices g l = record {
  slices : slices_of l.found.items ≡ map (λ slice. slice.now) (take l.slice-index l.slice-items);
  frames : (place : Where) → Contains l.places place → AllZip (AreFramesAt place) (slices_of l.found.items) (map (frames_in place) l.found.items);
}
