use Rattle.std.proofs.Common.{◌≡◌, take}
use Rattle.std.specs.List.{All}
use Rattle.archive_core.specs.Key.{IsKey}
use Rattle.command_queries.specs.Frames.{frame_keys}
use Rattle.command_frames.proofs.named.frame_keys.Given as goal

abbrev pub invariant-frames : goal.invariant-frames
invariant-frames l = record { are : l.keys.items ≡ frame_keys (take l.frame-index l.frames); keyed : All IsKey l.keys.items }
