use Rattle.std.proofs.Common.{◌≡◌, take}
use Rattle.table_source_frames_build.specs.Marks.{mark_of}
use Rattle.table_source_frames_build.proofs.keys.mark_of.Given as goal

abbrev pub invariant-loop-byte : goal.invariant-loop-byte
invariant-loop-byte l = l.mark ≡ mark_of (take l.byte-index l.text)
