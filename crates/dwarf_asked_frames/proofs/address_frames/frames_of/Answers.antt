use Rattle.std.proofs.Common.{get_or, subst}
use Rattle.dwarf_source_frames.specs.AddressFrames.{AreFramesBy}
use Rattle.dwarf_source_frames.specs.DebugSections.{DebugSectionsRecord}
use Rattle.dwarf_asked_frames.specs.FoundFrames.{found_frames}
use Rattle.dwarf_asked_frames.proofs.address_frames.frames_of.Goals as goal

pub returns : goal.returns
returns c = λ i h.
    let a = get_or c.args.addresses.now i 0 in
    subst (λ (s : DebugSectionsRecord). AreFramesBy s a (found_frames c.in_ok-found.found a)) c.in_ok-info.ensures (c.in_ok-found.ensures i h).frames
