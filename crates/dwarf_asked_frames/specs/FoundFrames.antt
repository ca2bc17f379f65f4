-- The frames that were found for addresses.
use Rattle.std.specs.Prelude.{ℕ, List, [], map, Option, Some, None, IfSome}
use Rattle.std.specs.Ordering.{nat_cmp}
use Rattle.std.specs.BTreeMap as tree_map
use Rattle.dwarf_source_frames.specs.AddressFrames.{AreFramesBy}
use Rattle.dwarf_source_frames.specs.DebugSections.{DebugSectionsRecord}
use Rattle.dwarf_source_frames.specs.Frames.{FrameRecord}
use Rattle.dwarf_source_frames.specs.FrameViews.{frame_view}
use Rattle.dwarf_asked_frames.specs.declared.address_frames.AddressFrames.{AddressFrames}
use Rattle.dwarf_asked_frames.specs.declared.found.FrameList.{FrameList}

-- the frames of a list
abbrev pub frames_of_list : FrameList → List FrameRecord
frames_of_list list = map (λ f. frame_view f) list.frames.items

-- the frames of a list; none without a list
abbrev pub frames_or_none : Option FrameList → List FrameRecord
frames_or_none None = []
frames_or_none (Some list) = frames_of_list list

-- the frames that were found for an address
abbrev pub found_frames : tree_map.BTreeMap ℕ FrameList → ℕ → List FrameRecord
found_frames found address = frames_or_none (tree_map.get nat_cmp found address)

-- the frames of an address
abbrev pub frames_under : AddressFrames → ℕ → List FrameRecord
frames_under frames address = found_frames frames.found address

-- the frames that were found are right
pub record AreRight (sections : DebugSectionsRecord) (found : tree_map.BTreeMap ℕ FrameList) : Type 0 where
  pub each : (address : ℕ) →
      IfSome (tree_map.get nat_cmp found address) (λ list. AreFramesBy sections address (frames_of_list list))

-- all frames of an address were found
pub record IsFound (sections : DebugSectionsRecord) (found : tree_map.BTreeMap ℕ FrameList) (address : ℕ) : Type 0 where
  pub frames : AreFramesBy sections address (found_frames found address)
