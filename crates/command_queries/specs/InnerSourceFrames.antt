-- The frames found in slices: definitions for private functions. No public contract uses them.
use Rattle.std.specs.Prelude.{◌≡◌, ℕ, List, [], Bool, true, false, map}
use Rattle.std.specs.List.{AllZip}
use Rattle.std.specs.Option.{option_map_or}
use Rattle.archive_core.specs.Content.{Operations}
use Rattle.archive_core.specs.Find.{AreAnswering}
use Rattle.archive_core.specs.Lookup.{file_address}
use Rattle.archive_core.specs.declared.keys.SliceKey.{SliceKey}
use Rattle.archive_core.specs.declared.lookup.Where.{Where}
use Rattle.dwarf_asked_frames.specs.FoundFrames.{frames_under}
use Rattle.dwarf_source_frames.specs.Frames.{FrameRecord}
use Rattle.command_queries.specs.SourceFrames.{AreFramesAt}
use Rattle.command_queries.specs.declared.source_frames.SlicedFrames.{SlicedFrames}

-- the frames found in a slice for an address
abbrev pub frames_in : Where → SlicedFrames → List FrameRecord
frames_in place it = option_map_or (λ address. frames_under it.frames address) (file_address it.slice.now place) []

-- the slices
abbrev pub slices_of : List SlicedFrames → List (List ℕ)
slices_of found = map (λ it. it.slice.now) found

-- the found frames are those of the slices that answer under the key, for this address in each; or none, if no lines
-- are wanted
abbrev pub AreSourceFramesOf : Operations → SliceKey → Bool → Where → List SlicedFrames → Type 0
AreSourceFramesOf o key true place found =
    AreAnswering o key (slices_of found) × AllZip (AreFramesAt place) (slices_of found) (map (frames_in place) found)
AreSourceFramesOf o key false place found = found ≡ []
