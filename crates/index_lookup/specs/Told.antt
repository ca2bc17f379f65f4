-- The fields of the entries of an index, and the answers of the tables that may be stored where they say.
use Rattle.std.specs.Prelude.{◌≡◌, ◌&&◌, ◌==◌, ℕ, Bool, List, [], slice_index, Option, MatchOption}
use Rattle.macho_symbols.specs.Found.{FoundRecord}
use Rattle.table_checked_pages.specs.Pages.{Claim, MayBeStored}
use Rattle.table_symbols.specs.Opened.{AreHeaded}
use Rattle.table_symbols.specs.Steps.{AreBytes}
use Rattle.dwarf_source_frames.specs.AddressFrames.{AreFramesOf}
use Rattle.dwarf_source_frames.specs.Frames.{FrameRecord}
use Rattle.table_source_frames.specs.OfBytes.{AreFramesIn, HaveNoLines}
use Rattle.table_source_frames.specs.SliceTable.{HasNoLines, IsSliceTable}
use Rattle.archive_core.specs.Content.{is_admission}
use Rattle.archive_core.specs.Lookup.{IsOwn, file_address}
use Rattle.archive_core.specs.Part.{is_under}
use Rattle.archive_core.specs.declared.lookup.Where.{Where}

-- an entry is that of an admission, and its key begins with this prefix
abbrev pub admits_under : List ℕ → List ℕ → Bool
admits_under prefix e = is_admission e && is_under prefix e

-- an entry is that of a companion
abbrev pub is_companion : List ℕ → Bool
is_companion e = slice_index e 57 == 1

-- The answer of a table for an address, for any bytes of the index: that of each slice whose table may be stored where
-- the claim says. Whatever bytes may be stored there, they begin with the head of a table of their size.
pub record IsToldBy (text : List ℕ) (claim : Claim) (asked : Where) (own : Option FoundRecord) : Type 0 where
  pub of_slice : (slice table : List ℕ) → AreBytes slice → IsSliceTable slice table → MayBeStored text claim table
      → IsOwn slice asked own
  pub of_bytes : (all : List ℕ) → MayBeStored text claim all → AreHeaded all

-- the frames of a slice for an address: those of its file address, or none if there is none
abbrev pub AreFramesOfPlace : Where → List ℕ → List FrameRecord → Type 0
AreFramesOfPlace asked slice frames =
    MatchOption (file_address slice asked) (frames ≡ []) (λ address. AreFramesOf slice address frames)

-- The frames in a table for an address, for any bytes of the index: those in each slice whose table may be stored where
-- the claim says. Whatever bytes may be stored there, the frames are those of a location in them.
pub record AreFramesToldBy (text : List ℕ) (claim : Claim) (asked : Where) (frames : List FrameRecord) : Type 0 where
  pub of_slice : (slice table : List ℕ) → AreBytes slice → IsSliceTable slice table → MayBeStored text claim table
      → AreFramesOfPlace asked slice frames
  pub of_bytes : (all : List ℕ) → MayBeStored text claim all → AreFramesIn all frames

-- A table has no lines, for any bytes of the index: no slice has any whose table may be stored where the claim says.
-- Whatever bytes may be stored there, they say that there are none.
pub record HasNoLinesBy (text : List ℕ) (claim : Claim) : Type 0 where
  pub of_slice : (slice table : List ℕ) → AreBytes slice → IsSliceTable slice table → MayBeStored text claim table
      → HasNoLines slice
  pub of_bytes : (all : List ℕ) → MayBeStored text claim all → HaveNoLines all
