-- The functions of the chains of addresses, as links that addresses share.
use Rattle.std.specs.Prelude.{ℕ, zero, suc, List, [], ◌∷◌, ◌≡◌, ◌<◌, ◌≤◌, ◌↔◌, length, flat_map, slice_get}
use Rattle.std.specs.Prelude.{reverse, slice_index, Option, Some, None}
use Rattle.std.specs.List.{Contains}
use Rattle.dwarf_ranges.specs.declared.range.CodeRange.{CodeRange}
use Rattle.dwarf_entries.specs.Entries.{EntryRecord}
use Rattle.dwarf_functions.specs.AddressSteps.{at_step}
use Rattle.dwarf_source_frames.specs.DebugSections.{DebugSectionsRecord}
use Rattle.dwarf_source_frames.specs.DebugUnits.{UnitRecord}
use Rattle.dwarf_source_frames.specs.Frames.{FrameRecord, path_in, location_of_call, location_of_row}
use Rattle.dwarf_source_frames.specs.Names.{IsName}
use Rattle.dwarf_asked_addresses.specs.Rising.{AreRising}
use Rattle.dwarf_source_frames.specs.Scopes.{IsChain, ScopeRecord, calls_of, scopes_of}
use Rattle.dwarf_source_frames.specs.UnitLines.{LinesRecord}
use Rattle.dwarf_source_frames.specs.declared.frame.SourceLocation.{SourceLocation}
use Rattle.dwarf_lines.specs.declared.registers.Row.{Row}

-- a link: the name of a function, the source location of its call, and the number of the link that calls it, from 1 on,
-- or 0
pub record LinkRecord : Type 0 where
  pub name : Option (List ℕ)
  pub call : SourceLocation
  pub caller : ℕ

-- the link with a number, from 1 on
abbrev pub link_at : List LinkRecord → ℕ → Option LinkRecord
link_at links zero = None
link_at links (suc index) = slice_get links index

-- the number is that of the link of these entries, the innermost first, each called by the next one; 0 is that of no
-- entries
abbrev pub AreEntriesOfLink :
    DebugSectionsRecord → UnitRecord → List LinkRecord → ℕ → List EntryRecord → Type 0
AreEntriesOfLink sections unit links number [] = number ≡ 0
AreEntriesOfLink sections unit links number (e ∷ es) =
    (link : LinkRecord) × (link_at links number ≡ Some link) × (link.caller < number)
    × IsName sections (record { unit = unit; entry = e }) link.name × (link.call ≡ location_of_call e)
    × AreEntriesOfLink sections unit links link.caller es

-- the link with a number has the calls of the chain of an address, among some entries of a unit
pub record IsLinkAmong (sections : DebugSectionsRecord) (unit : UnitRecord) (scopes : List ScopeRecord)
    (links : List LinkRecord) (address number : ℕ) : Type 0 where
  pub chain : List EntryRecord
  pub contain : IsChain address scopes chain
  pub are_entries : AreEntriesOfLink sections unit links number (calls_of (reverse chain))

-- the link with a number has the calls of the chain of an address, among all entries of a unit
abbrev pub IsLinkOf : DebugSectionsRecord → UnitRecord → List LinkRecord → ℕ → ℕ → Type 0
IsLinkOf sections unit links address number = IsLinkAmong sections unit (scopes_of sections unit) links address number

-- the addresses at which ranges begin and end
abbrev pub ends_of_ranges : List CodeRange → List ℕ
ends_of_ranges ranges = flat_map (λ range. range.low ∷ range.high ∷ []) ranges

-- each link is called by an earlier link, or by none
abbrev pub AreCallersBefore : List LinkRecord → Type 0
AreCallersBefore links = (i : ℕ) (link : LinkRecord) → slice_get links i ≡ Some link → link.caller ≤ i

-- each of the addresses has the number of its link, among some entries of a unit
pub record AreLinksAmong (sections : DebugSectionsRecord) (unit : UnitRecord) (scopes : List ScopeRecord)
    (links : List LinkRecord) (addresses numbers : List ℕ) : Type 0 where
  pub count : length numbers ≡ length addresses
  pub each : (i : ℕ) → i < length addresses
      → IsLinkAmong sections unit scopes links (slice_index addresses i) (slice_index numbers i)
  pub callers : AreCallersBefore links

-- each of the addresses has the number of its link, among all entries of a unit
abbrev pub AreLinksOf : DebugSectionsRecord → UnitRecord → List LinkRecord → List ℕ → List ℕ → Type 0
AreLinksOf sections unit links addresses numbers =
    AreLinksAmong sections unit (scopes_of sections unit) links addresses numbers

-- a step at exactly the addresses at which the ranges of functions begin or end, ascending, each with the number of the
-- link of the addresses from there up to the next step
pub record AreLinkSteps (sections : DebugSectionsRecord) (unit : UnitRecord) (links : List LinkRecord)
    (starts numbers : List ℕ) : Type 0 where
  pub rising : AreRising starts
  pub same : (a : ℕ) → Contains starts a
      ↔ Contains (flat_map (λ scope. ends_of_ranges scope.ranges) (scopes_of sections unit)) a
  pub count : length numbers ≡ length starts
  pub each : (a : ℕ) → IsLinkOf sections unit links a (at_step 0 starts numbers a)
  pub callers : AreCallersBefore links

-- the frame with a name at a source location
abbrev pub frame_at_place : LinesRecord → Option (List ℕ) → SourceLocation → FrameRecord
frame_at_place lines name place =
    record { name = name; path = path_in lines place.file; line = place.line; column = place.column }

-- the frames of the link with a number, the innermost first, which has the given source location; each other frame has
-- the location of the call of the frame before it
abbrev pub AreFramesOfLink : LinesRecord → List LinkRecord → SourceLocation → ℕ → List FrameRecord → Type 0
AreFramesOfLink lines links place number [] = number ≡ 0
AreFramesOfLink lines links place number (f ∷ fs) =
    (link : LinkRecord) × (link_at links number ≡ Some link) × (link.caller < number)
    × (f ≡ frame_at_place lines link.name place)
    × AreFramesOfLink lines links link.call link.caller fs

-- the frames of a row and of the link with a number: if there is no link, a row has one frame without a name
abbrev pub AreFramesOfRowAndLink : LinesRecord → List LinkRecord → Option Row → ℕ → List FrameRecord → Type 0
AreFramesOfRowAndLink lines links None zero frames = frames ≡ []
AreFramesOfRowAndLink lines links (Some row) zero frames =
    frames ≡ frame_at_place lines None (location_of_row (Some row)) ∷ []
AreFramesOfRowAndLink lines links row (suc index) frames =
    AreFramesOfLink lines links (location_of_row row) (suc index) frames
