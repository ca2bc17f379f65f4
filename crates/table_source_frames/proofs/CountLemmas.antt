-- An address has at most 256 frames.
use Rattle.std.proofs.Common.{◌≡◌, ℕ, zero, suc, ◌≤◌, List, [], ◌∷◌, length, reverse, ap, arith, Option, Some, None}
use Rattle.std.specs.Option.{option_and_then}
use Rattle.std.proofs.lemmas.List.{length-reverse}
use Rattle.dwarf_entries.specs.Entries.{EntryRecord}
use Rattle.dwarf_lines.specs.declared.registers.Row.{Row}
use Rattle.dwarf_source_frames.specs.AddressFrames.{AreFramesIn, AreFramesOf}
use Rattle.dwarf_source_frames.specs.DebugSections.{DebugSectionsRecord, debug_sections}
use Rattle.dwarf_source_frames.specs.DebugUnits.{UnitRecord}
use Rattle.dwarf_source_frames.specs.Frames.{FrameRecord, AreFramesFrom, AreFramesOfChain, location_of_call, location_of_row}
use Rattle.dwarf_source_frames.specs.Scopes.{IsChainWithin, ScopeRecord, calls_of}
use Rattle.dwarf_source_frames.specs.UnitAddresses.{read_unit}
use Rattle.dwarf_source_frames.specs.UnitLines.{LinesRecord, lines_of}
use Rattle.dwarf_source_frames.proofs.ScopeLemmas.{few_calls}
use Rattle.dwarf_source_frames.specs.declared.frame.SourceLocation.{SourceLocation}

few_entries : (room address : ℕ) (scopes : List ScopeRecord) (outer : Option ℕ) (chain : List EntryRecord)
    → IsChainWithin room address scopes outer chain → length chain ≤ room
few_entries zero address scopes outer chain is = omega (arith, ap length is)
few_entries (suc room) address scopes outer [] is = omega arith
few_entries (suc room) address scopes outer (e ∷ chain) is = omega (arith, few_entries room address scopes (Some is.0) chain is.5)

as_many : (s : DebugSectionsRecord) (lines : LinesRecord) (unit : UnitRecord) (location : SourceLocation)
    (chain : List EntryRecord) (frames : List FrameRecord) → AreFramesFrom s lines unit location chain frames
    → length frames ≡ length chain
as_many s lines unit location [] frames are = ap length are
as_many s lines unit location (e ∷ es) [] are = absurd are
as_many s lines unit location (e ∷ es) (f ∷ fs) are = ap suc (as_many s lines unit (location_of_call e) es fs are.1)

few_of_chain : (s : DebugSectionsRecord) (lines : LinesRecord) (unit : UnitRecord) (chain : List EntryRecord) (row : Option Row) (frames : List FrameRecord)
    → AreFramesOfChain s lines unit chain row frames → length chain ≤ 256 → length frames ≤ 256
few_of_chain s lines unit [] None frames are few = omega (arith, ap length are)
few_of_chain s lines unit [] (Some row) frames are few = omega (arith, ap length are)
few_of_chain s lines unit (e ∷ es) row frames are few = omega (arith, as_many s lines unit (location_of_row row) (e ∷ es) frames are, few)

few_in : (s : DebugSectionsRecord) (unit : Option UnitRecord) (address : ℕ) (frames : List FrameRecord)
    → AreFramesIn s unit address frames → length frames ≤ 256
few_in s None address frames are = omega (arith, ap length are)
few_in s (Some unit) address frames are =
    few_of_chain s (lines_of s unit) unit (calls_of (reverse are.chain)) are.row frames are.are_frames
    (omega (arith, few_calls (reverse are.chain), length-reverse are.chain, few_entries 256 address _ None are.chain are.contain))

pub few_frames : (image : List ℕ) (address : ℕ) (frames : List FrameRecord) → AreFramesOf image address frames → length frames ≤ 256
few_frames image address frames are = few_in (debug_sections image) (option_and_then (read_unit (debug_sections image)) are.place) address frames are.are_frames
