-- The frames of links are those of their entries.
use Rattle.std.proofs.Common.{◌≡◌, ◌≤◌, ℕ, zero, suc, length, List, [], ◌∷◌, Option, Some, None, reverse, refl, sym, ap, subst, ◌∙◌, arith}
use Rattle.std.proofs.lemmas.Option.{none-some, same_Some, slice_get_within}
use Rattle.dwarf_lines.specs.Covering.{IsCovering}
use Rattle.dwarf_lines.specs.declared.registers.Row.{Row}
use Rattle.dwarf_entries.specs.Entries.{EntryRecord}
use Rattle.dwarf_source_frames.specs.AddressFrames.{AreFramesInUnit, rows_of}
use Rattle.dwarf_source_frames.specs.DebugSections.{DebugSectionsRecord}
use Rattle.dwarf_source_frames.specs.DebugUnits.{UnitRecord}
use Rattle.dwarf_source_frames.specs.Frames.{AreFramesFrom, AreFramesOfChain, FrameRecord, location_of_call, location_of_row}
use Rattle.dwarf_functions.specs.Links.{AreEntriesOfLink, AreFramesOfLink, AreFramesOfRowAndLink, IsLinkOf, LinkRecord, frame_at_place, link_at}
use Rattle.dwarf_source_frames.specs.Names.{IsName}
use Rattle.dwarf_source_frames.specs.Scopes.{calls_of}
use Rattle.dwarf_source_frames.specs.UnitLines.{LinesRecord, lines_of}
use Rattle.dwarf_source_frames.specs.declared.frame.SourceLocation.{SourceLocation}

no_link : (links : List LinkRecord) (number : ℕ) (link : LinkRecord) → number ≡ 0 → link_at links number ≡ Some link → ⊥
no_link links number link none is = none-some link (subst (λ n. link_at links n ≡ Some link) none is)

frames_from : (s : DebugSectionsRecord) (lines : LinesRecord) (unit : UnitRecord) (links : List LinkRecord) (number : ℕ)
    (place : SourceLocation) (entries : List EntryRecord) (frames : List FrameRecord)
    → AreEntriesOfLink s unit links number entries → AreFramesOfLink lines links place number frames → AreFramesFrom s lines unit place entries frames
frames_from s lines unit links number place [] [] are told = refl
frames_from s lines unit links number place [] (f ∷ fs) are told = absurd (no_link links number told.0 are told.1)
frames_from s lines unit links number place (e ∷ es) [] are told = no_link links number are.0 told are.1
frames_from s lines unit links number place (e ∷ es) (f ∷ fs) are told =
    let same : told.0 ≡ are.0 = same_Some told.0 are.0 (sym told.1 ∙ are.1) in
    let is : f ≡ frame_at_place lines are.0.name place = subst (λ (l : LinkRecord). f ≡ frame_at_place lines l.name place) same told.3 in
    let more : AreFramesOfLink lines links are.0.call are.0.caller fs =
    subst (λ (l : LinkRecord). AreFramesOfLink lines links l.call l.caller fs) same told.4 in (
      record {
        name = subst (λ n. IsName s (record { unit = unit; entry = e }) n) (sym (ap (λ (r : FrameRecord). r.name) is)) are.3;
        path = ap (λ (r : FrameRecord). r.path) is;
        line = ap (λ (r : FrameRecord). r.line) is;
        column = ap (λ (r : FrameRecord). r.column) is;
      },
      frames_from s lines unit links are.0.caller (location_of_call e) es fs are.5
          (subst (λ (p : SourceLocation). AreFramesOfLink lines links p are.0.caller fs) are.4 more),
    )

-- the frames of a row and a link are those of the row and of the entries of the link
frames_of_chain : (s : DebugSectionsRecord) (lines : LinesRecord) (unit : UnitRecord) (links : List LinkRecord)
    (row : Option Row) (number : ℕ) (entries : List EntryRecord) (frames : List FrameRecord)
    → AreEntriesOfLink s unit links number entries → AreFramesOfRowAndLink lines links row number frames → AreFramesOfChain s lines unit entries row frames
frames_of_chain s lines unit links None zero [] frames are told = told
frames_of_chain s lines unit links (Some row) zero [] frames are told = told
frames_of_chain s lines unit links None zero (e ∷ es) frames are told = absurd (none-some are.0 are.1)
frames_of_chain s lines unit links (Some row) zero (e ∷ es) frames are told = absurd (none-some are.0 are.1)
frames_of_chain s lines unit links None (suc n) [] frames are told = absurd (omega (arith, are))
frames_of_chain s lines unit links (Some row) (suc n) [] frames are told = absurd (omega (arith, are))
frames_of_chain s lines unit links None (suc n) (e ∷ es) frames are told =
    frames_from s lines unit links (suc n) (location_of_row None) (e ∷ es) frames are told
frames_of_chain s lines unit links (Some row) (suc n) (e ∷ es) frames are told =
    frames_from s lines unit links (suc n) (location_of_row (Some row)) (e ∷ es) frames are told

-- so they are those of an address in the unit
pub frames_in_unit : (s : DebugSectionsRecord) (unit : UnitRecord) (lines : LinesRecord) (links : List LinkRecord)
    (a number : ℕ) (row : Option Row) (frames : List FrameRecord) → lines ≡ lines_of s unit
    → IsLinkOf s unit links a number → IsCovering (rows_of lines) a row → AreFramesOfRowAndLink lines links row number frames → AreFramesInUnit s unit a frames
frames_in_unit s unit lines links a number row frames same link covers are = record {
  chain = link.chain;
  row = row;
  contain = link.contain;
  covers = subst (λ (l : LinesRecord). IsCovering (rows_of l) a row) same covers;
  are_frames = subst (λ (l : LinesRecord). AreFramesOfChain s l unit (calls_of (reverse link.chain)) row frames) same
      (frames_of_chain s lines unit links row number (calls_of (reverse link.chain)) frames link.are_entries are);
}

-- the number of a link is among those of the links
pub number_within : (s : DebugSectionsRecord) (unit : UnitRecord) (links : List LinkRecord) (number : ℕ)
    (entries : List EntryRecord) → AreEntriesOfLink s unit links number entries → number ≤ length links
number_within s unit links number [] are = omega (arith, are)
number_within s unit links zero (e ∷ es) are = omega arith
number_within s unit links (suc n) (e ∷ es) are = let w = slice_get_within links n are.0 are.1 in omega (arith, w)
