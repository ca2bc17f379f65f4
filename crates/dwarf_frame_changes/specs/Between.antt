-- The turns of a unit between two boundaries, merged from the steps of its rows and of its links: definitions of inner
-- functions. No contract of a public function uses them.
use Rattle.std.specs.Prelude.{ℕ, List, ◌≡◌, ◌<◌, ◌≤◌, ◌^◌, ◌⊎◌, length, slice_index, nat_le, if◌then◌else◌}
use Rattle.std.specs.Prelude.{Option, Some, None, IfSome, MatchOption, All, Contains}
use Rattle.dwarf_functions.specs.Links.{AreFramesOfRowAndLink, LinkRecord}
use Rattle.dwarf_functions.specs.LinkViews.{links_view}
use Rattle.dwarf_functions.specs.declared.links.Links.{Links}
use Rattle.dwarf_lines.specs.declared.registers.Row.{Row}
use Rattle.dwarf_functions.specs.AddressSteps.{at_step}
use Rattle.dwarf_functions.specs.declared.row_steps.RowSteps.{RowSteps}
use Rattle.dwarf_source_frames.specs.Frames.{FrameRecord}
use Rattle.dwarf_source_frames.specs.UnitLines.{LinesRecord}
use Rattle.dwarf_asked_addresses.specs.Rising.{AreRising, IsCountBelow}
use Rattle.dwarf_frame_changes.specs.Given.{TurnRecord, addresses}

-- the rows and the links of addresses, step by step, and the parts from which their frames are built
pub record PartsRecord : Type 0 where
  pub lines : LinesRecord
  pub links : List LinkRecord
  pub row_starts : List ℕ
  pub rows : List (Option Row)
  pub link_starts : List ℕ
  pub numbers : List ℕ

-- the parts of a unit
abbrev pub parts_of : LinesRecord → RowSteps → Links → PartsRecord
parts_of lines rows links =
    record {
      lines = lines;
      links = links_view links.links.items;
      row_starts = rows.starts.items;
      rows = rows.rows.items;
      link_starts = links.starts.items;
      numbers = links.numbers.items;
    }

-- each list of steps has as many starts as values, and the starts ascend
pub record AreSteps (parts : PartsRecord) : Type 0 where
  pub rows_rise : AreRising parts.row_starts
  pub links_rise : AreRising parts.link_starts
  pub row_count : length parts.rows ≡ length parts.row_starts
  pub number_count : length parts.numbers ≡ length parts.link_starts
  pub within : (i : ℕ) → i < length parts.numbers → slice_index parts.numbers i ≤ length parts.links

-- `count` of the starts, which ascend, are at or below an address
pub record IsCountTo (starts : List ℕ) (address count : ℕ) : Type 0 where
  pub within : count ≤ length starts
  pub upto : (i : ℕ) → i < count → slice_index starts i ≤ address
  pub above : (i : ℕ) → count ≤ i → i < length starts → address < slice_index starts i

-- an address is below another one, if there is one
abbrev pub IsBelow : ℕ → Option ℕ → Type 0
IsBelow address end = IfSome end (λ e. address < e)

-- the first start above an address, if there is one
abbrev pub IsNextAbove : List ℕ → ℕ → Option ℕ → Type 0
IsNextAbove starts address found =
    MatchOption found
    ((a : ℕ) → Contains starts a → a ≤ address)
    (λ next. (address < next) × Contains starts next × ((a : ℕ) → Contains starts a → address < a → next ≤ a))

-- the lesser of two numbers; the other one if one is missing
abbrev pub least : Option ℕ → Option ℕ → Option ℕ
least (Some a) (Some b) = Some (if nat_le a b then a else b)
least (Some a) None = Some a
least None b = b

-- an address is among the starts of rows or among those of links
abbrev pub IsStart : List ℕ → List ℕ → ℕ → Type 0
IsStart rows links address = Contains rows address ⊎ Contains links address

-- the first start above an address, if there is one; `row` starts of rows and `link` starts of links are below that
-- start
abbrev pub IsNextStart : List ℕ → List ℕ → ℕ → ℕ → ℕ → Option ℕ → Type 0
IsNextStart rows links address row link found =
    MatchOption found
    ((a : ℕ) → IsStart rows links a → a ≤ address)
    (λ next. (address < next) × IsStart rows links next × ((a : ℕ) → IsStart rows links a → address < a → next ≤ a)
    × IsCountBelow rows next row × IsCountBelow links next link)

-- an address from another one on, below an end: it is that other one, or a step begins there
pub record IsMerged (parts : PartsRecord) (from : ℕ) (end : Option ℕ) (address : ℕ) : Type 0 where
  pub not_below : from ≤ address
  pub below : IsBelow address end
  pub begins : (address ≡ from) ⊎ IsStart parts.row_starts parts.link_starts address

-- the frames of the row and of the link of an address
abbrev pub AreFramesAt : PartsRecord → ℕ → List FrameRecord → Type 0
AreFramesAt parts address frames =
    AreFramesOfRowAndLink parts.lines parts.links
    (at_step None parts.row_starts parts.rows address)
    (at_step 0 parts.link_starts parts.numbers address)
    frames

-- an address with the frames of its row and its link
pub record IsTurnOfParts (parts : PartsRecord) (turn : TurnRecord) : Type 0 where
  pub fits : turn.address < 2 ^ 64
  pub frames : AreFramesAt parts turn.address turn.frames

-- each of these addresses, ascending, with its frames
pub record AreTurnsBetween (parts : PartsRecord) (from : ℕ) (end : Option ℕ) (turns : List TurnRecord) : Type 0 where
  pub each : All (λ turn. IsMerged parts from end turn.address × IsTurnOfParts parts turn) turns
  pub all : (a : ℕ) → IsMerged parts from end a → Contains (addresses turns) a
  pub rising : AreRising (addresses turns)

-- an address from another one on, with no start between them: it is that other one, or a step begins there
pub record IsFrom (parts : PartsRecord) (starts : List ℕ) (from address : ℕ) : Type 0 where
  pub not_below : from ≤ address
  pub none_between : (a : ℕ) → Contains starts a → from < a → address < a
  pub begins : (address ≡ from) ⊎ IsStart parts.row_starts parts.link_starts address

-- each of the addresses from these starts on, ascending, with its frames
pub record AreTurnsFrom (parts : PartsRecord) (starts froms : List ℕ) (turns : List TurnRecord) : Type 0 where
  pub each : All (λ turn. ((from : ℕ) × Contains froms from × IsFrom parts starts from turn.address)
      × IsTurnOfParts parts turn) turns
  pub all : (from a : ℕ) → Contains froms from → IsFrom parts starts from a → Contains (addresses turns) a
  pub rising : AreRising (addresses turns)
