-- The numbers that a sink returned for the paths and the links of a unit: definitions of inner functions. No contract
-- of a public function uses them.
use Rattle.std.specs.Prelude.{ℕ, List, [], ◌∷◌, ◌≡◌, Option, None, Some, IfSome, length, slice_get}
use Rattle.std.specs.Ordering.{nat_cmp}
use Rattle.std.specs.BTreeMap as tree_map
use Rattle.dwarf_lines.specs.Paths.{PathRecord}
use Rattle.dwarf_lines.specs.declared.registers.Row.{Row}
use Rattle.dwarf_source_frames.specs.Frames.{FrameRecord, frame_of_row, path_in}
use Rattle.dwarf_functions.specs.Links.{AreCallersBefore, AreFramesOfLink, LinkRecord}
use Rattle.dwarf_functions.specs.LinkViews.{link_view, links_view}
use Rattle.dwarf_functions.specs.declared.links.Link.{Link}
use Rattle.dwarf_functions.specs.declared.links.Links.{Links}
use Rattle.dwarf_source_frames.specs.UnitLines.{LinesRecord}
use Rattle.dwarf_frame_changes.specs.declared.merging.UnitParts.{UnitParts}
use Rattle.dwarf_frame_changes.specs.declared.names.Names.{Names}
use Rattle.dwarf_frame_changes.specs.declared.numbers.Linked.{Linked}
use Rattle.dwarf_frame_changes.specs.declared.numbers.Paths.{Paths}

-- the number of the path of a file, among the names of a program
abbrev pub IsPathNumber : (ℕ → Option PathRecord → Type 0) → LinesRecord → Option ℕ → ℕ → Type 0
IsPathNumber tells lines file number = tells number (path_in lines file)

-- each kept number is that of the path of its file
pub record ArePathNumbers (tells : ℕ → Option PathRecord → Type 0) (lines : LinesRecord) (paths : Paths) : Type 0 where
  pub by_index : (index : ℕ) →
      IfSome (tree_map.get nat_cmp paths.by_index index) (IsPathNumber tells lines (Some index))
  pub last : IfSome paths.last (λ known. IsPathNumber tells lines (Some known.0) known.1)

-- each kept number is that of the name of the links whose name has its index
pub record AreNameNumbers (tells : ℕ → Option (List ℕ) → Type 0) (links : Links) (names : Names) : Type 0 where
  pub count : length names.by_number.items ≡ links.name_count
  pub each : (i : ℕ) (link : Link) (number : ℕ) → slice_get links.links.items i ≡ Some link
      → slice_get names.by_number.items link.name_number ≡ Some (Some number) → tells number (link_view link).name

-- the numbers of the name of a link, and of the frames of the links that call it; the first of those frames has the
-- location of the call
pub record IsLinked (names : ℕ → Option (List ℕ) → Type 0) (frames : ℕ → List FrameRecord → Type 0)
    (lines : LinesRecord) (links : List LinkRecord) (link : LinkRecord) (linked : Linked) : Type 0 where
  pub name : names linked.name link.name
  pub outer : List FrameRecord
  pub are_outer : AreFramesOfLink lines links link.call link.caller outer
  pub callers : frames linked.callers outer

-- the numbers of the link at an index
abbrev pub IsLinkedAt : (ℕ → Option (List ℕ) → Type 0) → (ℕ → List FrameRecord → Type 0) → LinesRecord
    → List LinkRecord → ℕ → Linked → Type 0
IsLinkedAt names frames lines links index linked =
    (link : LinkRecord) → slice_get links index ≡ Some link → IsLinked names frames lines links link linked

-- the numbers of the first `count` links
pub record AreLinked (names : ℕ → Option (List ℕ) → Type 0) (frames : ℕ → List FrameRecord → Type 0)
    (lines : LinesRecord) (links : List LinkRecord) (count : ℕ) (all : List Linked) : Type 0 where
  pub count_is : length all ≡ count
  pub each : (i : ℕ) (linked : Linked) → slice_get all i ≡ Some linked
      → IsLinkedAt names frames lines links i linked

-- the kept paths and the links of a unit have their numbers
pub record ArePartsTold (numbers_name : ℕ → Option (List ℕ) → Type 0) (numbers_path : ℕ → Option PathRecord → Type 0)
    (numbers_frames : ℕ → List FrameRecord → Type 0) (lines : LinesRecord) (parts : UnitParts) : Type 0 where
  pub paths : ArePathNumbers numbers_path lines parts.paths
  pub callers : AreCallersBefore (links_view parts.links.links.items)
  pub linked : AreLinked numbers_name numbers_frames lines (links_view parts.links.links.items)
      (length parts.links.links.items) parts.linked.items

-- the frame of a row alone, which has no function; none without a row
abbrev pub row_frames : LinesRecord → Option Row → List FrameRecord
row_frames lines None = []
row_frames lines (Some row) = frame_of_row lines row ∷ []
