-- The meaning of single rows: definitions of inner functions. No contract of a public function uses them.
use Rattle.std.specs.Prelude.{◌≡◌, ◌≢◌, ◌+◌, ◌-◌, ◌<◌, ◌≤◌, ◌⊎◌, ◌^◌, ℕ, List, [], ◌∷◌, Option, Some, None, length, map}
use Rattle.std.specs.Prelude.{slice_get, slice_index_or, take}
use Rattle.std.specs.List.{concat}
use Rattle.dwarf_lines.specs.Paths.{PathRecord}
use Rattle.dwarf_source_frames.specs.Frames.{FrameRecord}
use Rattle.table_checked_pages.specs.Groups.{group_at}
use Rattle.table_source_frames.specs.LineText.{LineParts, innermost_column, innermost_line, numbers_of, others_of}
use Rattle.table_source_frames.specs.LineText.{scope_of, text_number}
use Rattle.table_source_frames.specs.OfBytes.{IsMaybeStoredPath, IsMaybeStoredText, IsStoredStep, IsText, caller_of}
use Rattle.table_source_frames.specs.OfBytes.{column_of}
use Rattle.table_source_frames.specs.OfBytes.{file_at, line_of, scope_at, text_at, u32_at}
use Rattle.table_source_frames.specs.Numbering.{number_in, same_chain, same_path}
use Rattle.table_source_frames.specs.StepGroups.{StepNumbers, no_numbers, step_after, step_group, steps_on}
use Rattle.table_source_frames.specs.declared.row.File.{File}
use Rattle.table_source_frames.specs.declared.row.Position.{Position}
use Rattle.table_source_frames.specs.declared.row.Scope.{Scope}
use Rattle.table_source_frames.specs.declared.row.Step.{Step}
use Rattle.table_source_frames.specs.declared.row.Text.{Text}
use Rattle.table_source_frames.specs.declared.table.LineTable.{LineTable}

-- the numbers of a step
abbrev pub step_view : Step → StepNumbers
step_view s = record { start = s.start; scope = s.scope; line = s.line; column = s.column }

-- this is the number of a text
pub record IsTextNumber (parts : LineParts) (number : ℕ) (text : List ℕ) : Type 0 where
  pub is : number ≡ text_number parts text
  pub some : 0 < number

-- this is the number of a file
pub record IsFileNumber (parts : LineParts) (number : ℕ) (path : PathRecord) : Type 0 where
  pub is : number ≡ number_in same_path parts.files path
  pub some : 0 < number

-- this is the number of a scope
pub record IsScopeNumber (parts : LineParts) (number : ℕ) (scope : List FrameRecord) : Type 0 where
  pub is : number ≡ number_in same_chain parts.scopes scope
  pub some : 0 < number

-- the number of a text, or 0 for none
abbrev pub IsMaybeText : LineParts → ℕ → Option (List ℕ) → Type 0
IsMaybeText parts number None = number ≡ 0
IsMaybeText parts number (Some text) = IsTextNumber parts number text

abbrev pub IsMaybeFile : LineParts → ℕ → Option PathRecord → Type 0
IsMaybeFile parts number None = number ≡ 0
IsMaybeFile parts number (Some path) = IsFileNumber parts number path

-- the number of the scope of these frames, or 0 for none
abbrev pub IsMaybeScope : LineParts → ℕ → List FrameRecord → Type 0
IsMaybeScope parts number [] = number ≡ 0
IsMaybeScope parts number (frame ∷ callers) = IsScopeNumber parts number (scope_of (frame ∷ callers))

-- the number of the scope of these frames, and the line and the column of the innermost one
pub record IsPosition (parts : LineParts) (number at_line at_column : ℕ) (frames : List FrameRecord) : Type 0 where
  pub scope : IsMaybeScope parts number frames
  pub line : at_line ≡ innermost_line frames
  pub column : at_column ≡ innermost_column frames

-- a position is that of the innermost of these frames
abbrev pub HasPosition : LineParts → Position → List FrameRecord → Type 0
HasPosition parts position frames = IsPosition parts position.scope position.line position.column frames

-- a row is that of the scope of a frame with these callers
pub record IsScope (parts : LineParts) (row : Scope) (frame : FrameRecord) (callers : List FrameRecord) : Type 0 where
  pub name : IsMaybeText parts row.name frame.name
  pub file : IsMaybeFile parts row.file frame.path
  pub caller : HasPosition parts row.caller callers

-- the bytes of the group of steps at an index
abbrev pub group_bytes_of : LineParts → ℕ → List ℕ
group_bytes_of parts index = (step_group (group_at (map (numbers_of parts) parts.steps) index)).bytes

-- this is the text with a number, from 1 on, after the strings
pub record IsOtherText (parts : LineParts) (number : ℕ) (text : List ℕ) : Type 0 where
  pub some : 0 < number
  pub is : slice_get (others_of parts) (number - 1) ≡ Some text

-- a row is that of a file
pub record IsFileRow (parts : LineParts) (row : File) (path : PathRecord) : Type 0 where
  pub base : IsTextNumber parts row.base path.base
  pub directory : IsTextNumber parts row.directory path.directory
  pub name : IsTextNumber parts row.name path.name

-- a row is that of the text at an index: the size of the texts before it, and its own length
pub record IsTextRow (parts : LineParts) (index : ℕ) (row : Text) : Type 0 where
  pub place : row.place ≡ length (concat (take index (others_of parts)))
  pub long : row.length ≡ length (slice_index_or (others_of parts) index [])

-- ---- groups

-- the first steps of a group, of which this is the last, and the bytes after them: none starts above an address
pub record AreReadUpTo (bytes : List ℕ) (address count : ℕ) (step : StepNumbers) (rest : List ℕ) : Type 0 where
  pub read : steps_on count no_numbers bytes ≡ Some (step, rest)
  pub up_to : (k : ℕ) (x : StepNumbers × List ℕ) → 0 < k → k ≤ count → steps_on k no_numbers bytes ≡ Some x
      → x.0.start ≤ address

-- the last of the first steps of a group that do not start above an address: the group ends there, or its next step
-- starts above it
pub record IsLastStep (bytes : List ℕ) (address : ℕ) (step : StepNumbers) : Type 0 where
  pub count : ℕ
  pub rest : List ℕ
  pub are : AreReadUpTo bytes address count step rest
  pub next : (rest ≡ []) ⊎ ((x : StepNumbers × List ℕ) × (step_after step rest ≡ Some x) × (address < x.0.start))

-- after such steps there are bytes that are no step
pub record AreNoSteps (bytes : List ℕ) (address : ℕ) : Type 0 where
  pub count : ℕ
  pub step : StepNumbers
  pub rest : List ℕ
  pub are : AreReadUpTo bytes address count step rest
  pub some : rest ≢ []
  pub none : step_after step rest ≡ None

-- the numbers of a position fit
pub record FitsPosition (step : StepNumbers) : Type 0 where
  pub scope : step.scope < 2 ^ 32
  pub line : step.line < 2 ^ 32
  pub column : step.column < 2 ^ 32

-- a position is that of a step
pub record IsPositionOf (step : StepNumbers) (position : Position) : Type 0 where
  pub scope : position.scope ≡ step.scope
  pub line : position.line ≡ step.line
  pub column : position.column ≡ step.column

-- ---- of any bytes

-- a position is that of a stored step
abbrev pub IsPositionIn : LineTable → List ℕ → Position → Type 0
IsPositionIn table all position = (step : StepNumbers) × IsStoredStep table all step × IsPositionOf step position

-- a row is that of the scope with a number
pub record IsScopeIn (table : LineTable) (all : List ℕ) (number : ℕ) (row : Scope) : Type 0 where
  pub some : 0 < number
  pub counted : number ≤ table.scopes
  pub name : row.name ≡ u32_at all (scope_at table number)
  pub file : row.file ≡ u32_at all (scope_at table number + 4)
  pub line : row.caller.line ≡ line_of table all number
  pub column : row.caller.column ≡ column_of table all number
  pub caller : row.caller.scope ≡ caller_of table all number

-- a row is that of the file with a number
pub record IsFileIn (table : LineTable) (all : List ℕ) (number : ℕ) (row : File) : Type 0 where
  pub some : 0 < number
  pub counted : number ≤ table.files
  pub base : row.base ≡ u32_at all (file_at table number)
  pub directory : row.directory ≡ u32_at all (file_at table number + 4)
  pub name : row.name ≡ u32_at all (file_at table number + 8)

-- a row is that of the text with a number
pub record IsTextIn (table : LineTable) (all : List ℕ) (number : ℕ) (row : Text) : Type 0 where
  pub place : row.place ≡ u32_at all (text_at table number)
  pub long : row.length ≡ u32_at all (text_at table number + 4)

-- a path has the texts of a row
pub record HasTextsOf (table : LineTable) (all : List ℕ) (row : File) (path : PathRecord) : Type 0 where
  pub base : IsText table all row.base path.base
  pub directory : IsText table all row.directory path.directory
  pub name : IsText table all row.name path.name

-- a frame is that of a row, with a line and a column
pub record IsFrameIn (table : LineTable) (all : List ℕ) (row : Scope) (at_line at_column : ℕ) (frame : FrameRecord)
    : Type 0 where
  pub name : IsMaybeStoredText table all row.name frame.name
  pub path : IsMaybeStoredPath table all row.file frame.path
  pub line : frame.line ≡ at_line
  pub column : frame.column ≡ at_column
