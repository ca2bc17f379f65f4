-- The texts and the frames of a line table in any bytes, whether or not they are the table of a slice.
use Rattle.std.specs.Prelude.{◌≡◌, ◌≢◌, ◌<◌, ◌≤◌, ◌+◌, ◌*◌, ◌-◌, ◌⊎◌, ℕ, List, [], ◌∷◌, Option, Some}
use Rattle.std.specs.Prelude.{MatchOption, length, take, drop}
use Rattle.std.specs.Int.{w32, from_be_bytes}
use Rattle.table_checked_pages.specs.Groups.{GroupsPlace, groups_in, stored_group}
use Rattle.table_checked_pages.specs.Views.{ArePagesOf}
use Rattle.table_checked_pages.specs.declared.pages.Pages.{Pages}
use Rattle.table_symbols.specs.Opened.{AreHeaded, lines_at, strings_at, u64_at}
use Rattle.dwarf_lines.specs.Paths.{PathRecord}
use Rattle.dwarf_source_frames.specs.Frames.{FrameRecord}
use Rattle.table_source_frames.specs.LineText.{string_at}
use Rattle.table_source_frames.specs.StepGroups.{StepNumbers, no_numbers, steps_on}
use Rattle.table_source_frames.specs.declared.table.LineTable.{LineTable}

-- this is true of any bytes that may be those of the pages, if the bytes of the device are known
abbrev pub IsTrueOfBytes : {D : Type 0} → (D → Option (List ℕ)) → D → Pages → (List ℕ → Type 0) → Type 0
IsTrueOfBytes whole device pages IsTrue =
    (text all : List ℕ) → whole device ≡ Some text → ArePagesOf pages text all → IsTrue all

-- the number in the four bytes from an offset on
abbrev pub u32_at : List ℕ → ℕ → ℕ
u32_at all offset = from_be_bytes w32 (take 4 (drop offset all))

-- ---- the head

-- The bytes from an offset on begin with the head of a line table, and their number is the one that this head states.
pub record EndWithTable (all : List ℕ) (offset : ℕ) : Type 0 where
  pub has_head : offset + 56 ≤ length all
  pub size : length all ≡ offset + 56 + 16 * groups_in (u64_at all (offset + 8)) + u64_at all (offset + 16)
      + 20 * u64_at all (offset + 24) + 12 * u64_at all (offset + 32) + 8 * u64_at all (offset + 40)
      + u64_at all (offset + 48)

-- a table has the counts of the head at its offset
pub record HasCounts (table : LineTable) (all : List ℕ) : Type 0 where
  pub steps : table.steps ≡ u64_at all (table.offset + 8)
  pub step_bytes : table.step_bytes ≡ u64_at all (table.offset + 16)
  pub scopes : table.scopes ≡ u64_at all (table.offset + 24)
  pub files : table.files ≡ u64_at all (table.offset + 32)
  pub texts : table.texts ≡ u64_at all (table.offset + 40)
  pub bytes : table.bytes ≡ u64_at all (table.offset + 48)

-- there is no table, since the first number of the head at an offset is 0
pub record IsNoTableIn (all : List ℕ) (offset : ℕ) : Type 0 where
  pub has_head : offset + 56 ≤ length all
  pub none : u64_at all offset ≡ 0

-- this is the table at an offset, after the strings from another offset on, and the first number of its head is not 0
pub record IsTableIn (all : List ℕ) (strings offset : ℕ) (table : LineTable) : Type 0 where
  pub ends : EndWithTable all offset
  pub some : u64_at all offset ≢ 0
  pub strings_is : table.strings ≡ strings
  pub offset_is : table.offset ≡ offset
  pub counts : HasCounts table all

-- the result is the table at an offset, or none if there is no table
abbrev pub IsFoundIn : List ℕ → ℕ → ℕ → Option LineTable → Type 0
IsFoundIn all strings offset found = MatchOption found (IsNoTableIn all offset) (IsTableIn all strings offset)

-- ---- the parts

-- the place of the groups of steps
abbrev pub groups_place : LineTable → GroupsPlace
groups_place table =
    record { offset = table.offset + 56; count = groups_in table.steps; size = table.step_bytes }

-- the offsets of the scope, of the file and of the row of the text with a number, and of the bytes of texts
abbrev pub scope_at : LineTable → ℕ → ℕ
scope_at table number =
    table.offset + 56 + 16 * groups_in table.steps + table.step_bytes + 20 * (number - 1)

abbrev pub file_at : LineTable → ℕ → ℕ
file_at table number =
    table.offset + 56 + 16 * groups_in table.steps + table.step_bytes + 20 * table.scopes + 12 * (number - 1)

abbrev pub text_at : LineTable → ℕ → ℕ
text_at table number =
    table.offset + 56 + 16 * groups_in table.steps + table.step_bytes + 20 * table.scopes + 12 * table.files
    + 8 * (number - 1)

abbrev pub texts_at : LineTable → ℕ
texts_at table =
    table.offset + 56 + 16 * groups_in table.steps + table.step_bytes + 20 * table.scopes + 12 * table.files
    + 8 * table.texts

-- This is the text with a number among those after the strings: its offset and its length are within the bytes of
-- texts.
pub record IsStoredText (table : LineTable) (all : List ℕ) (number : ℕ) (text : List ℕ) : Type 0 where
  pub some : 0 < number
  pub counted : number ≤ table.texts
  pub inside : u32_at all (text_at table number) + u32_at all (text_at table number + 4) ≤ table.bytes
  pub is : text ≡ take (u32_at all (text_at table number + 4))
      (drop (texts_at table + u32_at all (text_at table number)) all)

-- the strings before a table
abbrev pub strings_in : LineTable → List ℕ → List ℕ
strings_in table all = take (table.offset - table.strings) (drop table.strings all)

-- This is the text at an offset of the strings, whose number is one more.
pub record IsStringIn (table : LineTable) (all : List ℕ) (number : ℕ) (text : List ℕ) : Type 0 where
  pub some : 0 < number
  pub within : number ≤ table.offset - table.strings
  pub is : text ≡ string_at (strings_in table all) (number - 1)

-- this is the text with a number: one of the strings, or one after them
abbrev pub IsText : LineTable → List ℕ → ℕ → List ℕ → Type 0
IsText table all number text =
    IsStringIn table all number text
    ⊎ ((table.offset - table.strings < number)
    × IsStoredText table all (number - (table.offset - table.strings)) text)

-- This is the path of the file with a number.
pub record IsStoredPath (table : LineTable) (all : List ℕ) (number : ℕ) (path : PathRecord) : Type 0 where
  pub some : 0 < number
  pub counted : number ≤ table.files
  pub base : IsText table all (u32_at all (file_at table number)) path.base
  pub directory : IsText table all (u32_at all (file_at table number + 4)) path.directory
  pub name : IsText table all (u32_at all (file_at table number + 8)) path.name

-- the number of a text or a path, or 0 for none
abbrev pub IsMaybeStoredText : LineTable → List ℕ → ℕ → Option (List ℕ) → Type 0
IsMaybeStoredText table all number told = MatchOption told (number ≡ 0) (IsText table all number)

abbrev pub IsMaybeStoredPath : LineTable → List ℕ → ℕ → Option PathRecord → Type 0
IsMaybeStoredPath table all number told = MatchOption told (number ≡ 0) (IsStoredPath table all number)

-- ---- steps

-- These are the numbers of a step in a group, or of none.
pub record IsStoredStep (table : LineTable) (all : List ℕ) (step : StepNumbers) : Type 0 where
  pub group : ℕ
  pub count : ℕ
  pub rest : List ℕ
  pub read : steps_on count no_numbers (stored_group all (groups_place table) group) ≡ Some (step, rest)

-- ---- frames

-- This is the frame of the scope with a number, with a line and a column.
pub record IsStoredFrame (table : LineTable) (all : List ℕ) (number at_line at_column : ℕ) (frame : FrameRecord)
    : Type 0 where
  pub some : 0 < number
  pub counted : number ≤ table.scopes
  pub name : IsMaybeStoredText table all (u32_at all (scope_at table number)) frame.name
  pub path : IsMaybeStoredPath table all (u32_at all (scope_at table number + 4)) frame.path
  pub line : frame.line ≡ at_line
  pub column : frame.column ≡ at_column

-- the number of the scope that calls a scope, and the line and the column of the call
abbrev pub caller_of : LineTable → List ℕ → ℕ → ℕ
caller_of table all number = u32_at all (scope_at table number + 16)

abbrev pub line_of : LineTable → List ℕ → ℕ → ℕ
line_of table all number = u32_at all (scope_at table number + 8)

abbrev pub column_of : LineTable → List ℕ → ℕ → ℕ
column_of table all number = u32_at all (scope_at table number + 12)

-- These are the frames of the scope with a number: its own frame, with a line and a column, and those of its caller,
-- whose number is smaller; 0 has none.
abbrev pub AreStoredFrames : LineTable → List ℕ → ℕ → ℕ → ℕ → List FrameRecord → Type 0
AreStoredFrames table all number line column [] = number ≡ 0
AreStoredFrames table all number line column (frame ∷ frames) =
    IsStoredFrame table all number line column frame × (caller_of table all number < number)
    × AreStoredFrames table all (caller_of table all number) (line_of table all number) (column_of table all number)
    frames

-- These are the frames of a step.
abbrev pub AreFramesOfStep : LineTable → List ℕ → List FrameRecord → Type 0
AreFramesOfStep table all frames =
    (step : StepNumbers) × IsStoredStep table all step
    × AreStoredFrames table all step.scope step.line step.column frames

-- ---- by the head of a slice's table, after which the line table is stored

-- These are the frames of a step in any bytes.
pub record AreFramesIn (all : List ℕ) (frames : List FrameRecord) : Type 0 where
  pub headed : AreHeaded all
  pub table : LineTable
  pub is_table : IsTableIn all (strings_at all) (lines_at all) table
  pub are : AreFramesOfStep table all frames

-- The bytes have no lines.
pub record HaveNoLines (all : List ℕ) : Type 0 where
  pub headed : AreHeaded all
  pub none : IsNoTableIn all (lines_at all)
