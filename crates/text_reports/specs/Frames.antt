-- The lines of source frames.
use Rattle.std.specs.Prelude.{ℕ, List, [], ◌∷◌, ◌++◌, Bool, ◌==◌, ◌&&◌, if◌then◌else◌, nat_eq, codes}
use Rattle.std.specs.Prelude.{Option, Some, None}
use Rattle.std.specs.List.{flat_map, starts_with}
use Rattle.std.specs.Fmt.{decimal}
use Rattle.dwarf_lines.specs.Paths.{PathRecord, path_of}
use Rattle.dwarf_source_frames.specs.Frames.{FrameRecord}
use Rattle.text_reports.specs.Escapes.{escaped, escaped_byte}
use Rattle.text_reports.specs.Report.{line}

-- the bytes after a byte of a name begin with `at `, if a space follows the name
abbrev pub is_at : List ℕ → Bool
is_at after = starts_with nat_eq (after ++ codes " ") (codes "at ")

-- a byte in the name of a function, before others: as in any name, except that a space before `at ` is `\x20`
unfoldable pub function_byte : ℕ → List ℕ → List ℕ
function_byte byte after =
    if (byte == 0x20) && is_at after then codes "\\x20" else escaped_byte byte

-- the name of a function: the first ` at ` of its line is after it
unfoldable pub function_text : List ℕ → List ℕ
function_text [] = []
function_text (byte ∷ after) = function_byte byte after ++ function_text after

-- the name of a function, or `?`
abbrev pub function_or_unknown : Option (List ℕ) → List ℕ
function_or_unknown None = codes "?"
function_or_unknown (Some name) = function_text name

-- the path of a file, or `?`
abbrev pub path_or_unknown : Option PathRecord → List ℕ
path_or_unknown None = codes "?"
path_or_unknown (Some parts) = escaped (path_of parts)

-- a function and its location: NAME at PATH:LINE:COLUMN
unfoldable pub frame_text : FrameRecord → List ℕ
frame_text frame =
    function_or_unknown frame.name ++ codes " at " ++ path_or_unknown frame.path ++ codes ":" ++ decimal frame.line
    ++ codes ":" ++ decimal frame.column

-- the line of a frame, after four spaces
abbrev pub frame_line : FrameRecord → List ℕ
frame_line frame = line (codes "    " ++ frame_text frame)

-- a line for each frame
abbrev pub frame_lines : List FrameRecord → List ℕ
frame_lines frames = flat_map frame_line frames
