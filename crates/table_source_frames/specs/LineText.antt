-- The bytes of a line table: a head of 56 bytes, the groups of its steps, its steps, its scopes, its files, and its
-- texts. Numbers of a fixed size are big-endian.
use Rattle.std.specs.Prelude.{◌+◌, ◌==◌, ◌&&◌, ◌||◌, ℕ, zero, suc, Bool, true, List, [], ◌∷◌, ◌++◌, Option, Some}
use Rattle.std.specs.Prelude.{None, drop, length, map, flat_map, filter_map, slice_index, if◌then◌else◌}
use Rattle.std.specs.Int.{w32, w64, to_be_bytes}
use Rattle.std.specs.List.{before_first, concat, range_with_len}
use Rattle.std.specs.Option.{option_eq, option_map_or}
use Rattle.dwarf_lines.specs.Paths.{PathRecord}
use Rattle.dwarf_source_frames.specs.Frames.{FrameRecord}
use Rattle.table_checked_pages.specs.Groups.{bytes_of, group_rows}
use Rattle.table_source_frames.specs.Numbering.{distinct, number_in, number_or_zero, numbered_after, same_chain}
use Rattle.table_source_frames.specs.Numbering.{same_path, same_text}
use Rattle.table_source_frames.specs.StepGroups.{StepNumbers, step_groups}
use Rattle.table_source_frames.specs.Steps.{StepRecord}

-- ---- texts

-- whether a text may begin at an offset of strings: where a string begins, or after a `_` that begins one
abbrev pub begins_string : List ℕ → ℕ → Bool
begins_string strings zero = true
begins_string strings (suc before) = slice_index strings before == 0

abbrev pub begins_text : List ℕ → ℕ → Bool
begins_text strings zero = true
begins_text strings (suc before) =
    begins_string strings (suc before) || ((slice_index strings before == 95) && begins_string strings before)

-- the text at an offset of strings: it ends before a NUL, or with the strings
abbrev pub string_at : List ℕ → ℕ → List ℕ
string_at strings offset = before_first (λ b. b == 0) (drop offset strings)

-- the texts of the strings of a slice, one for each offset: the text that begins there, or none
unfoldable pub texts_of : List ℕ → List (Option (List ℕ))
texts_of strings =
    map (λ offset. if begins_text strings offset then Some (string_at strings offset) else None)
    (range_with_len 0 (length strings))

-- whether the texts of two offsets are equal
abbrev pub same_place : Option (List ℕ) → Option (List ℕ) → Bool
same_place one other = option_eq same_text one other

-- ---- scopes

-- the scope of the innermost of these frames: they without its line and column, which are 0 here
abbrev pub scope_of : List FrameRecord → List FrameRecord
scope_of [] = []
scope_of (frame ∷ callers) = record { name = frame.name; path = frame.path; line = 0; column = 0 } ∷ callers

-- the scopes of the frames of an address: that of the outermost frame, of the frame that it called, and so on, up to
-- the innermost one
unfoldable pub scopes_of : List FrameRecord → List (List FrameRecord)
scopes_of [] = []
scopes_of (frame ∷ callers) = scopes_of callers ++ scope_of (frame ∷ callers) ∷ []

-- the name of the innermost of these frames, its path, its line and its column
abbrev pub innermost_name : List FrameRecord → Option (List ℕ)
innermost_name [] = None
innermost_name (frame ∷ callers) = frame.name

abbrev pub innermost_path : List FrameRecord → Option PathRecord
innermost_path [] = None
innermost_path (frame ∷ callers) = frame.path

abbrev pub innermost_line : List FrameRecord → ℕ
innermost_line [] = 0
innermost_line (frame ∷ callers) = frame.line

abbrev pub innermost_column : List FrameRecord → ℕ
innermost_column [] = 0
innermost_column (frame ∷ callers) = frame.column

-- the texts of a path
abbrev pub path_texts : PathRecord → List (List ℕ)
path_texts path = path.base ∷ path.directory ∷ path.name ∷ []

-- ---- parts

-- the parts of a line table: steps, and the numbered elements to which they refer: scopes, paths of files, and texts,
-- first those of the strings of the slice
pub record LineParts : Type 0 where
  pub strings : List ℕ
  pub steps : List StepRecord
  pub scopes : List (List FrameRecord)
  pub files : List PathRecord
  pub texts : List (Option (List ℕ))

-- the distinct scopes of steps
unfoldable pub scopes_in : List StepRecord → List (List FrameRecord)
scopes_in steps = distinct same_chain (flat_map (λ s. scopes_of s.frames) steps)

-- the distinct paths of scopes
unfoldable pub files_in : List (List FrameRecord) → List PathRecord
files_in scopes = distinct same_path (filter_map innermost_path scopes)

-- the texts of the strings, and the distinct others of the names of scopes, then of files
unfoldable pub texts_in : List ℕ → List (List FrameRecord) → List PathRecord → List (Option (List ℕ))
texts_in strings scopes files =
    numbered_after same_place (texts_of strings)
    (map (λ t. Some t) (filter_map innermost_name scopes ++ flat_map path_texts files))

-- the parts of the table of steps, in a slice with these strings
abbrev pub parts_of : List ℕ → List StepRecord → LineParts
parts_of strings steps =
    record {
      strings = strings;
      steps = steps;
      scopes = scopes_in steps;
      files = files_in (scopes_in steps);
      texts = texts_in strings (scopes_in steps) (files_in (scopes_in steps));
    }

-- the texts that are not among the strings
abbrev pub others_of : LineParts → List (List ℕ)
others_of parts = filter_map (λ t. t) (drop (length parts.strings) parts.texts)

-- ---- numbers

-- the number of a text, and of a text or 0 for none
abbrev pub text_number : LineParts → List ℕ → ℕ
text_number parts text = number_in same_place parts.texts (Some text)

abbrev pub maybe_text_number : LineParts → Option (List ℕ) → ℕ
maybe_text_number parts maybe = option_map_or (text_number parts) maybe 0

-- the number of the scope of these frames; 0 if there are none
abbrev pub scope_number : LineParts → List FrameRecord → ℕ
scope_number parts frames = number_in same_chain parts.scopes (scope_of frames)

-- the numbers of a step
abbrev pub numbers_of : LineParts → StepRecord → StepNumbers
numbers_of parts step =
    record {
      start = step.start;
      scope = scope_number parts step.frames;
      line = innermost_line step.frames;
      column = innermost_column step.frames;
    }

-- ---- bytes

-- the steps in groups: the row of each group, and the bytes of all
abbrev pub step_rows : LineParts → List ℕ
step_rows parts = group_rows 0 (step_groups (map (numbers_of parts) parts.steps))

abbrev pub all_step_bytes : LineParts → List ℕ
all_step_bytes parts = bytes_of (step_groups (map (numbers_of parts) parts.steps))

-- the head: seven eight-byte numbers; the first is 1, since there are lines
unfoldable pub head_bytes : LineParts → List ℕ
head_bytes parts =
    to_be_bytes w64 1 ++ (to_be_bytes w64 (length parts.steps) ++ (to_be_bytes w64 (length (all_step_bytes parts))
    ++ (to_be_bytes w64 (length parts.scopes) ++ (to_be_bytes w64 (length parts.files)
    ++ (to_be_bytes w64 (length (others_of parts)) ++ to_be_bytes w64 (length (concat (others_of parts))))))))

-- a scope in 20 bytes: the numbers of its name and of its file; and of the frame that calls it the line, the column and
-- the number of the scope; 0 for each that is missing
unfoldable pub scope_bytes : LineParts → List FrameRecord → List ℕ
scope_bytes parts [] = []
scope_bytes parts (frame ∷ callers) =
    to_be_bytes w32 (maybe_text_number parts frame.name)
    ++ (to_be_bytes w32 (number_or_zero same_path parts.files frame.path)
    ++ (to_be_bytes w32 (innermost_line callers) ++ (to_be_bytes w32 (innermost_column callers)
    ++ to_be_bytes w32 (scope_number parts callers))))

-- a file in 12 bytes: the numbers of the texts of its path
unfoldable pub file_bytes : LineParts → PathRecord → List ℕ
file_bytes parts path =
    to_be_bytes w32 (text_number parts path.base)
    ++ (to_be_bytes w32 (text_number parts path.directory)
    ++ to_be_bytes w32 (text_number parts path.name))

-- each text in 8 bytes: its offset in the bytes of all texts, of which `before` precede these texts, and its length
unfoldable pub text_rows : ℕ → List (List ℕ) → List ℕ
text_rows before [] = []
text_rows before (text ∷ texts) =
    (to_be_bytes w32 before ++ to_be_bytes w32 (length text)) ++ text_rows (before + length text) texts

-- the bytes of a table
unfoldable pub table_bytes : LineParts → List ℕ
table_bytes parts =
    head_bytes parts
    ++ (step_rows parts
    ++ (all_step_bytes parts
    ++ (flat_map (scope_bytes parts) parts.scopes
    ++ (flat_map (file_bytes parts) parts.files
    ++ (text_rows 0 (others_of parts)
    ++ concat (others_of parts))))))

-- the bytes of the table of steps, in a slice with these strings
abbrev pub line_text : List ℕ → List StepRecord → List ℕ
line_text strings steps = table_bytes (parts_of strings steps)
