-- The bytes that are frames, and the faults of other bytes.
use Rattle.std.specs.Prelude.{◌≡◌, ◌+◌, ℕ, List, [], ◌∷◌, ◌++◌, codes, map, if◌then◌else◌, ⊤}
use Rattle.std.specs.Prelude.{Option, Some, None, option_map, Result, Ok, Err}
use Rattle.std.specs.Str.{bytes_eq}
use Rattle.uuid.specs.Text.{parsed}
use Rattle.archive_core.specs.declared.keys.ArchKey.{ArchKey}
use Rattle.text_values.specs.Lines.{Field, Line, counting, fields}
use Rattle.text_values.specs.Words.{address_of, arch_of}
use Rattle.text_input_files.specs.declared.frame.Frame.{Frame}
use Rattle.text_input_files.specs.declared.frame.FramesError.{FramesError}
use Rattle.text_input_files.specs.declared.frame.FramesError.TheVariants.{BadFrame, OutOfMemory}

-- ---- the frame of a line

-- the load address of an image, or `-` if the address is one of the file
abbrev pub load_of : Field → Option (Option ℕ)
load_of field = if bytes_eq field (codes "-") then Some None else option_map (λ load. Some load) (address_of field)

-- the frame with these values, if there are all of them
abbrev pub frame_with : Option (List ℕ) → Option ArchKey → Option (Option ℕ) → Option ℕ → Option Frame
frame_with (Some uuid) (Some arch) (Some load) (Some address) =
    Some (record { key = record { uuid = uuid; arch = arch }; load = load; address = address })
frame_with _ _ _ _ = None

-- `UUID ARCH LOAD ADDRESS`
abbrev pub fields_frame : List Field → Option Frame
fields_frame (uuid ∷ arch ∷ load ∷ address ∷ []) =
    frame_with (parsed uuid) (arch_of arch) (load_of load) (address_of address)
fields_frame _ = None

-- the frame of a line, if it has one
abbrev pub line_frame : Line → Option Frame
line_frame line = fields_frame (fields line)

-- ---- the frames of all lines

-- a frame, and the frames after it
abbrev pub onto : Frame → Result (List Frame) ℕ → Result (List Frame) ℕ
onto frame (Ok frames) = Ok (frame ∷ frames)
onto frame (Err line) = Err line

-- a line after this number of lines, and the result of the lines after it. Its number is counted from 1
abbrev pub frame_then : ℕ → Option Frame → Result (List Frame) ℕ → Result (List Frame) ℕ
frame_then before None behind = Err (before + 1)
frame_then before (Some frame) behind = onto frame behind

-- the frames of the lines that count: each line is one, or the number of the first that is none
abbrev pub frames_in : List (ℕ × Line) → Result (List Frame) ℕ
frames_in [] = Ok []
frames_in (line ∷ behind) = frame_then line.0 (line_frame line.1) (frames_in behind)

-- the frames in the bytes, or the number of the first faulty line
abbrev pub frames_of : List ℕ → Result (List Frame) ℕ
frames_of bytes = frames_in (counting bytes)

-- the error has the number of the first faulty line, or is `OutOfMemory`
abbrev pub IsErrorOf : Result (List Frame) ℕ → FramesError → Type 0
IsErrorOf read (BadFrame line) = read ≡ Err line
IsErrorOf read OutOfMemory = ⊤

-- these lines are these frames, one per line
abbrev pub AreFrames : List (ℕ × Line) → List Frame → Type 0
AreFrames lines frames = map (λ l. line_frame l.1) lines ≡ map Some frames

-- each line that counts is one frame, in this order
abbrev pub IsFrames : List ℕ → List Frame → Type 0
IsFrames bytes frames = AreFrames (counting bytes) frames

-- a line that counts is no frame, each that counts before it is one, and this is its number, counted from 1
pub record IsFirstFault (bytes : List ℕ) (line : ℕ) : Type 0 where
  pub before : List (ℕ × Line)
  pub faulty : ℕ × Line
  pub behind : List (ℕ × Line)
  pub lines : counting bytes ≡ before ++ faulty ∷ behind
  pub frames : List Frame
  pub good : AreFrames before frames
  pub bad : line_frame faulty.1 ≡ None
  pub number : line ≡ faulty.0 + 1
