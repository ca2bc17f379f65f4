-- The line table of an image.
use Rattle.std.specs.Prelude.{◌≡◌, ◌<◌, ◌≤◌, ◌*◌, ◌^◌, ◌⊎◌, ℕ, List, ◌++◌, length, max}
use Rattle.std.specs.Int.{w64, to_be_bytes}
use Rattle.std.specs.List.{concat}
use Rattle.macho_symbols.specs.Symbols.{strings_of}
use Rattle.table_source_frames.specs.LineText.{LineParts, all_step_bytes, line_text, others_of, parts_of}
use Rattle.table_source_frames.specs.Steps.{AreFrameSteps, StepRecord}

-- the counts of parts fit into four bytes, and so do the sizes of steps and of texts
pub record AreFew (parts : LineParts) : Type 0 where
  pub steps : length parts.steps < 2 ^ 32
  pub step_bytes : length (all_step_bytes parts) < 2 ^ 32
  pub scopes : length parts.scopes < 2 ^ 32
  pub files : length parts.files < 2 ^ 32
  pub texts : length parts.texts < 2 ^ 32
  pub bytes : length (concat (others_of parts)) < 2 ^ 32

-- the table of steps fits into `room` bytes, and each of its numbers into its own bytes
pub record FitsLines (room : ℕ) (strings : List ℕ) (steps : List StepRecord) : Type 0 where
  pub few : AreFew (parts_of strings steps)
  pub size : length (line_text strings steps) ≤ room

-- the bytes of a table without lines: a head of zeros
unfoldable pub no_lines : List ℕ
no_lines =
    to_be_bytes w64 0 ++ (to_be_bytes w64 0 ++ (to_be_bytes w64 0 ++ (to_be_bytes w64 0
    ++ (to_be_bytes w64 0 ++ (to_be_bytes w64 0 ++ to_be_bytes w64 0)))))

-- the table of steps if `room` bytes are allowed: that of all steps if it fits, else the one without lines
abbrev pub IsLineTextWithin : ℕ → List ℕ → List StepRecord → List ℕ → Type 0
IsLineTextWithin room strings steps bytes =
    (FitsLines room strings steps × (bytes ≡ line_text strings steps))
    ⊎ ((FitsLines room strings steps → ⊥) × (bytes ≡ no_lines))

-- the largest size of the table of an image: four times the size of the image, and at least that of a head
abbrev pub room_of : List ℕ → ℕ
room_of image = max 56 (4 * length image)

-- these bytes are the line table of an image
pub record IsLineTable (image bytes : List ℕ) : Type 0 where
  pub steps : List StepRecord
  pub are_steps : AreFrameSteps image steps
  pub is_text : IsLineTextWithin (room_of image) (strings_of image) steps bytes
