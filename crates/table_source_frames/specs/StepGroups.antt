-- The steps of a line table as they are stored: in groups, each step as the differences of its numbers from those of
-- the previous step of its group.
use Rattle.std.specs.Prelude.{◌+◌, ◌-◌, ◌%◌, ◌^◌, ℕ, zero, suc, List, [], ◌∷◌, ◌++◌, Option, Some, map}
use Rattle.std.specs.Option.{option_and_then, option_map}
use Rattle.dwarf_encoding.specs.Leb128.{signed_leb128_at, signed_leb128_bytes}
use Rattle.table_checked_pages.specs.Groups.{GroupRecord, groups_of}

-- the numbers of a step: its start, the number of the scope of its innermost frame, and the line and the column of that
-- frame; the last three are 0 if it has no frames
pub record StepNumbers : Type 0 where
  pub start : ℕ
  pub scope : ℕ
  pub line : ℕ
  pub column : ℕ

-- the numbers before the first step of a group
abbrev pub no_numbers : StepNumbers
no_numbers = record { start = 0; scope = 0; line = 0; column = 0 }

-- ---- written

-- the bytes of a number below 2^64 after an earlier one: the difference, modulo 2^64
unfoldable pub difference_bytes : ℕ → ℕ → List ℕ
difference_bytes before number = signed_leb128_bytes ((number + (2 ^ 64 - before)) % 2 ^ 64)

-- the bytes of a step after an earlier one
unfoldable pub step_bytes : StepNumbers → StepNumbers → List ℕ
step_bytes before step =
    difference_bytes before.start step.start ++ (difference_bytes before.scope step.scope
    ++ (difference_bytes before.line step.line ++ difference_bytes before.column step.column))

-- the bytes of steps after an earlier one
unfoldable pub steps_bytes : StepNumbers → List StepNumbers → List ℕ
steps_bytes before [] = []
steps_bytes before (step ∷ steps) = step_bytes before step ++ steps_bytes step steps

-- the start of the first of these steps
abbrev pub first_start : List StepNumbers → ℕ
first_start [] = 0
first_start (step ∷ steps) = step.start

-- a group of steps
abbrev pub step_group : List StepNumbers → GroupRecord
step_group steps = record { key = first_start steps; bytes = steps_bytes no_numbers steps }

-- the groups of steps
abbrev pub step_groups : List StepNumbers → List GroupRecord
step_groups steps = map step_group (groups_of steps)

-- ---- read

-- the number after an earlier one whose difference begins the bytes, and the bytes after it
abbrev pub number_after : ℕ → List ℕ → Option (ℕ × List ℕ)
number_after before bytes = option_map (λ x. ((before + x.0) % 2 ^ 64, x.1)) (signed_leb128_at bytes)

-- the step after an earlier one whose differences begin the bytes, and the bytes after it
unfoldable pub step_after : StepNumbers → List ℕ → Option (StepNumbers × List ℕ)
step_after before bytes =
    option_and_then (λ a. option_and_then (λ b. option_and_then (λ c.
    option_map (λ d. (record { start = a.0; scope = b.0; line = c.0; column = d.0 }, d.1))
    (number_after before.column c.1)) (number_after before.line b.1)) (number_after before.scope a.1))
    (number_after before.start bytes)

-- the last of `count` steps whose differences begin the bytes, and the bytes after them
unfoldable pub steps_on : ℕ → StepNumbers → List ℕ → Option (StepNumbers × List ℕ)
steps_on zero before bytes = Some (before, bytes)
steps_on (suc count) before bytes = option_and_then (λ x. steps_on count x.0 x.1) (step_after before bytes)
