-- A line number program as a series of instructions (DWARF 5, section 6.2.5).
use Rattle.std.specs.Prelude.{ℕ, List, [], ◌∷◌, ◌++◌, ◌≡◌, Some, None}
use Rattle.dwarf_lines.specs.Header.{HeaderRecord}
use Rattle.dwarf_lines.specs.Instructions.{instruction_at}
use Rattle.dwarf_lines.specs.Machine.{appended, following}
use Rattle.dwarf_lines.specs.declared.instruction.Instruction.{Instruction}
use Rattle.dwarf_lines.specs.declared.registers.Registers.{Registers}
use Rattle.dwarf_lines.specs.declared.registers.Row.{Row}

-- the bytes begin with these instructions, one after another, and after them none can be read
abbrev pub AreInstructions : HeaderRecord → List ℕ → List Instruction → Type 0
AreInstructions header bytes [] = instruction_at header bytes ≡ None
AreInstructions header bytes (i ∷ is) =
    (rest : List ℕ) × (instruction_at header bytes ≡ Some (i, rest)) × AreInstructions header rest is

-- the rows that instructions append, from these registers on
abbrev pub rows_of : HeaderRecord → Registers → List Instruction → List Row
rows_of header r [] = []
rows_of header r (i ∷ is) = appended header r i ++ rows_of header (following header r i) is

-- the machine appends these rows
abbrev pub Appends : HeaderRecord → Registers → List ℕ → List Row → Type 0
Appends header r bytes rows =
    (is : List Instruction) × AreInstructions header bytes is × (rows ≡ rows_of header r is)
