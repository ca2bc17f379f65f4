-- The machine that runs a line number program (DWARF 5, sections 6.2.2 and 6.2.5). Registers have 64 bits.
use Rattle.std.specs.Prelude.{ℕ, zero, suc, Bool, true, false, List, [], ◌∷◌, ◌++◌, length, ◌+◌, ◌-◌, ◌*◌, ◌/◌, ◌%◌}
use Rattle.std.specs.Prelude.{◌^◌, nat_lt, if◌then◌else◌}
use Rattle.std.specs.Option.{option_map_or}
use Rattle.dwarf_lines.specs.Header.{HeaderRecord}
use Rattle.dwarf_lines.specs.Instructions.{instruction_at}
use Rattle.dwarf_lines.specs.declared.instruction.Instruction.{Instruction}
use Rattle.dwarf_lines.specs.declared.instruction.Instruction.TheVariants.{Special, Copy, AdvancePc, AdvanceLine}
use Rattle.dwarf_lines.specs.declared.instruction.Instruction.TheVariants.{SetFile, SetColumn, ConstAddPc}
use Rattle.dwarf_lines.specs.declared.instruction.Instruction.TheVariants.{FixedAdvancePc, EndSequence, SetAddress}
use Rattle.dwarf_lines.specs.declared.instruction.Instruction.TheVariants.{Other}
use Rattle.dwarf_lines.specs.declared.registers.Registers.{Registers}
use Rattle.dwarf_lines.specs.declared.registers.Row.{Row}

-- the registers at the beginning of each sequence
abbrev pub initial : Registers
initial = record { address = 0; file = 1; line = 1; column = 0 }

-- the address after `operations` operations
abbrev pub advanced : HeaderRecord → Registers → ℕ → ℕ
advanced header r operations = (r.address + header.minimum_instruction_length * operations) % 2 ^ 64

-- a signed byte, as the two's complement of 64 bits
abbrev pub signed_byte : ℕ → ℕ
signed_byte byte = if nat_lt byte 128 then byte else 2 ^ 64 - 256 + byte

-- the registers after an instruction, as the row that it appends has them
unfoldable pub applied : HeaderRecord → Registers → Instruction → Registers
applied header r (Special opcode) =
    record r {
      address = advanced header r ((opcode - header.opcode_base) / header.line_range);
      line = (r.line + signed_byte header.line_base + (opcode - header.opcode_base) % header.line_range) % 2 ^ 64;
    }
applied header r Copy = r
applied header r (AdvancePc operand) = record r { address = advanced header r operand }
applied header r (AdvanceLine operand) = record r { line = (r.line + operand) % 2 ^ 64 }
applied header r (SetFile operand) = record r { file = operand }
applied header r (SetColumn operand) = record r { column = operand }
applied header r ConstAddPc =
    record r { address = advanced header r ((255 - header.opcode_base) / header.line_range) }
applied header r (FixedAdvancePc operand) = record r { address = (r.address + operand) % 2 ^ 64 }
applied header r EndSequence = r
applied header r (SetAddress operand) = record r { address = operand }
applied header r Other = r

-- whether an instruction appends a row
abbrev pub appends_row : Instruction → Bool
appends_row (Special opcode) = true
appends_row Copy = true
appends_row (AdvancePc operand) = false
appends_row (AdvanceLine operand) = false
appends_row (SetFile operand) = false
appends_row (SetColumn operand) = false
appends_row ConstAddPc = false
appends_row (FixedAdvancePc operand) = false
appends_row EndSequence = true
appends_row (SetAddress operand) = false
appends_row Other = false

-- whether it ends a sequence
abbrev pub ends_sequence : Instruction → Bool
ends_sequence (Special opcode) = false
ends_sequence Copy = false
ends_sequence (AdvancePc operand) = false
ends_sequence (AdvanceLine operand) = false
ends_sequence (SetFile operand) = false
ends_sequence (SetColumn operand) = false
ends_sequence ConstAddPc = false
ends_sequence (FixedAdvancePc operand) = false
ends_sequence EndSequence = true
ends_sequence (SetAddress operand) = false
ends_sequence Other = false

-- the rows that an instruction appends, if these are the registers after it
abbrev pub row_with : Registers → Instruction → List Row
row_with r i = if appends_row i then record { registers = r; end_sequence = ends_sequence i } ∷ [] else []

-- the registers before the next instruction, if these are the registers after an instruction
abbrev pub registers_with : Registers → Instruction → Registers
registers_with r i = if ends_sequence i then initial else r

-- the rows that an instruction appends
abbrev pub appended : HeaderRecord → Registers → Instruction → List Row
appended header r i = row_with (applied header r i) i

-- the registers before the next instruction
abbrev pub following : HeaderRecord → Registers → Instruction → Registers
following header r i = registers_with (applied header r i) i

-- the rows of the instructions at the beginning of the bytes, at most `count` instructions
unfoldable pub rows_within : ℕ → HeaderRecord → Registers → List ℕ → List Row
rows_within zero header r bytes = []
rows_within (suc count) header r bytes =
    option_map_or (λ x. appended header r x.0 ++ rows_within count header (following header r x.0) x.1)
    (instruction_at header bytes) []

-- the rows of all instructions, up to the first bytes that begin with none; each instruction has at least one byte
unfoldable pub rows_from : HeaderRecord → Registers → List ℕ → List Row
rows_from header r bytes = rows_within (length bytes) header r bytes
