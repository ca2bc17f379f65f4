-- The instructions in the bytes of a line number program (DWARF 5, sections 6.2.5 and 7.22).
use Rattle.std.specs.Prelude.{ℕ, zero, suc, List, [], ◌∷◌, take, drop, length, slice_index, ◌-◌, ◌==◌, ◌||◌, nat_le}
use Rattle.std.specs.Prelude.{nat_lt, Option, Some, None, if◌then◌else◌}
use Rattle.std.specs.Option.{option_map, option_and_then}
use Rattle.dwarf_encoding.specs.Leb128.{unsigned_leb128_at, signed_leb128_at}
use Rattle.dwarf_encoding.specs.LittleEndian.{u16_le_at, u64_le_at}
use Rattle.dwarf_lines.specs.Header.{HeaderRecord}
use Rattle.dwarf_lines.specs.declared.instruction.Instruction.{Instruction}
use Rattle.dwarf_lines.specs.declared.instruction.Instruction.TheVariants.{Special, Copy, AdvancePc, AdvanceLine}
use Rattle.dwarf_lines.specs.declared.instruction.Instruction.TheVariants.{SetFile, SetColumn, ConstAddPc}
use Rattle.dwarf_lines.specs.declared.instruction.Instruction.TheVariants.{FixedAdvancePc, EndSequence, SetAddress}
use Rattle.dwarf_lines.specs.declared.instruction.Instruction.TheVariants.{Other}

-- an instruction, and the bytes after it
abbrev pub Read : Type 0
Read = Option (Instruction × List ℕ)

-- an instruction whose operand is a number
abbrev pub with_number : (ℕ → Instruction) → Option (ℕ × List ℕ) → Read
with_number of_number number = option_map (λ x. (of_number x.0, x.1)) number

-- the bytes after `count` unsigned LEB128 operands
unfoldable pub after_operands : ℕ → List ℕ → Option (List ℕ)
after_operands zero bytes = Some bytes
after_operands (suc count) bytes = option_and_then (λ x. after_operands count x.1) (unsigned_leb128_at bytes)

-- an instruction with `count` LEB128 operands that changes no register that is kept here
abbrev pub other_at : ℕ → List ℕ → Read
other_at count bytes = option_map (λ rest. (Other, rest)) (after_operands count bytes)

-- DW_LNS_fixed_advance_pc has one operand of two bytes
abbrev pub fixed_advance_at : List ℕ → Read
fixed_advance_at bytes =
    if nat_lt (length bytes) 2 then None else Some (FixedAdvancePc (u16_le_at bytes 0), drop 2 bytes)

-- an instruction of a standard opcode, from its operands on: DW_LNS_copy (1), DW_LNS_advance_pc (2),
-- DW_LNS_advance_line (3), DW_LNS_set_file (4), DW_LNS_set_column (5), DW_LNS_const_add_pc (8), DW_LNS_fixed_advance_pc
-- (9); DW_LNS_negate_stmt (6), DW_LNS_set_basic_block (7), DW_LNS_set_prologue_end (10) and DW_LNS_set_epilogue_begin
-- (11) have no operand, DW_LNS_set_isa (12) has one; standard_opcode_lengths states the number for the others
unfoldable pub standard_at : HeaderRecord → ℕ → List ℕ → Read
standard_at header opcode bytes =
    if opcode == 1 then Some (Copy, bytes)
    else if opcode == 2 then with_number (λ n. AdvancePc n) (unsigned_leb128_at bytes)
    else if opcode == 3 then with_number (λ n. AdvanceLine n) (signed_leb128_at bytes)
    else if opcode == 4 then with_number (λ n. SetFile n) (unsigned_leb128_at bytes)
    else if opcode == 5 then with_number (λ n. SetColumn n) (unsigned_leb128_at bytes)
    else if opcode == 8 then Some (ConstAddPc, bytes)
    else if opcode == 9 then fixed_advance_at bytes
    else if (opcode == 6) || (opcode == 7) || (opcode == 10) || (opcode == 11) then Some (Other, bytes)
    else if opcode == 12 then other_at 1 bytes
    else other_at (slice_index header.standard_opcode_lengths (opcode - 1)) bytes

-- the instruction of an extended opcode and its operands: DW_LNE_end_sequence (1), and DW_LNE_set_address (2), whose
-- operand has eight bytes
unfoldable pub extended : List ℕ → Option Instruction
extended [] = None
extended (opcode ∷ operands) =
    if opcode == 1 then Some EndSequence
    else if opcode == 2 then (if length operands == 8 then Some (SetAddress (u64_le_at operands 0)) else None)
    else Some Other

-- an extended instruction: the number of its bytes, and the bytes
unfoldable pub extended_at : List ℕ → Read
extended_at bytes =
    option_and_then (λ x. if nat_lt (length x.1) x.0 then None
    else option_map (λ i. (i, drop x.0 x.1)) (extended (take x.0 x.1))) (unsigned_leb128_at bytes)

-- the instruction that begins the bytes
unfoldable pub instruction_at : HeaderRecord → List ℕ → Read
instruction_at header [] = None
instruction_at header (opcode ∷ bytes) =
    if opcode == 0 then extended_at bytes
    else if nat_le header.opcode_base opcode then Some (Special opcode, bytes)
    else standard_at header opcode bytes
