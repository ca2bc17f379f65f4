-- The header of a line number program (DWARF 5, section 6.2.4), of the versions 2 to 5 in the 32-bit format.
use Rattle.std.specs.Prelude.{ℕ, List, take, drop, length, slice_index, ◌+◌, ◌-◌, ◌==◌, ◌&&◌, ◌||◌, Bool, not, nat_le}
use Rattle.std.specs.Prelude.{nat_lt, Option, Some, None, if◌then◌else◌}
use Rattle.dwarf_encoding.specs.LittleEndian.{u16_le_at, u32_le_at}
use Rattle.dwarf_encoding.specs.Units.{is_64_bit}

-- the fields of a header that the machine uses; line_base as its byte
pub record HeaderRecord : Type 0 where
  pub minimum_instruction_length : ℕ
  pub line_base : ℕ
  pub line_range : ℕ
  pub opcode_base : ℕ
  pub standard_opcode_lengths : List ℕ

-- a header, and the bytes of the program after it
pub record ProgramRecord : Type 0 where
  pub header : HeaderRecord
  pub bytes : List ℕ

abbrev pub version : List ℕ → ℕ
version unit = u16_le_at unit 4

-- version 5 has address_size and segment_selector_size between version and header_length
abbrev pub header_length_offset : List ℕ → ℕ
header_length_offset unit = if version unit == 5 then 8 else 6

-- minimum_instruction_length follows header_length
abbrev pub minimum_instruction_length_offset : List ℕ → ℕ
minimum_instruction_length_offset unit = header_length_offset unit + 4

-- from version 4 on maximum_operations_per_instruction is between minimum_instruction_length and default_is_stmt
abbrev pub default_is_stmt_offset : List ℕ → ℕ
default_is_stmt_offset unit = minimum_instruction_length_offset unit + (if nat_le 4 (version unit) then 2 else 1)

-- line_base, line_range and opcode_base follow, one byte each
abbrev pub opcode_base : List ℕ → ℕ
opcode_base unit = slice_index unit (default_is_stmt_offset unit + 3)

-- then standard_opcode_lengths, one byte for each opcode from 1 to opcode_base - 1
abbrev pub standard_opcode_lengths_offset : List ℕ → ℕ
standard_opcode_lengths_offset unit = default_is_stmt_offset unit + 4

-- then the names of directories and files
abbrev pub names_offset : List ℕ → ℕ
names_offset unit = standard_opcode_lengths_offset unit + (opcode_base unit - 1)

-- the program begins header_length bytes after that field
abbrev pub program_offset : List ℕ → ℕ
program_offset unit = minimum_instruction_length_offset unit + u32_le_at unit (header_length_offset unit)

-- the fields of a header
abbrev pub header_of : List ℕ → HeaderRecord
header_of unit =
    record {
      minimum_instruction_length = slice_index unit (minimum_instruction_length_offset unit);
      line_base = slice_index unit (default_is_stmt_offset unit + 1);
      line_range = slice_index unit (default_is_stmt_offset unit + 2);
      opcode_base = opcode_base unit;
      standard_opcode_lengths = take (opcode_base unit - 1) (drop (standard_opcode_lengths_offset unit) unit);
    }

-- whether a unit has a header that can be read here: it is in the 32-bit format, its version is 2 to 5, its fields are
-- before its program, line_range is not 0, and from version 4 on maximum_operations_per_instruction is 1
abbrev pub has_header : List ℕ → Bool
has_header unit =
    nat_le 6 (length unit) && not (is_64_bit unit) && nat_le 2 (version unit) && nat_le (version unit) 5
    && nat_le (standard_opcode_lengths_offset unit) (length unit)
    && nat_le (names_offset unit) (program_offset unit) && nat_le (program_offset unit) (length unit)
    && nat_lt 0 (slice_index unit (default_is_stmt_offset unit + 2))
    && (nat_lt (version unit) 4 || (slice_index unit (minimum_instruction_length_offset unit + 1) == 1))

-- the program of a unit
unfoldable pub program_of : List ℕ → Option ProgramRecord
program_of unit =
    if has_header unit
    then Some (record { header = header_of unit; bytes = drop (program_offset unit) unit })
    else None

-- the bytes of the names of directories and files, from the fields before them to the program
abbrev pub name_bytes : List ℕ → List ℕ
name_bytes unit = take (program_offset unit - names_offset unit) (drop (names_offset unit) unit)
