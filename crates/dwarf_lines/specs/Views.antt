-- Headers and programs in the code, as the definitions have them.
use Rattle.dwarf_lines.specs.Header.{HeaderRecord, ProgramRecord}
use Rattle.dwarf_lines.specs.declared.header.Header.{Header}
use Rattle.dwarf_lines.specs.declared.header.Program.{Program}

-- a header, without the address of its bytes in memory
abbrev pub header_view : Header → HeaderRecord
header_view h =
    record {
      minimum_instruction_length = h.minimum_instruction_length;
      line_base = h.line_base;
      line_range = h.line_range;
      opcode_base = h.opcode_base;
      standard_opcode_lengths = h.standard_opcode_lengths.now;
    }

-- a program, without the address of its bytes in memory
abbrev pub program_view : Program → ProgramRecord
program_view p = record { header = header_view p.header; bytes = p.bytes.now }
