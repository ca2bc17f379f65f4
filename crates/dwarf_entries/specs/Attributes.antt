-- The attributes that are read here (DWARF 5, sections 2.2 and 7.5.4, table 7.5).
use Rattle.std.specs.Prelude.{ℕ, ◌==◌, if◌then◌else◌, Option, Some, None}
use Rattle.std.specs.Option.{option_map_or, option_or}
use Rattle.dwarf_encoding.specs.Values.{ValueRecord}
use Rattle.dwarf_entries.specs.declared.attributes.Attribute.{Attribute}
use Rattle.dwarf_entries.specs.declared.attributes.Attribute.TheVariants.{Name, StmtList, LowPc, HighPc, CompDir}
use Rattle.dwarf_entries.specs.declared.attributes.Attribute.TheVariants.{AbstractOrigin, Specification, Ranges}
use Rattle.dwarf_entries.specs.declared.attributes.Attribute.TheVariants.{CallColumn, CallFile, CallLine, LinkageName}
use Rattle.dwarf_entries.specs.declared.attributes.Attribute.TheVariants.{StrOffsetsBase, AddrBase, RnglistsBase}
use Rattle.dwarf_entries.specs.declared.attributes.Attribute.TheVariants.{MipsLinkageName}

-- their numbers; the last is in LLVM's vendor range, and older than DW_AT_linkage_name
abbrev pub DW_AT_name : ℕ
DW_AT_name = 0x03

abbrev pub DW_AT_stmt_list : ℕ
DW_AT_stmt_list = 0x10

abbrev pub DW_AT_low_pc : ℕ
DW_AT_low_pc = 0x11

abbrev pub DW_AT_high_pc : ℕ
DW_AT_high_pc = 0x12

abbrev pub DW_AT_comp_dir : ℕ
DW_AT_comp_dir = 0x1b

abbrev pub DW_AT_abstract_origin : ℕ
DW_AT_abstract_origin = 0x31

abbrev pub DW_AT_specification : ℕ
DW_AT_specification = 0x47

abbrev pub DW_AT_ranges : ℕ
DW_AT_ranges = 0x55

abbrev pub DW_AT_call_column : ℕ
DW_AT_call_column = 0x57

abbrev pub DW_AT_call_file : ℕ
DW_AT_call_file = 0x58

abbrev pub DW_AT_call_line : ℕ
DW_AT_call_line = 0x59

abbrev pub DW_AT_linkage_name : ℕ
DW_AT_linkage_name = 0x6e

abbrev pub DW_AT_str_offsets_base : ℕ
DW_AT_str_offsets_base = 0x72

abbrev pub DW_AT_addr_base : ℕ
DW_AT_addr_base = 0x73

abbrev pub DW_AT_rnglists_base : ℕ
DW_AT_rnglists_base = 0x74

abbrev pub DW_AT_MIPS_linkage_name : ℕ
DW_AT_MIPS_linkage_name = 0x2007

-- the value of each attribute of an entry
pub record AttributesRecord : Type 0 where
  pub name : Option ValueRecord
  pub stmt_list : Option ValueRecord
  pub low_pc : Option ValueRecord
  pub high_pc : Option ValueRecord
  pub comp_dir : Option ValueRecord
  pub abstract_origin : Option ValueRecord
  pub specification : Option ValueRecord
  pub ranges : Option ValueRecord
  pub call_column : Option ValueRecord
  pub call_file : Option ValueRecord
  pub call_line : Option ValueRecord
  pub linkage_name : Option ValueRecord
  pub str_offsets_base : Option ValueRecord
  pub addr_base : Option ValueRecord
  pub rnglists_base : Option ValueRecord
  pub mips_linkage_name : Option ValueRecord

-- no values
abbrev pub no_attributes : AttributesRecord
no_attributes =
    record {
      name = None;
      stmt_list = None;
      low_pc = None;
      high_pc = None;
      comp_dir = None;
      abstract_origin = None;
      specification = None;
      ranges = None;
      call_column = None;
      call_file = None;
      call_line = None;
      linkage_name = None;
      str_offsets_base = None;
      addr_base = None;
      rnglists_base = None;
      mips_linkage_name = None;
    }

-- the value of an attribute
abbrev pub value_of : AttributesRecord → Attribute → Option ValueRecord
value_of a Name = a.name
value_of a StmtList = a.stmt_list
value_of a LowPc = a.low_pc
value_of a HighPc = a.high_pc
value_of a CompDir = a.comp_dir
value_of a AbstractOrigin = a.abstract_origin
value_of a Specification = a.specification
value_of a Ranges = a.ranges
value_of a CallColumn = a.call_column
value_of a CallFile = a.call_file
value_of a CallLine = a.call_line
value_of a LinkageName = a.linkage_name
value_of a StrOffsetsBase = a.str_offsets_base
value_of a AddrBase = a.addr_base
value_of a RnglistsBase = a.rnglists_base
value_of a MipsLinkageName = a.mips_linkage_name

-- the value of an attribute; a second value is ignored
abbrev pub first : Option ValueRecord → ValueRecord → Option ValueRecord
first earlier value = option_or earlier (Some value)

-- the attributes with one more value
abbrev pub with_value : AttributesRecord → Attribute → ValueRecord → AttributesRecord
with_value a Name value = record a { name = first a.name value }
with_value a StmtList value = record a { stmt_list = first a.stmt_list value }
with_value a LowPc value = record a { low_pc = first a.low_pc value }
with_value a HighPc value = record a { high_pc = first a.high_pc value }
with_value a CompDir value = record a { comp_dir = first a.comp_dir value }
with_value a AbstractOrigin value = record a { abstract_origin = first a.abstract_origin value }
with_value a Specification value = record a { specification = first a.specification value }
with_value a Ranges value = record a { ranges = first a.ranges value }
with_value a CallColumn value = record a { call_column = first a.call_column value }
with_value a CallFile value = record a { call_file = first a.call_file value }
with_value a CallLine value = record a { call_line = first a.call_line value }
with_value a LinkageName value = record a { linkage_name = first a.linkage_name value }
with_value a StrOffsetsBase value = record a { str_offsets_base = first a.str_offsets_base value }
with_value a AddrBase value = record a { addr_base = first a.addr_base value }
with_value a RnglistsBase value = record a { rnglists_base = first a.rnglists_base value }
with_value a MipsLinkageName value = record a { mips_linkage_name = first a.mips_linkage_name value }

-- the attribute with a number, if it is read here
unfoldable pub attribute_of : ℕ → Option Attribute
attribute_of number =
    if number == DW_AT_name then Some Name
    else if number == DW_AT_stmt_list then Some StmtList
    else if number == DW_AT_low_pc then Some LowPc
    else if number == DW_AT_high_pc then Some HighPc
    else if number == DW_AT_comp_dir then Some CompDir
    else if number == DW_AT_abstract_origin then Some AbstractOrigin
    else if number == DW_AT_specification then Some Specification
    else if number == DW_AT_ranges then Some Ranges
    else if number == DW_AT_call_column then Some CallColumn
    else if number == DW_AT_call_file then Some CallFile
    else if number == DW_AT_call_line then Some CallLine
    else if number == DW_AT_linkage_name then Some LinkageName
    else if number == DW_AT_str_offsets_base then Some StrOffsetsBase
    else if number == DW_AT_addr_base then Some AddrBase
    else if number == DW_AT_rnglists_base then Some RnglistsBase
    else if number == DW_AT_MIPS_linkage_name then Some MipsLinkageName
    else None

-- the attributes with one more value, whose attribute has this number
abbrev pub with_attribute : AttributesRecord → ℕ → ValueRecord → AttributesRecord
with_attribute a number value = option_map_or (λ attribute. with_value a attribute value) (attribute_of number) a
