-- Attributes in the code, as the definitions have them.
use Rattle.std.specs.Prelude.{ℕ, List, Option, None, map, slice_index_or}
use Rattle.std.specs.Option.{option_map}
use Rattle.dwarf_encoding.specs.Values.{ValueRecord}
use Rattle.dwarf_encoding.specs.Views.{value_view}
use Rattle.dwarf_entries.specs.Attributes.{AttributesRecord}
use Rattle.dwarf_entries.specs.declared.attributes.Attribute.{Attribute}
use Rattle.dwarf_entries.specs.declared.attributes.Attribute.TheVariants.{Name, StmtList, LowPc, HighPc, CompDir}
use Rattle.dwarf_entries.specs.declared.attributes.Attribute.TheVariants.{AbstractOrigin, Specification, Ranges}
use Rattle.dwarf_entries.specs.declared.attributes.Attribute.TheVariants.{CallColumn, CallFile, CallLine, LinkageName}
use Rattle.dwarf_entries.specs.declared.attributes.Attribute.TheVariants.{StrOffsetsBase, AddrBase, RnglistsBase}
use Rattle.dwarf_entries.specs.declared.attributes.Attribute.TheVariants.{MipsLinkageName}
use Rattle.dwarf_entries.specs.declared.attributes.Attributes.{Attributes}

-- the index of the value of an attribute
abbrev pub slot_of : Attribute → ℕ
slot_of Name = 0
slot_of StmtList = 1
slot_of LowPc = 2
slot_of HighPc = 3
slot_of CompDir = 4
slot_of AbstractOrigin = 5
slot_of Specification = 6
slot_of Ranges = 7
slot_of CallColumn = 8
slot_of CallFile = 9
slot_of CallLine = 10
slot_of LinkageName = 11
slot_of StrOffsetsBase = 12
slot_of AddrBase = 13
slot_of RnglistsBase = 14
slot_of MipsLinkageName = 15

-- the attributes whose values are in this list, each at its index
unfoldable pub of_slots : List (Option ValueRecord) → AttributesRecord
of_slots values =
    record {
      name = slice_index_or values 0 None;
      stmt_list = slice_index_or values 1 None;
      low_pc = slice_index_or values 2 None;
      high_pc = slice_index_or values 3 None;
      comp_dir = slice_index_or values 4 None;
      abstract_origin = slice_index_or values 5 None;
      specification = slice_index_or values 6 None;
      ranges = slice_index_or values 7 None;
      call_column = slice_index_or values 8 None;
      call_file = slice_index_or values 9 None;
      call_line = slice_index_or values 10 None;
      linkage_name = slice_index_or values 11 None;
      str_offsets_base = slice_index_or values 12 None;
      addr_base = slice_index_or values 13 None;
      rnglists_base = slice_index_or values 14 None;
      mips_linkage_name = slice_index_or values 15 None;
    }

-- the attributes, without the addresses of their texts in memory
abbrev pub attributes_view : Attributes → AttributesRecord
attributes_view a = of_slots (map (option_map value_view) a.values)
