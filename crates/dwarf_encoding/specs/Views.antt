-- Values in the code, as the definitions have them.
use Rattle.dwarf_encoding.specs.Values.{ValueRecord, Address as Address_, AddressIndex as AddressIndex_}
use Rattle.dwarf_encoding.specs.Values.{Constant as Constant_}
use Rattle.dwarf_encoding.specs.Values.{InlineString as InlineString_, StringOffset as StringOffset_}
use Rattle.dwarf_encoding.specs.Values.{LineStringOffset as LineStringOffset_}
use Rattle.dwarf_encoding.specs.Values.{StringIndex as StringIndex_, UnitReference as UnitReference_}
use Rattle.dwarf_encoding.specs.Values.{SectionReference as SectionReference_}
use Rattle.dwarf_encoding.specs.Values.{SectionOffset as SectionOffset_, RangeListIndex as RangeListIndex_}
use Rattle.dwarf_encoding.specs.Values.{Other as Other_}
use Rattle.dwarf_encoding.specs.declared.value.Value.{Value}
use Rattle.dwarf_encoding.specs.declared.value.Value.TheVariants.{Address, AddressIndex, Constant, InlineString}
use Rattle.dwarf_encoding.specs.declared.value.Value.TheVariants.{StringOffset, LineStringOffset, StringIndex}
use Rattle.dwarf_encoding.specs.declared.value.Value.TheVariants.{UnitReference}
use Rattle.dwarf_encoding.specs.declared.value.Value.TheVariants.{SectionReference, SectionOffset, RangeListIndex}
use Rattle.dwarf_encoding.specs.declared.value.Value.TheVariants.{Other}

-- a value, without the address of its text in memory
abbrev pub value_view : Value → ValueRecord
value_view (Address x) = Address_ x
value_view (AddressIndex x) = AddressIndex_ x
value_view (Constant x) = Constant_ x
value_view (InlineString x) = InlineString_ x.now
value_view (StringOffset x) = StringOffset_ x
value_view (LineStringOffset x) = LineStringOffset_ x
value_view (StringIndex x) = StringIndex_ x
value_view (UnitReference x) = UnitReference_ x
value_view (SectionReference x) = SectionReference_ x
value_view (SectionOffset x) = SectionOffset_ x
value_view (RangeListIndex x) = RangeListIndex_ x
value_view Other = Other_
