-- The values of attributes by their forms (DWARF 5, sections 7.5.5 and 7.5.6), in the 32-bit format, with addresses of
-- eight bytes.
use Rattle.std.specs.Prelude.{ℕ, List, [], ◌∷◌, ◌+◌, ◌*◌, ◌==◌, ◌||◌, nat_lt, length, take, drop, slice_index, Bool}
use Rattle.std.specs.Prelude.{false, Option, Some, None, if◌then◌else◌}
use Rattle.std.specs.Option.{option_map, option_and_then}
use Rattle.dwarf_encoding.specs.Leb128.{unsigned_leb128_at, signed_leb128_at}
use Rattle.dwarf_encoding.specs.LittleEndian.{u16_le_at, u32_le_at, u64_le_at}
use Rattle.dwarf_encoding.specs.Text.{text_at}
use Rattle.dwarf_encoding.specs.Values.{ValueRecord, Address as Address_, AddressIndex as AddressIndex_}
use Rattle.dwarf_encoding.specs.Values.{Constant as Constant_, InlineString as InlineString_}
use Rattle.dwarf_encoding.specs.Values.{StringOffset as StringOffset_, LineStringOffset as LineStringOffset_}
use Rattle.dwarf_encoding.specs.Values.{StringIndex as StringIndex_, UnitReference as UnitReference_}
use Rattle.dwarf_encoding.specs.Values.{SectionReference as SectionReference_, SectionOffset as SectionOffset_}
use Rattle.dwarf_encoding.specs.Values.{RangeListIndex as RangeListIndex_, Other as Other_}
use Rattle.dwarf_encoding.specs.declared.form.Class.{Class}
use Rattle.dwarf_encoding.specs.declared.form.Class.TheVariants.{Address, AddressIndex, Constant, StringOffset}
use Rattle.dwarf_encoding.specs.declared.form.Class.TheVariants.{LineStringOffset, StringIndex, UnitReference}
use Rattle.dwarf_encoding.specs.declared.form.Class.TheVariants.{SectionReference, SectionOffset, RangeListIndex, Other}
use Rattle.dwarf_encoding.specs.FormNumbers.{DW_FORM_addr, DW_FORM_block2, DW_FORM_block4, DW_FORM_data2}
use Rattle.dwarf_encoding.specs.FormNumbers.{DW_FORM_data4, DW_FORM_data8, DW_FORM_string, DW_FORM_block}
use Rattle.dwarf_encoding.specs.FormNumbers.{DW_FORM_block1, DW_FORM_data1, DW_FORM_flag, DW_FORM_sdata}
use Rattle.dwarf_encoding.specs.FormNumbers.{DW_FORM_strp, DW_FORM_udata, DW_FORM_ref_addr, DW_FORM_ref1}
use Rattle.dwarf_encoding.specs.FormNumbers.{DW_FORM_ref2, DW_FORM_ref4, DW_FORM_ref8, DW_FORM_ref_udata}
use Rattle.dwarf_encoding.specs.FormNumbers.{DW_FORM_sec_offset, DW_FORM_exprloc, DW_FORM_flag_present}
use Rattle.dwarf_encoding.specs.FormNumbers.{DW_FORM_strx, DW_FORM_addrx, DW_FORM_ref_sup4}
use Rattle.dwarf_encoding.specs.FormNumbers.{DW_FORM_strp_sup, DW_FORM_data16, DW_FORM_line_strp}
use Rattle.dwarf_encoding.specs.FormNumbers.{DW_FORM_ref_sig8, DW_FORM_implicit_const, DW_FORM_loclistx}
use Rattle.dwarf_encoding.specs.FormNumbers.{DW_FORM_rnglistx, DW_FORM_ref_sup8, DW_FORM_strx1}
use Rattle.dwarf_encoding.specs.FormNumbers.{DW_FORM_strx2, DW_FORM_strx3, DW_FORM_strx4, DW_FORM_addrx1}
use Rattle.dwarf_encoding.specs.FormNumbers.{DW_FORM_addrx2, DW_FORM_addrx3, DW_FORM_addrx4}

-- the value of a class that is encoded as a number
abbrev pub class_value : Class → ℕ → ValueRecord
class_value Address number = Address_ number
class_value AddressIndex number = AddressIndex_ number
class_value Constant number = Constant_ number
class_value StringOffset number = StringOffset_ number
class_value LineStringOffset number = LineStringOffset_ number
class_value StringIndex number = StringIndex_ number
class_value UnitReference number = UnitReference_ number
class_value SectionReference number = SectionReference_ number
class_value SectionOffset number = SectionOffset_ number
class_value RangeListIndex number = RangeListIndex_ number
class_value Other number = Other_

-- the form is one of these
abbrev pub is_one_of : List ℕ → ℕ → Bool
is_one_of [] form = false
is_one_of (one ∷ []) form = form == one
is_one_of (one ∷ other ∷ others) form = (form == one) || is_one_of (other ∷ others) form

-- the size in bytes of each value of a form; DW_FORM_ref_addr has the size of an address in version 2
abbrev pub fixed_size : ℕ → ℕ → Option ℕ
fixed_size version form =
    if form == DW_FORM_flag_present then Some 0
    else if is_one_of (DW_FORM_data1 ∷ DW_FORM_flag ∷ DW_FORM_ref1 ∷ DW_FORM_strx1 ∷ DW_FORM_addrx1 ∷
    []) form then Some 1
    else if is_one_of (DW_FORM_data2 ∷ DW_FORM_ref2 ∷ DW_FORM_strx2 ∷ DW_FORM_addrx2 ∷ []) form then Some 2
    else if is_one_of (DW_FORM_strx3 ∷ DW_FORM_addrx3 ∷ []) form then Some 3
    else if is_one_of (DW_FORM_data4 ∷ DW_FORM_strp ∷ DW_FORM_ref4 ∷ DW_FORM_sec_offset ∷ DW_FORM_ref_sup4 ∷
    DW_FORM_strp_sup ∷ DW_FORM_line_strp ∷ DW_FORM_strx4 ∷ DW_FORM_addrx4 ∷ []) form then Some 4
    else if is_one_of (DW_FORM_addr ∷ DW_FORM_data8 ∷ DW_FORM_ref8 ∷ DW_FORM_ref_sig8 ∷ DW_FORM_ref_sup8 ∷
    []) form then Some 8
    else if form == DW_FORM_data16 then Some 16
    else if form == DW_FORM_ref_addr then Some (if version == 2 then 8 else 4)
    else None

-- the class of the values that a form encodes as numbers
abbrev pub class_of : ℕ → Class
class_of form =
    if form == DW_FORM_addr then Address
    else if is_one_of (DW_FORM_addrx ∷ DW_FORM_addrx1 ∷ DW_FORM_addrx2 ∷ DW_FORM_addrx3 ∷ DW_FORM_addrx4 ∷
    []) form then AddressIndex
    else if is_one_of (DW_FORM_data1 ∷ DW_FORM_data2 ∷ DW_FORM_data4 ∷ DW_FORM_data8 ∷ DW_FORM_sdata ∷
    DW_FORM_udata ∷ []) form then Constant
    else if form == DW_FORM_strp then StringOffset
    else if form == DW_FORM_line_strp then LineStringOffset
    else if is_one_of (DW_FORM_strx ∷ DW_FORM_strx1 ∷ DW_FORM_strx2 ∷ DW_FORM_strx3 ∷ DW_FORM_strx4 ∷
    []) form then StringIndex
    else if is_one_of (DW_FORM_ref1 ∷ DW_FORM_ref2 ∷ DW_FORM_ref4 ∷ DW_FORM_ref8 ∷ DW_FORM_ref_udata ∷
    []) form then UnitReference
    else if form == DW_FORM_ref_addr then SectionReference
    else if form == DW_FORM_sec_offset then SectionOffset
    else if form == DW_FORM_rnglistx then RangeListIndex
    else Other

-- the little-endian number in one, two, three, four or eight bytes; no other size is used
abbrev pub number_of_size : ℕ → List ℕ → ℕ
number_of_size size bytes =
    if size == 1 then slice_index bytes 0
    else if size == 2 then u16_le_at bytes 0
    else if size == 3 then u16_le_at bytes 0 + 65536 * slice_index bytes 2
    else if size == 4 then u32_le_at bytes 0
    else if size == 8 then u64_le_at bytes 0
    else 0

-- the first `size` bytes, and the bytes after them
abbrev pub split_at : ℕ → List ℕ → Option (List ℕ × List ℕ)
split_at size bytes = if nat_lt (length bytes) size then None else Some (take size bytes, drop size bytes)

-- the bytes after a block that begins with its length, a number of `size` bytes
unfoldable pub after_block : ℕ → List ℕ → Option (List ℕ)
after_block size bytes =
    if nat_lt (length bytes) size then None
    else option_map (λ x. x.1) (split_at (number_of_size size bytes) (drop size bytes))

-- a value of a form whose values differ in size
unfoldable pub variable_value_at : ℕ → List ℕ → Option (ValueRecord × List ℕ)
variable_value_at form bytes =
    if is_one_of (DW_FORM_udata ∷ DW_FORM_ref_udata ∷ DW_FORM_strx ∷ DW_FORM_addrx ∷ DW_FORM_loclistx ∷
    DW_FORM_rnglistx ∷ []) form
    then option_map (λ x. (class_value (class_of form) x.0, x.1)) (unsigned_leb128_at bytes)
    else if form == DW_FORM_sdata then option_map (λ x. (Constant_ x.0, x.1)) (signed_leb128_at bytes)
    else if form == DW_FORM_string then option_map (λ x. (InlineString_ x.0, x.1)) (text_at bytes)
    else if form == DW_FORM_block1 then option_map (λ rest. (Other_, rest)) (after_block 1 bytes)
    else if form == DW_FORM_block2 then option_map (λ rest. (Other_, rest)) (after_block 2 bytes)
    else if form == DW_FORM_block4 then option_map (λ rest. (Other_, rest)) (after_block 4 bytes)
    else if is_one_of (DW_FORM_block ∷ DW_FORM_exprloc ∷ []) form
    then option_and_then (λ x. option_map (λ y. (Other_, y.1)) (split_at x.0 x.1)) (unsigned_leb128_at bytes)
    else None

-- a value of a form, whose values have this size if all have the same
abbrev pub sized_value_at : Option ℕ → ℕ → List ℕ → Option (ValueRecord × List ℕ)
sized_value_at None form bytes = variable_value_at form bytes
sized_value_at (Some size) form bytes =
    if nat_lt (length bytes) size then None
    else Some (class_value (class_of form) (number_of_size size bytes), drop size bytes)

-- the value of a form that begins the bytes, and the bytes after it; a value of DW_FORM_implicit_const has no bytes:
-- its number is in the attribute's declaration
unfoldable pub value_at : ℕ → ℕ → ℕ → List ℕ → Option (ValueRecord × List ℕ)
value_at version form implicit bytes =
    if form == DW_FORM_implicit_const then Some (Constant_ implicit, bytes)
    else sized_value_at (fixed_size version form) form bytes
