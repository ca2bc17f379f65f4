-- The forms (DWARF 5, section 7.5.6, table 7.6). DW_FORM_indirect (0x16) is not among them: a value of it cannot be
-- read.
use Rattle.std.specs.Prelude.{ℕ}

abbrev pub DW_FORM_addr : ℕ
DW_FORM_addr = 0x01

abbrev pub DW_FORM_block2 : ℕ
DW_FORM_block2 = 0x03

abbrev pub DW_FORM_block4 : ℕ
DW_FORM_block4 = 0x04

abbrev pub DW_FORM_data2 : ℕ
DW_FORM_data2 = 0x05

abbrev pub DW_FORM_data4 : ℕ
DW_FORM_data4 = 0x06

abbrev pub DW_FORM_data8 : ℕ
DW_FORM_data8 = 0x07

abbrev pub DW_FORM_string : ℕ
DW_FORM_string = 0x08

abbrev pub DW_FORM_block : ℕ
DW_FORM_block = 0x09

abbrev pub DW_FORM_block1 : ℕ
DW_FORM_block1 = 0x0a

abbrev pub DW_FORM_data1 : ℕ
DW_FORM_data1 = 0x0b

abbrev pub DW_FORM_flag : ℕ
DW_FORM_flag = 0x0c

abbrev pub DW_FORM_sdata : ℕ
DW_FORM_sdata = 0x0d

abbrev pub DW_FORM_strp : ℕ
DW_FORM_strp = 0x0e

abbrev pub DW_FORM_udata : ℕ
DW_FORM_udata = 0x0f

abbrev pub DW_FORM_ref_addr : ℕ
DW_FORM_ref_addr = 0x10

abbrev pub DW_FORM_ref1 : ℕ
DW_FORM_ref1 = 0x11

abbrev pub DW_FORM_ref2 : ℕ
DW_FORM_ref2 = 0x12

abbrev pub DW_FORM_ref4 : ℕ
DW_FORM_ref4 = 0x13

abbrev pub DW_FORM_ref8 : ℕ
DW_FORM_ref8 = 0x14

abbrev pub DW_FORM_ref_udata : ℕ
DW_FORM_ref_udata = 0x15

abbrev pub DW_FORM_sec_offset : ℕ
DW_FORM_sec_offset = 0x17

abbrev pub DW_FORM_exprloc : ℕ
DW_FORM_exprloc = 0x18

abbrev pub DW_FORM_flag_present : ℕ
DW_FORM_flag_present = 0x19

abbrev pub DW_FORM_strx : ℕ
DW_FORM_strx = 0x1a

abbrev pub DW_FORM_addrx : ℕ
DW_FORM_addrx = 0x1b

abbrev pub DW_FORM_ref_sup4 : ℕ
DW_FORM_ref_sup4 = 0x1c

abbrev pub DW_FORM_strp_sup : ℕ
DW_FORM_strp_sup = 0x1d

abbrev pub DW_FORM_data16 : ℕ
DW_FORM_data16 = 0x1e

abbrev pub DW_FORM_line_strp : ℕ
DW_FORM_line_strp = 0x1f

abbrev pub DW_FORM_ref_sig8 : ℕ
DW_FORM_ref_sig8 = 0x20

abbrev pub DW_FORM_implicit_const : ℕ
DW_FORM_implicit_const = 0x21

abbrev pub DW_FORM_loclistx : ℕ
DW_FORM_loclistx = 0x22

abbrev pub DW_FORM_rnglistx : ℕ
DW_FORM_rnglistx = 0x23

abbrev pub DW_FORM_ref_sup8 : ℕ
DW_FORM_ref_sup8 = 0x24

abbrev pub DW_FORM_strx1 : ℕ
DW_FORM_strx1 = 0x25

abbrev pub DW_FORM_strx2 : ℕ
DW_FORM_strx2 = 0x26

abbrev pub DW_FORM_strx3 : ℕ
DW_FORM_strx3 = 0x27

abbrev pub DW_FORM_strx4 : ℕ
DW_FORM_strx4 = 0x28

abbrev pub DW_FORM_addrx1 : ℕ
DW_FORM_addrx1 = 0x29

abbrev pub DW_FORM_addrx2 : ℕ
DW_FORM_addrx2 = 0x2a

abbrev pub DW_FORM_addrx3 : ℕ
DW_FORM_addrx3 = 0x2b

abbrev pub DW_FORM_addrx4 : ℕ
DW_FORM_addrx4 = 0x2c
