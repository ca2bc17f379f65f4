-- The values of attributes (DWARF 5, section 7.5.5).
use Rattle.std.specs.Prelude.{ℕ, List}

-- a value, as its form encodes it
pub data ValueRecord : Type 0 where
  Address : ℕ → ValueRecord
  AddressIndex : ℕ → ValueRecord
  Constant : ℕ → ValueRecord
  InlineString : List ℕ → ValueRecord
  StringOffset : ℕ → ValueRecord
  LineStringOffset : ℕ → ValueRecord
  StringIndex : ℕ → ValueRecord
  UnitReference : ℕ → ValueRecord
  SectionReference : ℕ → ValueRecord
  SectionOffset : ℕ → ValueRecord
  RangeListIndex : ℕ → ValueRecord
  Other : ValueRecord
