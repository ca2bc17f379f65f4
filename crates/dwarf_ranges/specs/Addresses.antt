-- Addresses by index (DWARF 5, section 7.27).
use Rattle.std.specs.Prelude.{ℕ, List, length, ◌+◌, ◌*◌, nat_le, if◌then◌else◌, Option, Some, None}
use Rattle.dwarf_encoding.specs.LittleEndian.{u64_le_at}

-- __debug_addr, and the offset in it of the addresses of a unit
pub record AddressesRecord : Type 0 where
  pub debug_addr : List ℕ
  pub addr_base : ℕ

-- the eight-byte number at an index, from an offset on; none past the section's end
abbrev pub u64_with_index : List ℕ → ℕ → ℕ → Option ℕ
u64_with_index section base index =
    if nat_le (base + 8 * index + 8) (length section) then Some (u64_le_at section (base + 8 * index)) else None

-- the address at an index
abbrev pub address_at : AddressesRecord → ℕ → Option ℕ
address_at addresses index = u64_with_index addresses.debug_addr addresses.addr_base index
