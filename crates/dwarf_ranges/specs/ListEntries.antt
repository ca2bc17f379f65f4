-- The encoding of the entries of range lists (DWARF 4, section 2.17.3; DWARF 5, section 7.25).
use Rattle.std.specs.Prelude.{ℕ, List, [], ◌∷◌, length, drop, ◌+◌, ◌-◌, ◌%◌, ◌^◌, ◌==◌, ◌&&◌, nat_lt, if◌then◌else◌}
use Rattle.std.specs.Prelude.{Option, Some, None, unwrap_or}
use Rattle.std.specs.Option.{option_map, option_and_then}
use Rattle.dwarf_encoding.specs.LittleEndian.{u64_le_at}
use Rattle.dwarf_encoding.specs.Leb128.{unsigned_leb128_at}
use Rattle.dwarf_ranges.specs.Addresses.{AddressesRecord, address_at}
use Rattle.dwarf_ranges.specs.declared.range_entry.RangeEntry.{RangeEntry}
use Rattle.dwarf_ranges.specs.declared.range_entry.RangeEntry.TheVariants.{EndOfList, BaseAddress, OffsetPair, StartEnd}
use Rattle.dwarf_ranges.specs.declared.range_entry.RangeEntry.TheVariants.{NoRange}

-- the entry of two eight-byte numbers in __debug_ranges
abbrev pub pair_entry : ℕ → ℕ → RangeEntry
pair_entry begin end =
    if (begin == 0) && (end == 0) then EndOfList
    else (if begin == 2 ^ 64 - 1 then BaseAddress end else OffsetPair begin end)

-- the entry of __debug_ranges that begins the bytes, and the bytes after it
unfoldable pub debug_ranges_entry_at : List ℕ → Option (RangeEntry × List ℕ)
debug_ranges_entry_at bytes =
    if nat_lt (length bytes) 16 then None
    else Some (pair_entry (u64_le_at bytes 0) (u64_le_at bytes 8), drop 16 bytes)

-- the eight-byte address that begins the bytes, and the bytes after it
unfoldable pub address_here : List ℕ → Option (ℕ × List ℕ)
address_here bytes = if nat_lt (length bytes) 8 then None else Some (u64_le_at bytes 0, drop 8 bytes)

-- two values, one after the other, and the entry that is made of them
abbrev pub two : (List ℕ → Option (ℕ × List ℕ)) → (List ℕ → Option (ℕ × List ℕ)) → (ℕ → ℕ → RangeEntry) → List ℕ
    → Option (RangeEntry × List ℕ)
two first second made bytes =
    option_and_then (λ x. option_map (λ y. (made x.0 y.0, y.1)) (second x.1)) (first bytes)

-- `size` addresses from `start` on
abbrev pub from_on : ℕ → ℕ → RangeEntry
from_on start size = StartEnd start ((start + size) % 2 ^ 64)

-- a range of two indexed addresses; no range if one of them is missing
abbrev pub start_end : Option ℕ → Option ℕ → RangeEntry
start_end (Some start) (Some end) = StartEnd start end
start_end (Some start) None = NoRange
start_end None end = NoRange

-- a range from an indexed address on; no range if it is missing
abbrev pub start_size : Option ℕ → ℕ → RangeEntry
start_size (Some start) size = from_on start size
start_size None size = NoRange

-- the entry of a kind, whose operands begin the bytes, and the bytes after it: DW_RLE_end_of_list, base_addressx,
-- startx_endx, startx_length, offset_pair, base_address, start_end, start_length
unfoldable pub operands_at : AddressesRecord → ℕ → List ℕ → Option (RangeEntry × List ℕ)
operands_at addresses kind bytes =
    if kind == 0x00 then Some (EndOfList, bytes)
    else (if kind == 0x01
    then option_map (λ x. (BaseAddress (unwrap_or (address_at addresses x.0) 0), x.1)) (unsigned_leb128_at bytes)
    else (if kind == 0x02
    then two unsigned_leb128_at unsigned_leb128_at
    (λ i j. start_end (address_at addresses i) (address_at addresses j)) bytes
    else (if kind == 0x03
    then two unsigned_leb128_at unsigned_leb128_at (λ i n. start_size (address_at addresses i) n) bytes
    else (if kind == 0x04 then two unsigned_leb128_at unsigned_leb128_at OffsetPair bytes
    else (if kind == 0x05 then option_map (λ x. (BaseAddress x.0, x.1)) (address_here bytes)
    else (if kind == 0x06 then two address_here address_here StartEnd bytes
    else (if kind == 0x07 then two address_here unsigned_leb128_at from_on bytes
    else None)))))))

-- the entry of __debug_rnglists that begins the bytes, and the bytes after it
unfoldable pub rnglists_entry_at : AddressesRecord → List ℕ → Option (RangeEntry × List ℕ)
rnglists_entry_at addresses [] = None
rnglists_entry_at addresses (kind ∷ bytes) = operands_at addresses kind bytes
