use Rattle.std.proofs.Common.{◌≡◌, ◌++◌, ◌-◌}
use Rattle.dwarf_encoding.specs.Leb128.{fits_unsigned, leb128_within, shifted_unsigned}
use Rattle.dwarf_encoding.proofs.leb128.push_unsigned_leb128.Given as goal

abbrev pub invariant-bytes : goal.invariant-bytes
invariant-bytes l =
    l.bytes.items ++ leb128_within fits_unsigned shifted_unsigned (10 - l.counter) l.left
    ≡ l.fn.bytes.items ++ leb128_within fits_unsigned shifted_unsigned 9 l.number
