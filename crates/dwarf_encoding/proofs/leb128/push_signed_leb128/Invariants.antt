use Rattle.std.proofs.Common.{◌≡◌, ◌++◌, ◌-◌}
use Rattle.dwarf_encoding.specs.Leb128.{fits_signed, leb128_within, shifted_signed}
use Rattle.dwarf_encoding.proofs.leb128.push_signed_leb128.Given as goal

abbrev pub invariant-bytes : goal.invariant-bytes
invariant-bytes l =
    l.bytes.items ++ leb128_within fits_signed shifted_signed (10 - l.counter) l.left
    ≡ l.fn.bytes.items ++ leb128_within fits_signed shifted_signed 9 l.number
