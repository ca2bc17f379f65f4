use Rattle.std.proofs.Common.{arith}
use Rattle.dwarf_encoding.specs.Leb128.{signed_leb128_bytes, unsigned_leb128_bytes}
use Rattle.dwarf_encoding.proofs.WrittenLemmas.{signed_of_64_bits, unsigned_back}
use Rattle.dwarf_encoding.proofs.laws.numbers_are_read_back.Goals as goal

pub returns-clause-unsigned : goal.returns-clause-unsigned
unfolding unsigned_leb128_bytes
returns-clause-unsigned c = λ number rest fits. unsigned_back 9 number rest fits (omega (arith, fits))

pub returns-clause-signed : goal.returns-clause-signed
unfolding signed_leb128_bytes
returns-clause-signed c = λ number rest fits. signed_of_64_bits number rest fits
