use Rattle.dwarf_encoding.specs.Leb128.{fits_signed, fits_unsigned, shifted_signed, shifted_unsigned, signed_leb128_bytes, unsigned_leb128_bytes}
use Rattle.dwarf_encoding.proofs.WrittenLemmas.{few_bytes}
use Rattle.dwarf_encoding.proofs.laws.at_most_ten_bytes.Goals as goal

pub returns-clause-unsigned : goal.returns-clause-unsigned
unfolding unsigned_leb128_bytes
returns-clause-unsigned c = λ number. few_bytes fits_unsigned shifted_unsigned 9 number

pub returns-clause-signed : goal.returns-clause-signed
unfolding signed_leb128_bytes
returns-clause-signed c = λ number. few_bytes fits_signed shifted_signed 9 number
