use Rattle.dwarf_encoding.specs.Leb128.{last_unsigned}
use Rattle.dwarf_encoding.proofs.Leb128Lemmas.{number_found, leb_missing, ends_unsigned}
use Rattle.dwarf_encoding.proofs.leb128.long_unsigned_leb128.Goals as goal

pub returns-in_err-last : goal.returns-in_err-last
returns-in_err-last c =
    cc (leb_missing last_unsigned c.args.bytes.now c.in_err-last.ensures.none, c.from_residual.ensures)

pub returns : goal.returns
returns c =
    let found = number_found last_unsigned c.args.bytes.now c.in_ok-last.last 0 c.in_ok-last.ensures.within
    c.in_ok-last.ensures.before c.in_ok-last.ensures.last (ends_unsigned _ c.in_ok-last.ensures.last) in
    cc
