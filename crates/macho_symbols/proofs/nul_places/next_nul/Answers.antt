use Rattle.std.proofs.Common.{◌∙◌, sym, arith}
use Rattle.macho_symbols.proofs.Nuls.{same_nul}
use Rattle.macho_symbols.proofs.nul_places.next_nul.Goals as goal

pub returns-then-index-known : goal.returns-then-index-known
returns-then-index-known c =
    let known = c.requires.known in
    known.2 ∙ sym (same_nul c.args.strings.now known.0 c.args.index known.1 (omega (arith, c.if-index-known.true, known.2)))
