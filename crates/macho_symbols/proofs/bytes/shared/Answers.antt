use Rattle.std.proofs.Common.{◌∙◌, sym}
use Rattle.std.specs.Cmp.Lexicographic.{bytes_decides}
use Rattle.macho_symbols.proofs.bytes.shared.Goals as goal

pub returns-then-eq-clause-same : goal.returns-then-eq-clause-same
returns-then-eq-clause-same c = (bytes_decides _ _).0 (sym c.eq.ensures ∙ c.if-eq.true)
