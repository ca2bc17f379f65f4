use Rattle.std.proofs.Common.{arith}
use Rattle.macho_symbols.specs.Symbols.{candidates}
use Rattle.macho_symbols.proofs.EntryLemmas.{length-candidates}
use Rattle.macho_symbols.proofs.Namesakes.{length-named}
use Rattle.macho_symbols.proofs.symbols.Symbols.named.Goals as goal

pub returns-clause-fit : goal.returns-clause-fit
returns-clause-fit c =
    omega (arith, length-named c.args.self.now c.args.name.now (candidates c.args.self.now), length-candidates c.args.self.now, c.entries.ensures.fit)
