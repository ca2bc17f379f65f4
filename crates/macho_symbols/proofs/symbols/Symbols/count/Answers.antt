use Rattle.std.proofs.Common.{◌∙◌, ap, drop, sym}
use Rattle.macho_symbols.specs.Symbols.{table_of}
use Rattle.macho_symbols.proofs.EntryLemmas.{length-entries}
use Rattle.macho_symbols.proofs.symbols.Symbols.count.Goals as goal

pub returns : goal.returns
returns c =
    let image = c.args.self.now in
    ap (λ t. t.nsyms) c.self.invariant.table_is ∙ ap (λ b. (table_of b).nsyms) c.self.view_is
    ∙ sym (length-entries (table_of image).nsyms (drop (table_of image).symoff image))
