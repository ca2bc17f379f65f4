use Rattle.std.proofs.Common.{rules, ◌∙◌, ap, refl}
use Rattle.macho_symbols.specs.Symbols.{name_of}
use Rattle.macho_symbols.proofs.Said.{found_said}
use Rattle.macho_symbols.proofs.table.AddressTable.found.Goals as goal

pub returns : goal.returns
returns c =
    found_said c.args.image.now c.args.address c.args.row.now _ c.requires.says c.requires.some
    (c.name_from.ensures ∙ ap (λ s. name_of s c.args.row.now.n_strx) c.strings.ensures) refl (search rules) refl
    (search rules) (search rules)
