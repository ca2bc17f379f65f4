use Rattle.std.proofs.Common.{◌+◌, ◌∙◌, ap, sym, arith, take, length, ◌&&◌, ◌==◌}
use Rattle.std.specs.List.{before_first}
use Rattle.macho_symbols.proofs.Pieces.{name_is}
use Rattle.macho_symbols.proofs.name.Name.is.Goals as goal

pub returns-then-starts_with : goal.returns-then-starts_with
returns-then-starts_with c =
    let from = c.args.self.now.from.now in
    let needle = c.args.bytes.now in
    let ends = length (before_first (λ b. b == 0) (take (length needle + 1) from)) == length needle in
    ap (λ xs. length xs == length needle) (c.before_nul.ensures ∙ ap (before_first (λ b. b == 0)) c.split_piece.ensures.piece)
    ∙ sym (name_is from needle (length needle + 1) (omega arith) ∙ ap (λ b. b && ends) (sym c.starts_with.ensures.value ∙ c.if-starts_with.true))

pub returns-else-starts_with : goal.returns-else-starts_with
returns-else-starts_with c =
    let from = c.args.self.now.from.now in
    let needle = c.args.bytes.now in
    let ends = length (before_first (λ b. b == 0) (take (length needle + 1) from)) == length needle in
    c.if-starts_with.false ∙ sym (name_is from needle (length needle + 1) (omega arith)
    ∙ ap (λ b. b && ends) (sym c.starts_with.ensures.value ∙ c.if-starts_with.false))
