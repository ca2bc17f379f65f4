use Rattle.std.proofs.Common.{◌≡◌, ◌+◌, ◌*◌, ◌/◌, length, take, drop, ap, ◌∙◌, arith, length-drop}
use Rattle.macho_symbols.specs.NulPlaces.{nul_from}
use Rattle.macho_symbols.proofs.Pieces.{before}
use Rattle.macho_symbols.proofs.Nuls.{nul_within, nul_in_all, nul_behind}
use Rattle.macho_symbols.proofs.nul_places.nul_from.Goals.{then-before-size-via-then-before-size, then-before-size-via-else-before-size+then-size-rest}
use Rattle.macho_symbols.proofs.nul_places.nul_from.Goals as goal

pub returns-then-before-size : goal.returns-then-before-size
returns-then-before-size c =
    let strings = c.args.strings.now in
    let size = c.min-size.result in
    let piece : c.before_nul-before.result.now ≡ before (take size (drop c.args.index strings)) =
    c.before_nul-before.ensures ∙ ap before (c.split_at-2.ensures.front ∙ ap (take size) c.split_at.ensures.back) in
    ap (λ xs. c.args.index + length xs) piece
    ∙ elim c.then-before-size.branch [
      | then-before-size-via-then-before-size w ↦ nul_within strings c.args.index size (omega (arith, ap length piece, w.if-before-size.true))
      | then-before-size-via-else-before-size+then-size-rest w ↦ nul_in_all strings c.args.index size (w.if-size-rest.true ∙ ap length c.split_at.ensures.back)
    ]

pub returns : goal.returns
returns c =
    let strings = c.args.strings.now in
    let index = c.args.index in
    let size = c.min-size.result in
    let piece : c.before_nul-before.result.now ≡ before (take size (drop index strings)) =
    c.before_nul-before.ensures ∙ ap before (c.split_at-2.ensures.front ∙ ap (take size) c.split_at.ensures.back) in
    let border : 4096 * (index / 4096 + 1) ≡ index + size = omega (arith, c.min-size.ensures, c.if-size-rest.false) in
    c.requires.places.each (index / 4096 + 1)
    (omega (arith, c.min-size.ensures, c.if-size-rest.false, c.requires.places.all, ap length c.split_at.ensures.back, length-drop index strings))
    ∙ ap (nul_from strings) border
    ∙ nul_behind strings index size (omega (arith, ap length piece, c.if-before-size.false))
