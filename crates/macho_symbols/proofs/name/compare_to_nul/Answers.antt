use Rattle.std.proofs.Common.{◌≡◌, ◌≢◌, ◌∙◌, ◌==◌, ◌<◌, ◌≤◌, ℕ, List, true, false, not, nat_eq, ap, sym, arith, take, length, length-take, length-drop}
use Rattle.std.specs.List.{before_first, position_or_len}
use Rattle.std.specs.Cmp.Lexicographic.{pointwise, bytes_decides}
use Rattle.std.proofs.lemmas.Bool.{not-true, not-false}
use Rattle.macho_symbols.proofs.Pieces.{pieces_differ, pieces_same, names_same}
use Rattle.macho_symbols.proofs.name.compare_to_nul.Goals as goal

apart : (xs ys : List ℕ) → not (pointwise nat_eq xs ys) ≡ true → xs ≢ ys
apart xs ys h e = cc (not-true _ h, (bytes_decides xs ys).1 e)

alike : (xs ys : List ℕ) → not (pointwise nat_eq xs ys) ≡ false → xs ≡ ys
alike xs ys h = (bytes_decides xs ys).0 (not-false _ h)

pub returns-then-ne : goal.returns-then-ne
returns-then-ne c =
    let size = c.pieces.size in
    let own = c.pieces.own.now in
    let others = c.pieces.others.now in
    let differ : take size own ≢ take size others =
    λ e. apart _ _ (sym c.ne.ensures ∙ c.if-ne.true) (c.split_piece.ensures.piece ∙ e ∙ sym c.split_piece-in-pieces.ensures.piece) in
    cc (
      pieces_differ size own others differ,
      c.cmp.ensures,
      c.before_nul.ensures,
      c.before_nul-then-ne.ensures,
      c.split_piece.ensures.piece,
      c.split_piece-in-pieces.ensures.piece,
      c.pieces.invariant.same,
    )

pub returns-then-before_nul-size : goal.returns-then-before_nul-size
returns-then-before_nul-size c =
    let size = c.pieces.size in
    let own = c.pieces.own.now in
    let others = c.pieces.others.now in
    let same : take size own ≡ take size others = sym c.split_piece.ensures.piece
    ∙ alike _ _ (sym c.ne.ensures ∙ c.if-ne.false) ∙ c.split_piece-in-pieces.ensures.piece in
    let front = c.before_nul-in-pieces.ensures ∙ ap (before_first (λ b. b == 0)) c.split_piece.ensures.piece in
    let short : length (before_first (λ b. b == 0) (take size own)) < size = omega (arith, c.if-before_nul-size.true, ap length front) in
    sym (names_same size own others same short) ∙ c.pieces.invariant.same

pub pieces-smaller : goal.pieces-smaller
pieces-smaller c =
    let size = c.pieces.size in
    let own = c.pieces.own.now in
    let front = c.before_nul-in-pieces.ensures ∙ ap (before_first (λ b. b == 0)) c.split_piece.ensures.piece in
    omega (
      arith,
      c.if-before_nul-size.false,
      c.pieces.invariant.some,
      ap length front,
      ap length c.split_piece.ensures.rest,
      length-take (position_or_len (λ b. b == 0) (take size own)) (take size own),
      length-take size own,
      length-drop size own,
    )

pub pieces-preserved : goal.pieces-preserved
pieces-preserved c =
    let size = c.pieces.size in
    let own = c.pieces.own.now in
    let others = c.pieces.others.now in
    let same : take size own ≡ take size others = sym c.split_piece.ensures.piece
    ∙ alike _ _ (sym c.ne.ensures ∙ c.if-ne.false) ∙ c.split_piece-in-pieces.ensures.piece in
    let front = c.before_nul-in-pieces.ensures ∙ ap (before_first (λ b. b == 0)) c.split_piece.ensures.piece in
    let long : size ≤ length (before_first (λ b. b == 0) (take size own)) = omega (arith, c.if-before_nul-size.false, ap length front) in
    record {
      same = cc (pieces_same size own others same long, c.split_piece.ensures.rest, c.split_piece-in-pieces.ensures.rest, c.pieces.invariant.same);
      some = omega (arith, c.min-size.ensures, c.pieces.invariant.some);
      most = omega (arith, c.min-size.ensures);
    }
