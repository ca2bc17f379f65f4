use Rattle.std.proofs.Common.{◌≡◌, ◌∙◌, true, arith, length, refl}
use Rattle.std.proofs.lemmas.Grind.{common_steps}
use Rattle.cli_files.proofs.Same.{at_paths, gave_more, gave_refused, on_err}
use Rattle.cli_files.proofs.sameness.have_same.Goals as goal

pub returns-in_err-has_same_piece-clause-refused : goal.returns-in_err-has_same_piece-clause-refused
returns-in_err-has_same_piece-clause-refused g c = on_err c.from_residual.result
    (gave_refused c.args.first.now.path.now c.args.second.now.path.now c.args.count c.pieces.left
    c.args.calls.now.entries c.pieces.calls.entries c.has_same_piece.new.calls.entries c.pieces.invariant.2
    c.in_err-has_same_piece.ensures.refused)

pub pieces-preserved : goal.pieces-preserved
pieces-preserved g c =
    let same = c.in_ok-has_same_piece.ensures.same c.if-not-branch.false in
    let long = same.1 in (
      c.has_same_piece.ensures.paths.0 ∙ c.pieces.invariant.0,
      c.has_same_piece.ensures.paths.1 ∙ c.pieces.invariant.1,
      gave_more c.args.first.now.path.now c.args.second.now.path.now same.0 c.args.count c.pieces.left c.min-size.result
          c.args.calls.now.entries c.pieces.calls.entries c.has_same_piece.new.calls.entries c.pieces.invariant.2
          (grind (arith, common_steps, long, c.min-size.ensures)) (grind (arith, c.min-size.ensures))
          (at_paths c.pieces.first.path.now c.pieces.second.path.now c.args.first.now.path.now
          c.args.second.now.path.now same.0 same.0 c.pieces.calls.entries c.has_same_piece.new.calls.entries same.2
          c.pieces.invariant.0 c.pieces.invariant.1),
    )
