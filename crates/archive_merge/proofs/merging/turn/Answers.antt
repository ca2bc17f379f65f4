use Rattle.archive_merge.proofs.merging.turn.Goals as goal

pub returns-clause-merging : goal.returns-clause-merging
returns-clause-merging g c = λ a1 a2 w0 p. c.read_on.ensures.merging _ a1 a2 w0
    (c.in_ok-take_turn.ensures.merging _ _ a1 a2 w0 (c.share_retirement.ensures.merging a1 _ a2 _ w0 _ p))
