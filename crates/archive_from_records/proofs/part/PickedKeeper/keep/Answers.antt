use Rattle.std.proofs.Common.{Bool, ℕ, List, sym, ap, ◌∙◌}
use Rattle.std.proofs.lemmas.Result.{on_ok_weaker}
use Rattle.archive_from_records.proofs.Kept.{picked_more, unpicked_more}
use Rattle.archive_from_records.proofs.part.PickedKeeper.keep.Goals as goal

pub returns-then-not-picks-clause-kept : goal.returns-then-not-picks-clause-kept
returns-then-not-picks-clause-kept g c = λ start records apart is.
    let last = c.args.reader.now.last in
    let fails = ap (λ (f : List ℕ → Bool). f last) (sym is.0) ∙ sym (rw c.last.ensures at c.picks.ensures) ∙ c.if-not-picks.true in
    rw c.requires.none (is.0, unpicked_more (g.S.Selects.picked start.0.now) records last (g.A.Join.content c.args.kept.now.archive) is.1 fails)

pub returns-clause-kept : goal.returns-clause-kept
returns-clause-kept g c = on_ok_weaker c.keep_last.result (λ more start records apart is.
    let last = c.args.reader.now.last in
    let passes = ap (λ (f : List ℕ → Bool). f last) (sym is.0) ∙ sym (rw c.last.ensures at c.picks.ensures) ∙ c.if-not-picks.false in
    (is.0, picked_more (g.S.Selects.picked start.0.now) records last (g.A.Join.content c.args.kept.now.archive) is.1 passes apart _ more))
    c.keep_last.ensures.kept
