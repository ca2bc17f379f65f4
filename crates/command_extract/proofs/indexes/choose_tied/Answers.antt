use Rattle.std.proofs.Common.{refl}
use Rattle.std.proofs.lemmas.Result.{err_from_is_err_and}
use Rattle.command_extract.proofs.indexes.choose_tied.Goals as goal

pub returns-in_err-kept : goal.returns-in_err-kept
returns-in_err-kept g c =
    let p = err_from_is_err_and c.from_residual.result c.from_residual.ensures.1 in
    rw (p.1, p.2) c.in_err-kept.ensures.read

pub returns-in_err-chosen : goal.returns-in_err-chosen
returns-in_err-chosen g c =
    let p = err_from_is_err_and c.from_residual-in_err-chosen.result c.from_residual-in_err-chosen.ensures.1 in
    rw (p.1, p.2) c.in_ok-kept.ensures.read.unfailed

pub returns-in-One : goal.returns-in-One
returns-in-One g c =
    let choice = rw c.in-One.is at c.in_ok-chosen.ensures in
    record {
      is = (g.A.Join.content c.in_ok-kept.kept, c.in_ok-kept.ensures.read.is, (refl, choice));
      unfailed = c.in_ok-kept.ensures.read.unfailed;
    }

pub returns-in-Undecided : goal.returns-in-Undecided
returns-in-Undecided g c =
    let choice = rw c.in-Undecided.is at c.in_ok-chosen.ensures in
    record {
      is = (g.A.Join.content c.in_ok-kept.kept, c.in_ok-kept.ensures.read.is, choice);
      unfailed = c.in_ok-kept.ensures.read.unfailed;
    }
