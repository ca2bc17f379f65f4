use Rattle.std.proofs.Common.{◌∙◌, Err, ap, inl, inr}
use Rattle.std.proofs.lemmas.Result.{err_from_is_err_and}
use Rattle.index_format.specs.Fault.{FailsAtEnd, FailsInBeginning}
use Rattle.index_format.specs.InnerReading.{FailsInEnds}
use Rattle.index_format.proofs.ReadLemmas.{after_ok, flat, passed_on, read_as, refused_as}
use Rattle.index_format.proofs.ends.read_ends.Goals as goal

pub returns-in_err-size-clause-read : goal.returns-in_err-size-clause-read
returns-in_err-size-clause-read g c =
    let p = err_from_is_err_and c.from_residual.result c.from_residual.ensures.1 in
    passed_on c.in_err-size.was (p.1 ∙ ap Err p.2)
    (λ text known refused. refused_as FailsInBeginning FailsInEnds text _ (λ fault. inl fault) refused)
    c.read_beginning.ensures.read

pub returns-clause-read : goal.returns-clause-read
returns-clause-read g c =
    let beginning = c.in_ok-size.ensures.read in
    read_as
    (λ text known ends are. are (beginning.says text known))
    (λ text known f refused. refused_as FailsAtEnd FailsInEnds text f (λ fault. inr fault)
    (flat FailsAtEnd text f refused (λ under. under (beginning.says text known))))
    (after_ok beginning.keeps beginning.counts c.read_end.ensures.read)
