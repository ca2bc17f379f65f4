use Rattle.std.proofs.Common.{◌≡◌, [], refl}
use Rattle.std.proofs.lemmas.Result.{err_from_is_err_and}
use Rattle.std.specs.FinSet as set
use Rattle.archive_core.specs.Content.{Operations}
use Rattle.archive_records.specs.declared.kind.TextKind.TheVariants.{Archive}
use Rattle.archive_records.proofs.Inputs.{refused}
use Rattle.archive_records.proofs.Made.{finished, wanted}
use Rattle.archive_from_records.proofs.Questioned.{asked_first}
use Rattle.archive_from_records.proofs.keyed.answer_by_key.Goals as goal

pub keep_whole-requires : goal.keep_whole-requires
keep_whole-requires g c = record {
  start = asked_first (g.Q.Questions.left c.args.questions)
      (λ o. g.Q.Questions.answered c.args.questions o c.args.questions) set.empty c.requires.order c.requires.start refl;
}

pub returns-in_err-asked : goal.returns-in_err-asked
returns-in_err-asked g c =
    let p = err_from_is_err_and c.from_residual.result c.from_residual.ensures.1 in
    let read = c.in_err-asked.ensures in
    rw (p.1, p.2) (refused Archive g.R.Source.left g.R.Source.failures c.args.r.now c.keep_whole.new.r _ read.stopped read.reader)

pub returns-in-Ok : goal.returns-in-Ok
returns-in-Ok g c =
    let read = c.in_ok-asked.ensures in
    let told = c.in-Ok.told in
    finished Archive _
    (λ (_ : Unit {0}) (o : Operations). (g.Q.Questions.left told ≡ []) × g.Q.Questions.answered c.args.questions o told)
    g.R.Source.left g.R.Source.failures c.args.r.now c.keep_whole.new.r c.in_ok-asked.asked tt read.read read.at_end
    read.reader (c.in-Ok.ensures c.args.questions)

pub returns : goal.returns
returns g c =
    let read = c.in_ok-asked.ensures in
    rw c.out_of_memory.ensures (wanted Archive _ g.R.Source.left g.R.Source.failures c.args.r.now c.keep_whole.new.r
    c.in_ok-asked.asked read.read read.at_end read.reader)
