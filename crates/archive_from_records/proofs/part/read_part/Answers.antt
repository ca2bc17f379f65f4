use Rattle.std.proofs.Common.{◌≡◌, ap, refl, sym, ◌∙◌}
use Rattle.std.specs.FinSet as set
use Rattle.std.proofs.lemmas.Result.{err_from_is_err_and}
use Rattle.archive_core.specs.Content.{Operations}
use Rattle.archive_core.specs.Part.{part}
use Rattle.archive_records.specs.declared.kind.TextKind.TheVariants.{Archive}
use Rattle.archive_records.proofs.Contents.{content_is}
use Rattle.archive_records.proofs.Inputs.{refused}
use Rattle.archive_records.proofs.Made.{finished, wanted}
use Rattle.archive_from_records.proofs.Kept.{part_start}
use Rattle.archive_from_records.proofs.part.read_part.Goals as goal

pub returns-in_err-picked : goal.returns-in_err-picked
returns-in_err-picked g c =
    let p = err_from_is_err_and c.from_residual.result c.from_residual.ensures.1 in
    let read = c.in_err-picked.ensures in
    rw (p.1, p.2) (refused Archive g.R.Source.left g.R.Source.failures c.args.r.now c.keep_whole.new.r _ read.stopped read.reader)

pub returns-in-Ok : goal.returns-in-Ok
returns-in-Ok g c =
    let read = c.in_ok-picked.ensures in
    let picks = g.S.Selects.picked c.args.select.now in
    finished Archive _ (λ (_ : Unit {0}) (o : Operations). g.A.Join.content c.add_last_slice.new.self.archive ≡ part o picks)
    g.R.Source.left g.R.Source.failures c.args.r.now c.keep_whole.new.r c.in_ok-picked.picked tt read.read read.at_end
    read.reader
    (λ o is kept. c.in-Ok.ensures.kept ∙ kept.1 ∙ ap (λ (p : Operations). part p picks) (sym (content_is o)))

pub returns : goal.returns
returns g c =
    let read = c.in_ok-picked.ensures in
    rw c.out_of_memory.ensures (wanted Archive _ g.R.Source.left g.R.Source.failures c.args.r.now c.keep_whole.new.r
    c.in_ok-picked.picked read.read read.at_end read.reader)

pub keep_whole-requires : goal.keep_whole-requires
keep_whole-requires g c = record { start = (refl, part_start (g.S.Selects.picked c.args.select.now) set.empty refl) }
