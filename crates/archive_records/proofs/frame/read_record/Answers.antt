use Rattle.std.proofs.Common.{refl}
use Rattle.archive_records.proofs.Blamed.{blamed_behind, failed, filled_first}
use Rattle.archive_records.proofs.Fills.{Fills-then}
use Rattle.archive_records.proofs.frame.read_record.Goals as goal

pub returns-in_err-head : goal.returns-in_err-head
returns-in_err-head g c =
    let fills = c.read_head.ensures.fills in
    rw (failed c.from_residual.result c.in_err-head.field-0.0 c.from_residual.ensures.1) (record {
      within = fills.within;
      taken = filled_first refl fills;
      over = fills.over _ (record { rest = λ _. refl; order = refl });
      framed = c.in_err-head.ensures.head;
      reader = c.in_err-head.ensures.reader;
    })

pub returns-clause-taken : goal.returns-clause-taken
returns-clause-taken g c = filled_first refl (Fills-then c.read_head.ensures.fills c.read_body.ensures.fills)

pub returns-clause-over : goal.returns-clause-over
returns-clause-over g c = c.read_body.ensures.fills.over _ (c.read_head.ensures.fills.over _ (record { rest = λ _. refl; order = refl }))

pub returns-clause-reader : goal.returns-clause-reader
returns-clause-reader g c = blamed_behind g.R.Source.left g.R.Source.failures c.args.r.now c.read_head.new.r
    c.read_body.new.r c.in_ok-head.ensures.reader c.read_body.result c.read_body.ensures.reader
