use Rattle.std.proofs.Common.{refl}
use Rattle.byte_device.proofs.Known.{Appends-none}
use Rattle.command_common.specs.Inputs.{reader}
use Rattle.command_common.specs.Outputs.{out_of, outs, writer}
use Rattle.command_archives.specs.Apply.{MakesApplied}
use Rattle.command_archives.proofs.Begun.{told_behind}
use Rattle.command_archives.proofs.Joined.{applied, few_new}
use Rattle.command_archives.proofs.apply.run_apply.Goals as goal

pub write_applied-requires-clause-ascending : goal.write_applied-requires-clause-ascending
write_applied-requires-clause-ascending g c = rw c.deref.ensures.value c.in-Ok.ensures.is.sorted_is.ascending

pub write_applied-requires-clause-are : goal.write_applied-requires-clause-are
write_applied-requires-clause-are g c = rw c.deref.ensures.value c.in-Ok.ensures.is.sorted_is.are

pub write_applied-requires-clause-few : goal.write_applied-requires-clause-few
write_applied-requires-clause-few g c =
    let has = c.in-Ok.ensures.is in
    rw c.deref.ensures.value (λ o made. rw has.number_is (few_new has.operations c.in-Ok.sorted.items has.sorted_is o made))

pub returns-in-Ok : goal.returns-in-Ok
returns-in-Ok g c =
    applied (reader g.R.Source.left g.R.Source.failures c.args.input.now c.write_applied.new.input) g.S.Source.left
    g.S.Source.failures c.args.ops.now c.read_new.new.ops
    (out_of (outs g.T.Draft.Sink.held g.T.Draft.Sink.failures g.T.Target.published g.T.Target.failures c.args.out.now c.write_applied.new.out))
    (writer g.P.Sink.held g.P.Sink.failures c.args.report.now c.write_applied.new.report) c.in-Ok.sorted.items
    c.in-Ok.number c.in-Ok.ensures.is c.in-Ok.ensures.unfailed c.write_applied.result
    (rw c.deref.ensures.value at c.write_applied.ensures)

pub returns-in-Err : goal.returns-in-Err
returns-in-Err g c =
    let ops = reader g.S.Source.left g.S.Source.failures c.args.ops.now c.read_new.new.ops in
    told_behind (λ given. MakesApplied given ops) (reader g.R.Source.left g.R.Source.failures c.args.input.now c.first_refusal.new.input)
    _ _ _ _ _ _ c.in-Err.fault c.first_refusal.result c.in-Err.ensures c.first_refusal.ensures
    ((Appends-none _, refl), (refl, refl)) (Appends-none _, refl)
