use Rattle.std.proofs.Common.{refl}
use Rattle.std.proofs.lemmas.Result.{on_ok_weaker}
use Rattle.byte_device.proofs.Known.{Appends-none}
use Rattle.command_common.specs.Inputs.{reader}
use Rattle.command_common.specs.Outputs.{out_of, outs, writer}
use Rattle.command_archives.specs.InnerArriving.{records_of}
use Rattle.command_archives.proofs.Files.{retired_passing}
use Rattle.command_archives.proofs.Passing.{passing, noted_with_status, wanting}
use Rattle.command_archives.proofs.admit.admit_passing.Goals as goal

pub write_admitted-ended-requires : goal.write_admitted-ended-requires
write_admitted-ended-requires g c = let h = c.in-Ok.ensures in (records_of h.0, h.1.are_first)

pub returns-in-Ok-clause-ends : goal.returns-in-Ok-clause-ends
returns-in-Ok-clause-ends g c =
    let h = c.in-Ok.ensures in
    rw c.with_status.ensures (passing g.S.Opens.opening_of (reader g.R.Source.left g.R.Source.failures c.args.input.now c.write_admitted-ended.new.input) _
    (out_of (outs g.T.Draft.Sink.held g.T.Draft.Sink.failures g.T.Target.published g.T.Target.failures c.args.out.now c.write_admitted-ended.new.out))
    (writer g.P.Sink.held g.P.Sink.failures c.args.report.now c.write_admitted-ended.new.report)
    c.one_take_fault.ensures.none h.0 _ _ _ h.1 _ h.2 c.write_admitted-ended.result
    (c.write_admitted-ended.ensures.ends (records_of h.0) h.1.are_first))

pub returns-in-Ok-clause-noted : goal.returns-in-Ok-clause-noted
returns-in-Ok-clause-noted g c =
    let h = c.in-Ok.ensures in
    rw c.with_status.ensures (noted_with_status _ _ c.write_admitted-ended.result
    (on_ok_weaker c.write_admitted-ended.result (retired_passing g.S.Opens.opening_of _ _ h.0 _ _ _ h.1 _ _)
    c.write_admitted-ended.ensures.noted))

pub returns-in-Err-clause-ends : goal.returns-in-Err-clause-ends
returns-in-Err-clause-ends g c = wanting g.S.Opens.opening_of _ _ _ _ refl ((Appends-none _, refl), (refl, refl)) (Appends-none _, refl)
