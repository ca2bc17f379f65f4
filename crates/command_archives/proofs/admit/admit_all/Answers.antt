use Rattle.std.proofs.Common.{refl, map, Ok}
use Rattle.std.proofs.lemmas.Result.{on_ok_weaker}
use Rattle.byte_device.proofs.Known.{Appends-none}
use Rattle.byte_lazy_inputs.specs.declared.openings.Opening.TheVariants.{Fine}
use Rattle.command_common.specs.Inputs.{reader, readers}
use Rattle.command_common.specs.Outputs.{out_of, outs, writer}
use Rattle.command_archives.specs.Admit.{MakesAdmitted}
use Rattle.command_archives.specs.InnerArriving.{records_of}
use Rattle.command_archives.proofs.Begun.{told_behind}
use Rattle.command_archives.proofs.Files.{admitted_in_turn, retired_noted}
use Rattle.command_archives.proofs.admit.admit_all.Goals as goal

pub write_admitted-requires : goal.write_admitted-requires
write_admitted-requires g c = let h = c.in-Ok.ensures.is in (records_of (map Ok h.0), h.1.are_first)

pub returns-in-Ok-clause-ends : goal.returns-in-Ok-clause-ends
returns-in-Ok-clause-ends g c =
    let h = c.in-Ok.ensures.is in
    admitted_in_turn (reader g.R.Source.left g.R.Source.failures c.args.input.now c.write_admitted.new.input) _
    (out_of (outs g.T.Draft.Sink.held g.T.Draft.Sink.failures g.T.Target.published g.T.Target.failures c.args.out.now c.write_admitted.new.out))
    (writer g.P.Sink.held g.P.Sink.failures c.args.report.now c.write_admitted.new.report) (λ _. Fine) h.0 _ _ _ h.1
    c.in-Ok.ensures.unfailed c.write_admitted.result
    (c.write_admitted.ensures.ends (records_of (map Ok h.0)) h.1.are_first)

pub returns-in-Err-clause-ends : goal.returns-in-Err-clause-ends
returns-in-Err-clause-ends g c =
    let files = readers g.S.Source.left g.S.Source.failures c.args.files.now c.admit_files.new.files in
    told_behind (λ given. MakesAdmitted given files) (reader g.R.Source.left g.R.Source.failures c.args.input.now c.first_refusal.new.input)
    _ _ _ _ _ _ c.in-Err.fault c.first_refusal.result c.in-Err.ensures c.first_refusal.ensures
    ((Appends-none _, refl), (refl, refl)) (Appends-none _, refl)

pub returns-in-Ok-clause-noted : goal.returns-in-Ok-clause-noted
returns-in-Ok-clause-noted g c = let h = c.in-Ok.ensures.is
    in on_ok_weaker c.write_admitted.result (retired_noted (λ _. Fine) _ _ h.0 _ _ _ h.1 _ _)
    c.write_admitted.ensures.noted
