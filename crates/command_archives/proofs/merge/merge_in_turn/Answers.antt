use Rattle.std.proofs.Common.{◌∙◌, refl, sym}
use Rattle.std.proofs.lemmas.Option.{same_Some}
use Rattle.byte_device.proofs.Known.{Appends-none}
use Rattle.command_common.specs.Inputs.{reader, readers}
use Rattle.command_common.specs.Outputs.{out_of, outs, writer}
use Rattle.command_archives.specs.Merge.{MakesMerged}
use Rattle.command_archives.proofs.Begun.{told_behind}
use Rattle.command_archives.proofs.Joined.{merged_in_turn}
use Rattle.command_archives.proofs.merge.merge_in_turn.Goals as goal

pub returns-in-Ok : goal.returns-in-Ok
returns-in-Ok g c =
    let j = c.in-Ok.ensures.is in
    merged_in_turn (reader g.R.Source.left g.R.Source.failures c.args.input.now c.merge_text.new.input) _
    (out_of (outs g.T.Draft.Sink.held g.T.Draft.Sink.failures g.T.Target.published g.T.Target.failures c.args.out.now c.merge_text.new.out))
    (writer g.P.Sink.held g.P.Sink.failures c.args.report.now c.merge_text.new.report) j.0 j.3 c.in-Ok.ensures.unfailed
    c.merge_text.result (c.merge_text.ensures j.0 j.1 (same_Some _ _ (sym c.as_slice.ensures ∙ j.2)))

pub returns-in-Err : goal.returns-in-Err
returns-in-Err g c =
    let files = readers g.S.Source.left g.S.Source.failures c.args.files.now c.joined_text.new.files in
    told_behind (λ given. MakesMerged given files) (reader g.R.Source.left g.R.Source.failures c.args.input.now c.first_refusal.new.input)
    _ _ _ _ _ _ c.in-Err.fault c.first_refusal.result c.in-Err.ensures c.first_refusal.ensures
    ((Appends-none _, refl), (refl, refl)) (Appends-none _, refl)
