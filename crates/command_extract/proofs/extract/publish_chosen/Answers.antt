use Rattle.std.proofs.Common.{◌∙◌, inr, refl, sym}
use Rattle.std.proofs.lemmas.Result.{err_from_is_err_and}
use Rattle.byte_device.proofs.Known.{Appends-none}
use Rattle.command_common.specs.Outputs.{IsPublished, out_of, outs, writer}
use Rattle.command_common.specs.declared.faults.CommandFault.TheVariants.{OutOfMemory}
use Rattle.command_extract.specs.Wanted.{line_of}
use Rattle.command_extract.proofs.Extracted.{published_so, refused_so, unsent_so}
use Rattle.command_extract.proofs.Sent.{told_so}
use Rattle.command_extract.proofs.extract.publish_chosen.Goals as goal

pub returns-in_err-text-clause-ends : goal.returns-in_err-text-clause-ends
returns-in_err-text-clause-ends g c =
    let p = err_from_is_err_and c.from_residual.result c.from_residual.ensures.1 in
    rw (p.1, p.2) (λ first digest found stops. refused_so (g.E.SliceEvidence.extraction first c.args.evidence.now c.args.key.now digest)
    _ _ OutOfMemory stops refl (Appends-none _, refl))

pub returns-in_err-send-clause-ends : goal.returns-in_err-send-clause-ends
returns-in_err-send-clause-ends g c =
    let p = err_from_is_err_and c.from_residual-in_err-send.result c.from_residual-in_err-send.ensures.1 in
    let out = outs g.T.Draft.Sink.held g.T.Draft.Sink.failures g.T.Target.published g.T.Target.failures c.args.out.now
    (record { draft = c.send.new.draft; target = c.args.out.now.target }) in
    let report = writer g.P.Sink.held g.P.Sink.failures c.args.report.now c.args.report.now in
    rw (p.1, p.2) (λ first digest found stops. unsent_so (g.E.SliceEvidence.extraction first c.send.new.self c.args.key.now digest)
    out report (line_of c.args.key.now c.args.chosen.now.digest c.args.chosen.now.size) c.args.chosen.now.size c.in_err-send.field-0.0
    (c.in_err-send.ensures.sends first c.args.key.now digest found) (refl, refl) (Appends-none _, refl))

pub returns-in_err-publish_output-clause-ends : goal.returns-in_err-publish_output-clause-ends
returns-in_err-publish_output-clause-ends g c =
    let put = c.in_err-publish_output.ensures in
    let out = outs g.T.Draft.Sink.held g.T.Draft.Sink.failures g.T.Target.published g.T.Target.failures c.args.out.now c.publish_output.new.out in
    let p = err_from_is_err_and c.from_residual-in_err-publish_output.result c.from_residual-in_err-publish_output.ensures.1 in
    rw (p.1, p.2) (λ first digest found stops.
    let sent = c.in_ok-send.ensures.sends first c.args.key.now digest found in
    let draft = (out_of out).draft in
    published_so (g.E.SliceEvidence.extraction first c.send.new.self c.args.key.now digest draft) out _ _ sent.slice
    (line_of c.args.key.now c.args.chosen.now.digest c.args.chosen.now.size) (sent.unfailed draft) (sent.makes draft)
    (rw put.failed.0 (
      inr (sym sent.long, record { took = (rw put.held sent.took.0, put.draft ∙ sent.took.1); kept = put.kept; failed = put.failed.1 }),
      (Appends-none _, refl),
    )))

pub returns-clause-ends : goal.returns-clause-ends
returns-clause-ends g c = λ first digest found stops.
    let put = c.in_ok-publish_output.ensures in
    let out = outs g.T.Draft.Sink.held g.T.Draft.Sink.failures g.T.Target.published g.T.Target.failures c.args.out.now c.publish_output.new.out in
    let report = writer g.P.Sink.held g.P.Sink.failures c.args.report.now c.write_report.new.report in
    let sent = c.in_ok-send.ensures.sends first c.args.key.now digest found in
    let draft = (out_of out).draft in
    let told = line_of c.args.key.now c.args.chosen.now.digest c.args.chosen.now.size in
    let line = c.deref.ensures ∙ c.in_ok-text.ensures in
    let placed : IsPublished (out_of out) sent.slice = record {
      published = rw put.published sent.took.0;
      emptied = put.emptied;
      draft_unfailed = put.draft ∙ sent.took.1;
      unfailed = put.unfailed;
    } in
    published_so (g.E.SliceEvidence.extraction first c.send.new.self c.args.key.now digest draft) out report c.write_report.result
    sent.slice told (sent.unfailed draft) (sent.makes draft)
    (told_so (out_of out) report sent.slice told c.write_report.result placed (rw line at c.write_report.ensures))
