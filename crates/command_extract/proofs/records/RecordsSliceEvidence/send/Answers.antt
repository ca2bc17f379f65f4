use Rattle.command_common.specs.Inputs.{readers}
use Rattle.command_common.specs.Outputs.{writer}
use Rattle.command_extract.specs.Extract.{extract_first}
use Rattle.command_extract.proofs.Extracted.{kept_so}
use Rattle.command_extract.proofs.records.RecordsSliceEvidence.send.Goals as goal

pub send_kept-requires : goal.send_kept-requires
send_kept-requires g c = (c.requires.3.slice, c.requires.3.chosen.admitted)

pub returns-clause-sends : goal.returns-clause-sends
returns-clause-sends g c = λ first key digest placed.
    let kept = c.args.chosen.now.place in
    kept_so (extract_first (readers g.S.Source.left g.S.Source.failures first.archives.now c.args.self.now.archives.now) key digest) key
    (g.A.Join.content kept.archive) kept.number c.args.chosen.now.digest c.args.chosen.now.size
    (writer g.W.Sink.held g.W.Sink.failures c.args.draft.now c.send_kept.new.draft) c.send_kept.result placed
    (c.send_kept.ensures placed.slice placed.chosen.admitted)
