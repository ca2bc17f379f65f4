use Rattle.command_common.specs.Inputs.{readers}
use Rattle.command_common.specs.Outputs.{writer}
use Rattle.command_extract.specs.Indexed.{extract_at}
use Rattle.command_extract.proofs.ByEntry.{named_there, sent_so}
use Rattle.command_extract.proofs.Extracted.{kept_so}
use Rattle.command_extract.proofs.indexes.IndexesSliceEvidence.send.Goals as goal

pub send_from-requires : goal.send_from-requires
send_from-requires g c =
    let at = rw c.in-Named.is at c.requires.3 in
    named_there (readers g.I.Placed.whole g.I.Placed.failures c.requires.0.indexes.now c.args.self.now.indexes.now) g.P.Placed.whole
    g.P.Placed.failures c.requires.0.archives.now c.args.self.now.archives.now c.requires.1 c.requires.2 c.in-Named.named at.0

pub send_kept-requires : goal.send_kept-requires
send_kept-requires g c = let at = rw c.in-Kept.is at c.requires.3 in (at.slice, at.chosen.admitted)

pub returns-in-Named-clause-sends : goal.returns-in-Named-clause-sends
returns-in-Named-clause-sends g c = λ first key digest placed.
    let at = rw c.in-Named.is at placed in
    rw (at.1, at.2) (sent_so (readers g.I.Placed.whole g.I.Placed.failures first.indexes.now c.args.self.now.indexes.now) g.P.Placed.whole
    g.P.Placed.failures first.archives.now c.args.self.now.archives.now c.send_from.new.archives c.send_from.auto.archives key digest
    c.in-Named.named at.0 (writer g.W.Sink.held g.W.Sink.failures c.args.draft.now c.send_from.new.draft) c.send_from.result
    (c.send_from.ensures at.0.x at.0.names))

pub returns-in-Kept-clause-sends : goal.returns-in-Kept-clause-sends
returns-in-Kept-clause-sends g c = λ first key digest placed.
    let at = rw c.in-Kept.is at placed in
    kept_so (extract_at (readers g.I.Placed.whole g.I.Placed.failures first.indexes.now c.args.self.now.indexes.now)
    (readers g.P.Placed.whole g.P.Placed.failures first.archives.now c.args.self.now.archives.now) key digest) key
    (g.A.Join.content c.in-Kept.kept.archive) c.in-Kept.kept.number c.args.chosen.now.digest c.args.chosen.now.size
    (writer g.W.Sink.held g.W.Sink.failures c.args.draft.now c.send_kept.new.draft) c.send_kept.result at
    (c.send_kept.ensures at.slice at.chosen.admitted)
