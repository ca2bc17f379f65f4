use Rattle.std.proofs.Common.{ap, subst, sym, ◌∙◌}
use Rattle.std.proofs.lemmas.Result.{on_ok_weaker}
use Rattle.archive_core.specs.Content.{with_record}
use Rattle.archive_core.specs.Record.{IsRecord}
use Rattle.archive_from_records.proofs.keeping.Kept.keep_last.Goals as goal

pub record-requires : goal.record-requires
record-requires g c = subst IsRecord (ap (λ p. p.last) (sym c.in-None.ensures)) c.requires.record

pub returns-in-Some-clause-kept : goal.returns-in-Some-clause-kept
returns-in-Some-clause-kept g c = ap (λ p. with_record (g.A.Join.content c.args.self.now.archive) p.last) c.in-Some.ensures

pub returns-in-None : goal.returns-in-None
returns-in-None g c = record {
  kept = on_ok_weaker c.take_record.result (λ more. rw c.requires.none (more
      ∙ ap (with_record (g.A.Join.content c.args.self.now.archive)) (c.record.ensures.bytes ∙ ap (λ p. p.last) c.in-None.ensures)))
      c.take_record.ensures;
  taken = on_ok_weaker c.take_record.result (λ more. rw c.requires.none c.in-None.ensures) c.take_record.ensures;
}
