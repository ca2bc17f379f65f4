use Rattle.std.proofs.Common.{◌<◌, length, arith, map, ap, ◌∙◌}
use Rattle.std.proofs.lemmas.List.{take_all}
use Rattle.join_core.specs.Listing.{listing}
use Rattle.archive_core.specs.Summary.{entry}
use Rattle.archive_records.proofs.Puts.{length_written}
use Rattle.archive_records.proofs.Summarised.{one_more}
use Rattle.archive_records.proofs.summary.entries_of.Goals as goal

pub entries-preserved : goal.entries-preserved
entries-preserved g c =
    let o = g.A.Join.content c.args.archive.now in
    let lt : c.entries.i < length (listing o) = omega (arith, length_written o, c.len-i-end.ensures.len, c.entries-test.true) in
    record {
      are = one_more (listing o) c.entries.i _ lt c.record_at.ensures c.entries.entries.items _ _
          c.in_ok-push.ensures.items c.of.ensures c.entries.invariant.are;
    }

pub returns-clause-entries : goal.returns-clause-entries
returns-clause-entries g c =
    let o = g.A.Join.content c.args.archive.now in
    c.entries.invariant.are ∙ ap (map entry) (take_all c.entries.i (listing o) (omega (arith, length_written o, c.len-i-end.ensures.len, c.entries-test.false)))
