use Rattle.std.proofs.Common.{ap, ◌∙◌, map, take, arith}
use Rattle.std.proofs.Math.ListN.{length-map}
use Rattle.std.proofs.lemmas.List.{take_all}
use Rattle.index_format.specs.Entry.{placed_bytes}
use Rattle.archive_records.specs.Entry.{entry_bytes}
use Rattle.command_given_indexes.proofs.Entries.{one_front}
use Rattle.command_given_indexes.proofs.summaries.entries_of.Goals as goal

pub entries-preserved : goal.entries-preserved
entries-preserved c =
    one_front c.args.entries.now c.entries.entry-index c.entry-item.result c.entries-test.true c.entry-item.is
    entry_bytes c.entries.made.items c.push.new.self.items c.entry_of.result c.in_ok-push.ensures.items
    c.entry_of.ensures c.entries.invariant

pub returns : goal.returns
returns c =
    let xs = map placed_bytes c.args.entries.now in
    c.entries.invariant ∙ ap (map (take 57)) (take_all c.entries.entry-index xs
    (omega (arith, length-map c.args.entries.now placed_bytes, c.entries-test.false)))
