use Rattle.std.proofs.Common.{arith, sym}
use Rattle.dwarf_entries.specs.AttributeViews.{attributes_view}
use Rattle.dwarf_entries.proofs.EntryLemmas.{attributes_step, attributes_fails, attributes_done}
use Rattle.dwarf_entries.proofs.entry.read_attributes.Goals as goal

pub returns-in_default : goal.returns-in_default
returns-in_default c =
    attributes_fails c.args.version (attributes_view c.loop-pair.attributes) c.args.pairs.now c.loop-pair.pair-index
    c.loop-pair.rest.now _ (omega arith) (sym c.in_default.ensures) c.loop-pair.invariant

pub loop-pair-preserved : goal.loop-pair-preserved
loop-pair-preserved c =
    attributes_step c.args.version (attributes_view c.loop-pair.attributes) (attributes_view c.put.new.self)
    c.args.pairs.now c.loop-pair.pair-index c.loop-pair.rest.now c.in-Some.after.now _ _ (omega arith)
    c.in-Some.ensures c.put.ensures c.loop-pair.invariant

pub returns : goal.returns
returns c = attributes_done c.args.version (attributes_view c.loop-pair.attributes) c.args.pairs.now
    c.loop-pair.pair-index c.loop-pair.rest.now _ (omega arith) c.loop-pair.invariant
