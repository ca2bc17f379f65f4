use Rattle.std.proofs.Common.{arith, sym}
use Rattle.dwarf_lines.specs.NameViews.{fields_view}
use Rattle.dwarf_lines.proofs.NameLemmas.{fields_step, fields_fails, fields_done}
use Rattle.dwarf_lines.proofs.name_entries.read_fields.Goals as goal

pub returns-in_default : goal.returns-in_default
returns-in_default c =
    fields_fails (fields_view c.loop-pair.fields) c.args.format.now c.loop-pair.pair-index c.loop-pair.rest.now _
    (omega arith) (sym c.in_default.ensures) c.loop-pair.invariant

pub loop-pair-preserved : goal.loop-pair-preserved
loop-pair-preserved c =
    fields_step (fields_view c.loop-pair.fields) (fields_view c.with_value-fields.result) c.args.format.now
    c.loop-pair.pair-index c.loop-pair.rest.now c.in-Some.after.now _ _ (omega arith) c.in-Some.ensures
    c.with_value-fields.ensures c.loop-pair.invariant

pub returns : goal.returns
returns c = fields_done (fields_view c.loop-pair.fields) c.args.format.now c.loop-pair.pair-index c.loop-pair.rest.now _ (omega arith) c.loop-pair.invariant
