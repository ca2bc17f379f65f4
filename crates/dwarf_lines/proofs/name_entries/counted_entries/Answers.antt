use Rattle.std.proofs.Common.{arith, ap, sym, ◌∙◌, map, ◌-◌, ◌+◌}
use Rattle.std.proofs.lemmas.List.{map-append}
use Rattle.dwarf_encoding.proofs.SequenceLemmas.{counted_step, counted_fails, counted_done}
use Rattle.dwarf_lines.specs.Names.{entry_at}
use Rattle.dwarf_lines.specs.NameViews.{name_view}
use Rattle.dwarf_lines.proofs.name_entries.counted_entries.Goals as goal

pub returns-in_default : goal.returns-in_default
returns-in_default c =
    counted_fails (entry_at c.args.format.now) (c.args.count - c.loop-index.index) c.loop-index.rest.now
    (map (λ n. name_view n) c.loop-index.found.items) _ (omega arith) (sym c.in_default.ensures)
    c.loop-index.invariant

pub loop-index-preserved : goal.loop-index-preserved
loop-index-preserved c =
    counted_step (entry_at c.args.format.now) (c.args.count - c.loop-index.index)
    (c.args.count - (c.loop-index.index + 1)) c.loop-index.rest.now c.in-Some.after.now
    (map (λ n. name_view n) c.loop-index.found.items) (map (λ n. name_view n) c.push.new.self.items)
    (name_view c.in-Some.name) _ (omega arith) c.in-Some.ensures
    (ap (map (λ n. name_view n)) c.in_ok-push.ensures.items ∙ map-append (λ n. name_view n) c.loop-index.found.items _) c.loop-index.invariant

pub returns : goal.returns
returns c =
    counted_done (entry_at c.args.format.now) (c.args.count - c.loop-index.index) c.loop-index.rest.now
    (map (λ n. name_view n) c.loop-index.found.items) _ (omega arith) c.loop-index.invariant
