use Rattle.std.proofs.Common.{arith, sym, ◌-◌, ◌+◌}
use Rattle.dwarf_encoding.proofs.SequenceLemmas.{counted_step, counted_fails, counted_done}
use Rattle.dwarf_lines.specs.Names.{format_pair_at}
use Rattle.dwarf_lines.proofs.name_entries.format_pairs.Goals as goal

pub returns-in_default : goal.returns-in_default
returns-in_default c =
    counted_fails format_pair_at (c.args.count - c.loop-index.index) c.loop-index.rest.now c.loop-index.found.items _
    (omega arith) (sym c.in_default.ensures) c.loop-index.invariant

pub loop-index-preserved : goal.loop-index-preserved
loop-index-preserved c =
    counted_step format_pair_at (c.args.count - c.loop-index.index) (c.args.count - (c.loop-index.index + 1)) c.loop-index.rest.now c.in-Some.after.now
    c.loop-index.found.items c.push.new.self.items c.in-Some.pair _ (omega arith) c.in-Some.ensures c.in_ok-push.ensures.items c.loop-index.invariant

pub returns : goal.returns
returns c = counted_done format_pair_at (c.args.count - c.loop-index.index) c.loop-index.rest.now
    c.loop-index.found.items _ (omega arith) c.loop-index.invariant
