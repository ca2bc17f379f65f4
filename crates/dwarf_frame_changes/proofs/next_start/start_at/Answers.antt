use Rattle.std.proofs.Common.{sym, arith}
use Rattle.std.proofs.lemmas.Option.{slice_get-get_or, slice_get_past}
use Rattle.dwarf_frame_changes.proofs.next_start.start_at.Goals as goal

pub returns-then-starts-index : goal.returns-then-starts-index
returns-then-starts-index c = sym (slice_get_past c.args.starts.now c.args.index c.if-starts-index.true)

pub returns : goal.returns
returns c = sym (slice_get-get_or c.args.starts.now c.args.index 0 (omega (arith, c.if-starts-index.false)))
