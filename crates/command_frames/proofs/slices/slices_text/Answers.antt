use Rattle.std.proofs.Common.{string_bytes}
use Rattle.std.proofs.lemmas.Result.{IfOk-weaker}
use Rattle.command_frames.proofs.SliceRows.{pool_tells}
use Rattle.command_frames.proofs.slices.slices_text.Goals as goal

pub returns : goal.returns
returns c =
    let of_keys = rw (← c.deref.ensures.value) at c.in_ok-uuids.ensures.are in
    let pooled = rw (← c.deref-2.ensures.value) at c.in_ok-pool.ensures.rows in
    IfOk-weaker c.slices_lines.result _ _
    (λ text told. pool_tells c.deref.result.now c.args.keys.now c.args.read.now c.deref-2.result.now
    c.in_ok-pool.ensures.long of_keys pooled (string_bytes text) told)
    c.slices_lines.ensures
