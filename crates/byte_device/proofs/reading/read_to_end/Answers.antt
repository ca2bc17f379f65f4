use Rattle.std.proofs.Common.{◌∙◌, ◌+◌, ◌-◌, ◌≤◌, ap, take, drop, length, arith, length-drop, length-take}
use Rattle.byte_device.proofs.Taken.{length-behind, Consumes-behind}
use Rattle.byte_device.proofs.reading.read_to_end.Goals as goal

pub filling-preserved : goal.filling-preserved
filling-preserved g c =
    let at = c.filling.filled in
    let xs = c.deref_mut.result.now in
    let len = c.lengthen.new.bytes.len in
    let value = ap length c.deref_mut.ensures.value in
    let room = c.in_default.ensures.room in
    let in_front : at ≤ length xs = omega arith in
    let in_len : at + c.in-Ok.n ≤ len = omega (arith, c.pull.auto.buf, c.in-Ok.ensures.bound, length-take (length xs - at) (drop at xs), length-drop at xs) in
    record {
      within = length-behind xs c.pull.new.buf _ _ at len c.in-Ok.n in_front in_len c.in-Ok.ensures.bound;
      taken = Consumes-behind _ _ _ c.filling.bytes.items xs c.pull.new.buf _ _ at len c.in-Ok.n in_front in_len
          c.in-Ok.ensures.bound (ap (take at) c.deref_mut.ensures.value ∙ c.in_default.ensures.kept)
          c.filling.invariant.taken c.in-Ok.ensures.bytes.0;
      unfailed = c.in-Ok.ensures.count.1 ∙ c.filling.invariant.unfailed;
    }
