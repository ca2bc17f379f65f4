use Rattle.std.proofs.Common.{ℕ, ◌∙◌, ◌+◌, ◌-◌, ◌≤◌, ap, take, drop, length, arith, length-drop, length-take}
use Rattle.byte_device.proofs.Taken.{length-behind}
use Rattle.byte_device.proofs.PlacedReading.{stands_past}
use Rattle.byte_device.proofs.placed_reading.read_at.Goals as goal

pub filling-preserved : goal.filling-preserved
filling-preserved g c =
    let at = c.filling.filled in
    let xs = c.deref_mut.result.now in
    let len = c.lengthen.new.bytes.len in
    let value = ap length c.deref_mut.ensures.value in
    let room = c.in_default.ensures.room in
    let in_front : at ≤ length xs = omega arith in
    let in_len : at + c.in-Ok.n ≤ len = omega (
      arith,
      c.take_at.auto.buf,
      c.in-Ok.ensures.bound,
      length-take (length xs - at) (drop at xs),
      length-drop at xs,
    ) in
    record {
      within = length-behind xs c.take_at.new.buf _ _ at len c.in-Ok.n in_front in_len c.in-Ok.ensures.bound;
      most = omega (arith, c.in_default.ensures.most, c.lengthen.new.bytes.ok.0, length-take {A = ℕ});
      stands = stands_past (g.P.Placed.whole c.args.device.now) (g.P.Placed.whole c.filling.device) c.args.at
          c.filling.bytes.items xs c.take_at.new.buf _ _ at len c.in-Ok.n in_front in_len c.in-Ok.ensures.bound
          (ap (take at) c.deref_mut.ensures.value ∙ c.in_default.ensures.kept) c.filling.invariant.stands
          c.filling.invariant.keeps c.in-Ok.ensures.bytes;
      keeps = c.in-Ok.ensures.keeps ∙ c.filling.invariant.keeps;
      unfailed = c.in-Ok.ensures.count.1 ∙ c.filling.invariant.unfailed;
    }
