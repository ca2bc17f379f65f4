use Rattle.std.proofs.Common.{arith, length-drop, ◌∙◌}
use Rattle.byte_device.proofs.Gains.{pushed}
use Rattle.byte_device.proofs.writing.push_all.Goals as goal

pub pushing-preserved : goal.pushing-preserved
pushing-preserved g c = record {
  within = omega (arith, length-drop c.pushing.at c.args.bytes.now, c.in-Ok.ensures.bound);
  gained = pushed _ _ _ c.args.bytes.now c.pushing.at c.in-Ok.n c.pushing.invariant.gained c.in-Ok.ensures.bytes;
  unfailed = c.in-Ok.ensures.count.1 ∙ c.pushing.invariant.unfailed;
}
