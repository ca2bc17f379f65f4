use Rattle.std.proofs.Common.{◌∙◌, Ok, ap, List, ℕ, Option, subst}
use Rattle.byte_device.specs.Devices.{stream}
use Rattle.command_extract.specs.Sending.{HaveOther}
use Rattle.command_extract.proofs.Passes.{nothing_hashed}
use Rattle.command_extract.proofs.tested_copy.has_digest.Goals as goal

pub returns-in-None-clause-tests : goal.returns-in-None-clause-tests
returns-in-None-clause-tests g c =
    let whole = g.P.Placed.whole in
    let failures = g.P.Placed.failures in
    let kept = c.in_ok-reaches.ensures.keeps in
    let told = nothing_hashed (stream whole failures c.reaches.new.device c.hash_at.new.device) c.args.at c.args.size
    c.hash_at.result c.args.digest.now c.hash_at.ensures (c.in_ok-found.was ∙ ap Ok c.in-None.is) in
    record {
      keeps = c.hash_at.ensures.keeps ∙ kept;
      tests = (
        told.0 ∙ c.in_ok-reaches.ensures.count.1,
        subst (λ (w : Option (List ℕ)). HaveOther w c.args.at c.args.size c.args.digest.now) kept told.1,
      );
    }
