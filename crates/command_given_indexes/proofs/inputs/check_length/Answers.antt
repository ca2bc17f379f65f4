use Rattle.std.proofs.Common.{◌≢◌, ℕ, List, Option, refl, inr, length, subst}
use Rattle.std.specs.Prelude.{None, Some}
use Rattle.std.proofs.lemmas.Option.{IfSome_then}
use Rattle.byte_device.specs.Places.{HasSize}
use Rattle.index_format.specs.Gathering.{IsSizeFault}
use Rattle.index_format.specs.declared.fault.PlaceFault.TheVariants.{Stale}
use Rattle.command_given_indexes.proofs.inputs.check_length.Goals as goal

pub returns-in-Ok-clause-tests : goal.returns-in-Ok-clause-tests
returns-in-Ok-clause-tests g c =
    let h = c.in-Ok.ensures in
    record { is = subst (λ (n : ℕ). HasSize (g.P.Placed.whole c.args.archive.now) n) h.0.0 h.0.1; unfailed = h.2 }

pub returns-in-Ok-clause-kept : goal.returns-in-Ok-clause-kept
returns-in-Ok-clause-kept g c =
    (c.in-Ok.ensures.1, c.in-Ok.ensures.2)

other_length : (size : ℕ) (text : List ℕ) (entry : Option ℕ) → IsSizeFault size text (Stale entry) → length text ≢ size
other_length size text None h = h
other_length size text (Some k) h = absurd h

pub returns-in-Err-Stale-clause-tests : goal.returns-in-Err-Stale-clause-tests
returns-in-Err-Stale-clause-tests g c =
    let h = rw c.in-Err-Stale.field-0-is at c.in-Err-Stale.ensures in
    inr (refl, h.2, refl, IfSome_then (g.P.Placed.whole c.args.archive.now) h.0 (λ text fault. other_length c.args.size text _ fault))
