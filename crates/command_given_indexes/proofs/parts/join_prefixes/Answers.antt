use Rattle.std.proofs.Common.{◌≡◌, ℕ, List, Option, ap, inr, length, map, subst, ◌∙◌}
use Rattle.std.specs.Prelude.{IfSome}
use Rattle.archive_core.specs.Record.{record_bytes}
use Rattle.archive_records.proofs.Blamed.{failed}
use Rattle.byte_device.specs.Devices.{FailsWithin}
use Rattle.byte_device.specs.Places.{HasSize}
use Rattle.index_format.proofs.Gathered.{along_both, fails_behind, refused_behind}
use Rattle.command_given_indexes.specs.Prefixes.{FailsFor, FailsUnderOne, prefix_bytes}
use Rattle.command_given_indexes.specs.InnerParts.{HaveGathered, IsFaultAmong, IsFaultUnder}
use Rattle.command_given_indexes.proofs.Joined.{fails_as_one, fault_then, joined_together}
use Rattle.index_format.specs.Text.{placed_in}
use Rattle.command_given_indexes.proofs.parts.join_prefixes.Goals as goal

pub returns-in_err-gather_prefixes : goal.returns-in_err-gather_prefixes
returns-in_err-gather_prefixes g c =
    let fault = c.in_err-gather_prefixes.field-0.0 in
    let prefixes = map prefix_bytes c.args.prefixes.now in
    let entries = placed_in c.args.index.now in
    let first = c.in_ok-found.ensures in
    let new = c.gather_prefixes.new.device in
    let long = subst (λ (n : ℕ). HasSize (g.P.Placed.whole c.args.device.now) n) (first.0.0 ∙ c.from.ensures) first.0.1 in
    let Fails : g.row.P.Denot → ℕ → ℕ → Type 0 = λ old. FailsWithin g.P.Placed.whole g.P.Placed.failures g.P.Placed.unread old new in
    rw (failed c.from_residual-in_err-gather_prefixes.result fault c.from_residual-in_err-gather_prefixes.ensures.1)
    (refused_behind g.P.Placed.whole g.P.Placed.failures c.args.device.now c.indexed_size.new.archive _ first.1 first.2
    (FailsUnderOne (Fails c.indexed_size.new.archive) prefixes entries)
    (FailsFor (g.P.Placed.unmeasured c.args.device.now new) (Fails c.args.device.now) prefixes entries) fault
    (λ h. along_both (λ text. length text ≡ c.args.size) (λ text. IsFaultAmong prefixes entries text fault)
    (λ text. IsFaultUnder prefixes entries c.args.size text fault) (g.P.Placed.whole c.args.device.now)
    (λ text long among. fault_then prefixes entries c.args.size text fault long among) long
    (subst (λ (w : Option (List ℕ)). IfSome w (λ text. IsFaultAmong prefixes entries text fault)) first.1 h))
    (λ n h. inr (fails_as_one (Fails c.indexed_size.new.archive) (Fails c.args.device.now) prefixes entries n
    (fails_behind g.P.Placed.whole g.P.Placed.failures c.args.device.now c.indexed_size.new.archive new first.1 first.2
    g.P.Placed.unread) h)) c.in_err-gather_prefixes.ensures)

pub returns-in-Ok : goal.returns-in-Ok
returns-in-Ok g c =
    let first = c.in_ok-found.ensures in
    let then = c.in_ok-gather_prefixes.ensures in
    let long = subst (λ (n : ℕ). HasSize (g.P.Placed.whole c.args.device.now) n) (first.0.0 ∙ c.from.ensures) first.0.1 in
    let gathered = subst (λ (w : Option (List ℕ)). HaveGathered w (map prefix_bytes c.args.prefixes.now)
    (placed_in c.args.index.now) (map record_bytes c.new-gathered.result.items)
    (map record_bytes c.gather_prefixes.new.gathered.items)) first.1 then.0 in
    let joined = joined_together _ (map prefix_bytes c.args.prefixes.now) (placed_in c.args.index.now) _ _
    (g.A.Join.content c.args.kept.now) (g.A.Join.content c.join_gathered.new.kept) c.len-held.ensures.content.itself
    (ap (map record_bytes) c.new-gathered.ensures.items) gathered c.in-Ok.ensures in
    ((long, joined), then.1 ∙ first.1, then.2 ∙ first.2)
