use Rattle.std.proofs.Common.{◌∙◌, ℕ, map, refl, arith}
use Rattle.std.proofs.Math.ListN.{length-map}
use Rattle.std.proofs.lemmas.List.{take_all}
use Rattle.archive_core.specs.Record.{record_bytes}
use Rattle.archive_records.proofs.Blamed.{failed}
use Rattle.byte_device.specs.Devices.{FailsWithin}
use Rattle.index_format.proofs.Gathered.{fails_behind, refused_behind}
use Rattle.index_format.specs.Places.{FailsUnder}
use Rattle.command_given_indexes.specs.Prefixes.{FailsUnderOne, prefix_bytes}
use Rattle.command_given_indexes.proofs.Joined.{fails_at_prefix, fault_at, gathered_more, gathered_none}
use Rattle.index_format.specs.Text.{placed_in}
use Rattle.command_given_indexes.proofs.parts.gather_prefixes.Goals as goal

pub prefixes-init : goal.prefixes-init
prefixes-init g c = record { gathered = gathered_none _ _ _; keeps = refl; unfailed = refl }

pub gather_prefix-requires : goal.gather_prefix-requires
gather_prefix-requires g c = rw c.prefixes.invariant.keeps c.requires

pub prefixes-preserved : goal.prefixes-preserved
prefixes-preserved g c =
    let one = c.in_ok-gather_prefix.ensures in
    record {
      gathered = gathered_more _ _ c.args.prefixes.now c.prefixes.prefix-index c.prefix-item.result
          (placed_in c.args.index.now) c.prefixes-test.true c.prefix-item.is c.prefixes.invariant.keeps _
          (map record_bytes c.prefixes.gathered.items) _ c.prefixes.invariant.gathered one.0;
      keeps = one.1 ∙ c.prefixes.invariant.keeps;
      unfailed = one.2 ∙ c.prefixes.invariant.unfailed;
    }

pub returns-in_err-gather_prefix : goal.returns-in_err-gather_prefix
returns-in_err-gather_prefix g c =
    let fault = c.in_err-gather_prefix.field-0.0 in
    let new = c.gather_prefix.new.device in
    let Fails : g.row.P.Denot → ℕ → ℕ → Type 0 = λ old. FailsWithin g.P.Placed.whole g.P.Placed.failures g.P.Placed.unread old new in
    rw (failed c.from_residual.result fault c.from_residual.ensures.1)
    (refused_behind g.P.Placed.whole g.P.Placed.failures c.args.device.now c.prefixes.device _ c.prefixes.invariant.keeps c.prefixes.invariant.unfailed
    (FailsUnder (Fails c.prefixes.device) (prefix_bytes c.prefix-item.result) (placed_in c.args.index.now))
    (FailsUnderOne (Fails c.args.device.now) (map prefix_bytes c.args.prefixes.now) (placed_in c.args.index.now)) fault
    (fault_at _ _ c.args.prefixes.now c.prefixes.prefix-index c.prefix-item.result (placed_in c.args.index.now)
    c.prefixes-test.true c.prefix-item.is c.prefixes.invariant.keeps _ (map record_bytes c.prefixes.gathered.items)
    fault c.prefixes.invariant.gathered)
    (λ n. fails_at_prefix (g.P.Placed.whole c.args.device.now) (g.P.Placed.whole c.prefixes.device) c.args.prefixes.now
    c.prefixes.prefix-index c.prefix-item.result (placed_in c.args.index.now) c.prefixes-test.true c.prefix-item.is
    c.prefixes.invariant.keeps (Fails c.prefixes.device) (Fails c.args.device.now) n
    (fails_behind g.P.Placed.whole g.P.Placed.failures c.args.device.now c.prefixes.device new c.prefixes.invariant.keeps
    c.prefixes.invariant.unfailed g.P.Placed.unread))
    c.in_err-gather_prefix.ensures)

pub returns : goal.returns
returns g c =
    let all = map prefix_bytes c.args.prefixes.now in (
      rw (take_all c.prefixes.prefix-index all (omega (
        arith,
        length-map c.args.prefixes.now prefix_bytes,
        c.prefixes-test.false,
      ))) at c.prefixes.invariant.gathered,
      c.prefixes.invariant.keeps,
      c.prefixes.invariant.unfailed,
    )
