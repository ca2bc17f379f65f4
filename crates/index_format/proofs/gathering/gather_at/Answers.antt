use Rattle.std.proofs.Common.{ℕ, sym}
use Rattle.byte_device.specs.Devices.{FailsWithin}
use Rattle.index_format.proofs.Fronts.{are_indexed}
use Rattle.index_format.proofs.Gathered.{gathered_part, refused_part}
use Rattle.index_format.proofs.gathering.gather_at.Goals as goal

pub gather_under-requires-clause-indexed : goal.gather_under-requires-clause-indexed
gather_under-requires-clause-indexed g c = are_indexed c.parts.result.1.now c.parts.ensures.1.ordered

pub returns-in-Ok : goal.returns-in-Ok
returns-in-Ok g c =
    let all = c.parts in
    let told = c.in-Ok.ensures in (
      gathered_part all.ensures.0 all.result.0.now all.result.1.now all.ensures.1 c.args.prefix.now c.requires.some
          (g.P.Placed.whole c.args.archive.now) c.args.part.now _ _ (sym all.ensures.2) told.0,
      told.1,
      told.2,
    )

pub returns-in-Err : goal.returns-in-Err
returns-in-Err g c =
    let all = c.parts in
    let fault = c.in-Err.fault in
    let Fails : ℕ → ℕ → Type 0 =
    FailsWithin g.P.Placed.whole g.P.Placed.failures g.P.Placed.unread c.args.archive.now c.gather_under.new.archive in
    rw c.numbered_fault.ensures (refused_part all.ensures.0 all.result.0.now all.result.1.now all.ensures.1 c.args.prefix.now
    c.requires.some g.P.Placed.whole g.P.Placed.failures c.args.archive.now c.gather_under.new.archive Fails c.args.part.now fault
    (sym all.ensures.2) c.in-Err.ensures)
