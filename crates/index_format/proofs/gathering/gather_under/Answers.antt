use Rattle.std.proofs.Common.{◌≤◌, ℕ, length, map, refl, arith}
use Rattle.std.proofs.Math.ListN.{length-map}
use Rattle.archive_records.proofs.Blamed.{failed}
use Rattle.byte_device.specs.Devices.{FailsWithin}
use Rattle.index_format.specs.Entry.{placed_bytes}
use Rattle.archive_core.specs.Part.{is_under}
use Rattle.index_format.specs.Places.{FailsAmong}
use Rattle.index_format.specs.Runs.{is_tagged}
use Rattle.index_format.proofs.Gathered.{blamed_behind, fails_behind, fails_tagged, gathered_both, reads_behind, stale_first, stale_second}
use Rattle.index_format.proofs.gathering.gather_under.Goals as goal

pub returns-in_err-gather_run : goal.returns-in_err-gather_run
returns-in_err-gather_run g c =
    let entries = c.args.entries.now in
    let fault = c.in_err-gather_run.field-0.0 in
    let Fails : ℕ → ℕ → Type 0 =
    FailsWithin g.P.Placed.whole g.P.Placed.failures g.P.Placed.unread c.args.archive.now c.gather_run.new.archive in
    rw (failed c.from_residual.result fault c.from_residual.ensures.1) (
      stale_first (g.P.Placed.whole c.args.archive.now) c.args.prefix.now (map placed_bytes entries) c.requires.indexed
          (length entries) (omega (arith, length-map entries placed_bytes)) fault c.in_err-gather_run.ensures.0,
      c.in_err-gather_run.ensures.1,
      blamed_behind g.P.Placed.whole g.P.Placed.failures c.args.archive.now c.args.archive.now _ refl refl
          (FailsAmong Fails (is_tagged 1 c.args.prefix.now) (map placed_bytes entries))
          (FailsAmong Fails (is_under c.args.prefix.now) (map placed_bytes entries)) fault
          (λ n. fails_tagged Fails Fails 1 c.args.prefix.now (map placed_bytes entries) n (λ start count h. h))
          c.in_err-gather_run.ensures.2,
    )

pub returns : goal.returns
returns g c =
    let entries = c.args.entries.now in
    let first = c.in_ok-gather_run.ensures in
    let all : length (map placed_bytes entries) ≤ length entries = omega (arith, length-map entries placed_bytes) in
    let new = c.gather_run-2.new.archive in
    let Fails : g.row.P.Denot → ℕ → ℕ → Type 0 = λ old. FailsWithin g.P.Placed.whole g.P.Placed.failures g.P.Placed.unread old new in
    reads_behind g.P.Placed.whole g.P.Placed.failures c.args.archive.now c.gather_run.new.archive _ first.1 first.2 _ _
    (FailsAmong (Fails c.gather_run.new.archive) (is_tagged 2 c.args.prefix.now) (map placed_bytes entries))
    (FailsAmong (Fails c.args.archive.now) (is_under c.args.prefix.now) (map placed_bytes entries)) c.gather_run-2.result
    (λ _ second. gathered_both _ c.args.prefix.now _ c.requires.indexed _ all _ _ _ _ first.1 first.0 second)
    (λ fault h. stale_second _ c.args.prefix.now _ c.requires.indexed _ all _ _ _ fault first.1 first.0 h)
    (λ n. fails_tagged (Fails c.gather_run.new.archive) (Fails c.args.archive.now) 2 c.args.prefix.now (map placed_bytes entries) n
    (fails_behind g.P.Placed.whole g.P.Placed.failures c.args.archive.now c.gather_run.new.archive new first.1 first.2
    g.P.Placed.unread))
    c.gather_run-2.ensures
