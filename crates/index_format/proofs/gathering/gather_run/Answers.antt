use Rattle.std.proofs.Common.{◌≡◌, ℕ, ◌+◌, List, [], Option, length, map, ap, ◌∙◌, subst, refl, arith}
use Rattle.std.proofs.Math.ListN.{length-map}
use Rattle.archive_core.specs.Record.{record_bytes}
use Rattle.archive_records.proofs.Blamed.{failed}
use Rattle.byte_device.specs.Devices.{FailsWithin}
use Rattle.index_format.specs.Entry.{IsPlacedEntry, placed_bytes}
use Rattle.index_format.proofs.Entries.{each_of}
use Rattle.index_format.specs.Places.{FailsAmong}
use Rattle.index_format.specs.InnerGathering.{AreGathered, FailsOf, IsGathered}
use Rattle.index_format.specs.Runs.{is_tagged}
use Rattle.index_format.proofs.RunLemmas.{length_run}
use Rattle.index_format.proofs.Gathered.{fails_at, fails_behind, gathered_more, gathered_none, gathered_rest, refused_behind, stale_at}
use Rattle.index_format.proofs.EntryOrder.{in_run}
use Rattle.index_format.proofs.gathering.gather_run.Goals as goal

pub run-init : goal.run-init
run-init g c = record {
  gathered = gathered_none (g.P.Placed.whole c.args.archive.now) (is_tagged c.args.tag c.args.prefix.now)
      (map placed_bytes c.args.entries.now) (c.run_under-start.result.0 + 0)
      (map record_bytes c.args.gathered.now.items)
      (λ k d low high. c.run_under-start.ensures.placed.before k d low (omega (arith, high)));
  keeps = refl;
  unfailed = refl;
}

pub gather_entry-requires-clause-entry : goal.gather_entry-requires-clause-entry
gather_entry-requires-clause-entry g c =
    let entries = c.args.entries.now in
    let run = c.run_under-start in
    let there = in_run entries run.result.0 run.result.1 c.run.index c.index-run-index.result c.run-test.true c.index-run-index.is in
    each_of IsPlacedEntry entries (run.result.0 + c.run.index) c.index-run-index.result c.requires.indexed.are there.1 there.2

pub returns-in_err-gather_entry : goal.returns-in_err-gather_entry
returns-in_err-gather_entry g c =
    let entries = c.args.entries.now in
    let run = c.run_under-start in
    let e = c.index-run-index.result in
    let k = run.result.0 + c.run.index in
    let there = in_run entries run.result.0 run.result.1 c.run.index e c.run-test.true c.index-run-index.is in
    let passes = ap (is_tagged c.args.tag c.args.prefix.now) there.3 ∙ run.ensures.placed.inside k [] (omega arith) there.0 in
    let fault = c.in_err-gather_entry.field-0.0 in
    let new = c.gather_entry.new.archive in
    let Fails : g.row.P.Denot → ℕ → ℕ → Type 0 = λ old. FailsWithin g.P.Placed.whole g.P.Placed.failures g.P.Placed.unread old new in
    rw (failed c.from_residual.result fault c.from_residual.ensures.1)
    (refused_behind g.P.Placed.whole g.P.Placed.failures c.args.archive.now c.run.archive _ c.run.invariant.keeps c.run.invariant.unfailed
    (FailsOf (Fails c.run.archive) (placed_bytes e))
    (FailsAmong (Fails c.args.archive.now) (is_tagged c.args.tag c.args.prefix.now) (map placed_bytes entries)) fault
    (stale_at (g.P.Placed.whole c.args.archive.now) (g.P.Placed.whole c.run.archive)
    (is_tagged c.args.tag c.args.prefix.now) (map placed_bytes entries) k (placed_bytes e)
    (map record_bytes c.args.gathered.now.items) (map record_bytes c.run.gathered.items) fault
    (omega (arith, length-map entries placed_bytes, there.1)) there.3 passes c.run.invariant.keeps c.run.invariant.gathered)
    (λ n h. fails_at (Fails c.run.archive) (Fails c.args.archive.now) (is_tagged c.args.tag c.args.prefix.now)
    (map placed_bytes entries) k (placed_bytes e) n (omega (arith, length-map entries placed_bytes, there.1)) there.3 passes
    (fails_behind g.P.Placed.whole g.P.Placed.failures c.args.archive.now c.run.archive new c.run.invariant.keeps
    c.run.invariant.unfailed g.P.Placed.unread) h)
    c.in_err-gather_entry.ensures)

pub run-preserved : goal.run-preserved
run-preserved g c =
    let entries = c.args.entries.now in
    let run = c.run_under-start in
    let e = c.index-run-index.result in
    let k = run.result.0 + c.run.index in
    let there = in_run entries run.result.0 run.result.1 c.run.index e c.run-test.true c.index-run-index.is in
    let passes = ap (is_tagged c.args.tag c.args.prefix.now) there.3 ∙ run.ensures.placed.inside k [] (omega arith) there.0 in
    let one = c.in_ok-gather_entry.ensures in
    let next : k + 1 ≡ run.result.0 + (c.run.index + 1) = omega arith in
    record {
      gathered = subst (λ (n : ℕ). AreGathered (g.P.Placed.whole c.args.archive.now)
          (is_tagged c.args.tag c.args.prefix.now) (map placed_bytes entries) n
          (map record_bytes c.args.gathered.now.items) (map record_bytes c.gather_entry.new.gathered.items)) next
          (gathered_more (g.P.Placed.whole c.args.archive.now) (is_tagged c.args.tag c.args.prefix.now)
          (map placed_bytes entries) k (placed_bytes e) (map record_bytes c.args.gathered.now.items)
          (map record_bytes c.run.gathered.items) (map record_bytes c.gather_entry.new.gathered.items)
          (omega (arith, length-map entries placed_bytes, there.1)) there.3 passes c.run.invariant.gathered
          (subst (λ (w : Option (List ℕ)). IsGathered w (placed_bytes e) (map record_bytes c.run.gathered.items)
          (map record_bytes c.gather_entry.new.gathered.items)) c.run.invariant.keeps one.0));
      keeps = one.1 ∙ c.run.invariant.keeps;
      unfailed = one.2 ∙ c.run.invariant.unfailed;
    }

pub returns : goal.returns
returns g c =
    let entries = c.args.entries.now in
    let run = c.run_under-start in
    let bytes = map placed_bytes entries in
    let all : length bytes ≡ length entries = length-map entries placed_bytes in
    let long = length_run entries run.result.0 run.result.1 run.ensures.placed.ordered (omega (arith, all, run.ensures.placed.within)) in (
      gathered_rest (g.P.Placed.whole c.args.archive.now) (is_tagged c.args.tag c.args.prefix.now) bytes
          (run.result.0 + c.run.index) (length entries) (map record_bytes c.args.gathered.now.items)
          (map record_bytes c.run.gathered.items)
          (omega (arith, all, long, c.run.auto.index-end, run.ensures.placed.within, run.ensures.placed.ordered))
          (λ k d low high. run.ensures.placed.behind k d (omega (arith, long, c.run-test.false, low, run.ensures.placed.ordered)) (omega (arith, all, high)))
          c.run.invariant.gathered,
      c.run.invariant.keeps,
      c.run.invariant.unfailed,
    )
