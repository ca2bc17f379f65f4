use Rattle.std.proofs.Common.{◌<◌, ◌≡◌, ◌+◌, Ok, Err, length, take, drop, arith}
use Rattle.std.proofs.lemmas.List.{take_all}
use Rattle.join_core.specs.Listing.{listing}
use Rattle.archive_core.specs.Record.{borrowed_bytes}
use Rattle.archive_records.specs.Text.{missing}
use Rattle.archive_records.proofs.Blamed.{failed}
use Rattle.archive_records.proofs.Puts.{length_written, missing_parts, missing_puts, missing_count, few_missing, stops_among}
use Rattle.archive_records.proofs.writing.put_missing.Goals as goal

pub returns-in_err-sizes-clause-puts : goal.returns-in_err-sizes-clause-puts
returns-in_err-sizes-clause-puts g c =
    let xs = listing (g.A.Join.content c.args.archive.now) in
    let s = c.args.summary.now in
    let i = c.putting.i in
    let lt : i < length xs = omega (arith, length_written (g.A.Join.content c.args.archive.now), c.len-i-end.ensures.len, c.putting-test.true) in
    rw (failed c.from_residual.result c.in_err-sizes.field-0.0 c.from_residual.ensures.1)
    (stops_among _ _ _ _ _ _ (missing s xs) (missing s (take (i + 1) xs)) (missing s (drop (i + 1) xs)) (missing_parts s xs i)
    (missing_puts s xs i _ lt c.record_at.ensures _ _ _ _ _ _ _ (Err c.in_err-sizes.field-0.0) c.putting.invariant.put c.in_err-sizes.ensures.puts))

pub putting-preserved : goal.putting-preserved
putting-preserved g c =
    let xs = listing (g.A.Join.content c.args.archive.now) in
    let s = c.args.summary.now in
    let lt : c.putting.i < length xs = omega (arith, length_written (g.A.Join.content c.args.archive.now), c.len-i-end.ensures.len, c.putting-test.true) in
    let one = few_missing s (borrowed_bytes c.record_at.result) in
    record {
      fits = omega (arith, c.in_ok-sizes.ensures.short, c.putting.invariant.fits);
      few = omega (arith, c.in_ok-sizes.ensures.records, c.putting.invariant.few, one);
      count = missing_count s xs c.putting.i _ lt c.record_at.ensures c.putting.sizes.records
          c.in_ok-sizes.sizes.records c.putting.invariant.count c.in_ok-sizes.ensures.records;
      put = missing_puts s xs c.putting.i _ lt c.record_at.ensures _ _ _ _ _ _ _ (Ok c.in_ok-sizes.sizes) c.putting.invariant.put c.in_ok-sizes.ensures.puts;
    }

pub returns : goal.returns
returns g c =
    let xs = listing (g.A.Join.content c.args.archive.now) in
    let all : take c.putting.i xs ≡ xs = take_all c.putting.i xs
    (omega (
      arith,
      length_written (g.A.Join.content c.args.archive.now),
      c.len-i-end.ensures.len,
      c.putting-test.false,
    )) in
    let put = c.putting.invariant.put in
    let count = c.putting.invariant.count in
    record { puts = rw all at put; records = rw all at count; short = omega arith }
