use Rattle.std.proofs.Common.{◌<◌, ◌≡◌, ℕ, Ok, length, take, arith}
use Rattle.std.proofs.lemmas.List.{take_all}
use Rattle.join_core.specs.Listing.{listing}
use Rattle.archive_records.proofs.Blamed.{failed}
use Rattle.archive_records.proofs.Puts.{length_written, puts_more, stops_in_next}
use Rattle.archive_records.proofs.writing.put_records.Goals as goal

pub returns-in_err-done-clause-puts : goal.returns-in_err-done-clause-puts
returns-in_err-done-clause-puts g c =
    let o = g.A.Join.content c.args.archive.now in
    let lt : c.putting.i < length (listing o) = omega (arith, length_written o, c.len-i-end.ensures.len, c.putting-test.true) in
    rw (failed c.from_residual.result c.in_err-done.field-0.0 c.from_residual.ensures.1)
    (stops_in_next _ _ _ _ _ _ _ (listing o) c.putting.i _ lt c.record_at.ensures c.in_err-done.field-0.0 c.putting.invariant.put c.in_err-done.ensures.puts)

pub putting-preserved : goal.putting-preserved
putting-preserved g c =
    let o = g.A.Join.content c.args.archive.now in
    let lt : c.putting.i < length (listing o) = omega (arith, length_written o, c.len-i-end.ensures.len, c.putting-test.true) in
    record {
      fits = omega (arith, c.in_ok-done.ensures.short, c.putting.invariant.fits);
      put = puts_more _ _ (λ (n : ℕ). n) _ _ _ _ _ (listing o) c.putting.i _ lt c.record_at.ensures
          (Ok c.in_ok-done.done) c.putting.invariant.put c.in_ok-done.ensures.puts;
    }

pub returns-clause-puts : goal.returns-clause-puts
returns-clause-puts g c =
    let o = g.A.Join.content c.args.archive.now in
    let all : take c.putting.i (listing o) ≡ listing o =
    take_all c.putting.i (listing o) (omega (
      arith,
      length_written o,
      c.len-i-end.ensures.len,
      c.putting-test.false,
    )) in
    let put = c.putting.invariant.put in
    rw all at put
