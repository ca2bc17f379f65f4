use Rattle.std.proofs.Common.{◌<◌, ◌≡◌, ℕ, Ok, length, take, map, arith}
use Rattle.std.proofs.Math.ListN.{length-map}
use Rattle.std.proofs.lemmas.List.{take_all}
use Rattle.archive_records.specs.Entry.{entry_bytes}
use Rattle.archive_records.proofs.Blamed.{failed}
use Rattle.archive_records.proofs.Puts.{puts_more, stops_in_next}
use Rattle.archive_records.proofs.Summarised.{bytes_at}
use Rattle.archive_records.proofs.writing.put_entries.Goals as goal

pub returns-in_err-done-clause-puts : goal.returns-in_err-done-clause-puts
returns-in_err-done-clause-puts g c =
    let xs = map entry_bytes c.args.entries.now in
    let i = c.putting.entry-index in
    let lt : i < length xs = omega (arith, length-map c.args.entries.now entry_bytes, c.putting-test.true) in
    let at = bytes_at c.args.entries.now i c.entry-item.result _ c.putting-test.true c.entry-item.is c.bytes.ensures in
    rw (failed c.from_residual.result c.in_err-done.field-0.0 c.from_residual.ensures.1)
    (stops_in_next _ _ _ _ _ _ _ xs i _ lt at c.in_err-done.field-0.0 c.putting.invariant.put c.in_err-done.ensures)

pub putting-preserved : goal.putting-preserved
putting-preserved g c =
    let xs = map entry_bytes c.args.entries.now in
    let i = c.putting.entry-index in
    let lt : i < length xs = omega (arith, length-map c.args.entries.now entry_bytes, c.putting-test.true) in
    let at = bytes_at c.args.entries.now i c.entry-item.result _ c.putting-test.true c.entry-item.is c.bytes.ensures in
    record {
      fits = omega (arith, c.in_ok-done.ensures.size_is, c.putting.invariant.fits);
      put = puts_more _ _ (λ (n : ℕ). n) _ _ _ _ _ xs i _ lt at (Ok c.in_ok-done.done) c.putting.invariant.put c.in_ok-done.ensures;
    }

pub returns-clause-puts : goal.returns-clause-puts
returns-clause-puts g c =
    let xs = map entry_bytes c.args.entries.now in
    let all : take c.putting.entry-index xs ≡ xs = take_all c.putting.entry-index xs
    (omega (arith, length-map c.args.entries.now entry_bytes, c.putting-test.false)) in
    let put = c.putting.invariant.put in
    rw all at put
