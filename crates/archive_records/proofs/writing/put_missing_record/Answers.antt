use Rattle.std.proofs.Common.{refl, sym, ap, arith, ◌∙◌}
use Rattle.std.specs.FinSet as set
use Rattle.byte_device.proofs.Known.{Appends-none}
use Rattle.archive_core.specs.Record.{borrowed_bytes}
use Rattle.archive_records.proofs.Blamed.{failed}
use Rattle.archive_records.proofs.Puts.{missing_none, concat_one, length_one}
use Rattle.archive_records.proofs.writing.put_missing_record.Goals as goal

pub returns-then-has : goal.returns-then-has
returns-then-has g c =
    let named = ap (set.contains c.args.summary.now) (sym c.of.ensures) ∙ sym c.has.ensures ∙ c.if-has.true in
    rw (missing_none c.args.summary.now (borrowed_bytes c.args.item.now) named)
    (record {
      puts = record { size_is = omega arith; gained = Appends-none _; unfailed = refl };
      records =
          omega arith;
      short = omega arith;
    })

pub returns : goal.returns
returns g c =
    let other = ap (set.contains c.args.summary.now) (sym c.of.ensures) ∙ sym c.has.ensures ∙ c.if-has.false in
    record {
      puts = rw (concat_one c.args.summary.now (borrowed_bytes c.args.item.now) other) c.in_ok-bytes.ensures.puts;
      records = rw (length_one c.args.summary.now (borrowed_bytes c.args.item.now) other) refl;
      short = omega (arith, c.in_ok-bytes.ensures.short);
    }

pub returns-in_err-bytes-clause-puts : goal.returns-in_err-bytes-clause-puts
returns-in_err-bytes-clause-puts g c =
    let other = ap (set.contains c.args.summary.now) (sym c.of.ensures) ∙ sym c.has.ensures ∙ c.if-has.false in
    rw (
      failed c.from_residual.result c.in_err-bytes.field-0.0 c.from_residual.ensures.1,
      concat_one c.args.summary.now (borrowed_bytes c.args.item.now) other,
    ) c.in_err-bytes.ensures.puts
