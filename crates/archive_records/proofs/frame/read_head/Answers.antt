use Rattle.std.proofs.Common.{arith, sym}
use Rattle.archive_records.proofs.Blamed.{blames_behind, failed, text_blames}
use Rattle.archive_records.proofs.Framed.{framed-empty, framed-bad, grown-head, tag_kept}
use Rattle.archive_records.specs.declared.fault.RecordFaultKind.TheVariants.{BadTag}
use Rattle.archive_records.specs.Reader.{bytes_so_far}
use Rattle.archive_records.proofs.Fills.{Fills-then, length-bytes_so_far}
use Rattle.archive_records.proofs.frame.read_head.Goals as goal

pub returns-in_err-fill : goal.returns-in_err-fill
returns-in_err-fill g c =
    let b = c.fill.new.buffer in
    let came = c.in_err-fill.ensures.came in
    rw (failed c.from_residual.result c.in_err-fill.field-0.0 c.from_residual.ensures.1) (record {
      fills = c.fill.ensures.fills;
      head = rw came.1 (framed-empty c.args.file (bytes_so_far b) (omega (arith, length-bytes_so_far b c.fill.ensures.fills.within, came.0, c.requires)));
      reader = c.in_err-fill.ensures.reader;
    })

pub returns-in_default-clause-reader : goal.returns-in_default-clause-reader
returns-in_default-clause-reader g c = text_blames g.R.Source.left g.R.Source.failures c.args.r.now c.fill.new.r BadTag
    (λ e. cc) (λ e. cc) c.in_ok-fill.ensures.reader

pub returns-in_default-clause-head : goal.returns-in_default-clause-head
returns-in_default-clause-head g c =
    let b = c.fill.new.buffer in
    framed-bad c.args.file (bytes_so_far b) (omega (
      arith,
      length-bytes_so_far b c.fill.ensures.fills.within,
      c.in_ok-fill.ensures.came,
    )) (rw (← c.deref.ensures.value) (sym c.in_default.ensures.value))

pub returns-in_err-fill-2 : goal.returns-in_err-fill-2
returns-in_err-fill-2 g c =
    let n = c.in-Some.ensures.long in
    let b = c.fill.new.buffer in
    let d = c.fill-2.new.buffer in
    let l = c.in_ok-fill.ensures.came in
    let came = c.in_err-fill-2.ensures.came in
    let fills = c.fill-2.ensures.fills in
    let x = length-bytes_so_far b c.fill.ensures.fills.within in
    let y = length-bytes_so_far d fills.within in
    rw (failed c.from_residual-in_err-fill-2.result c.in_err-fill-2.field-0.0 c.from_residual-in_err-fill-2.ensures.1) (record {
      fills = Fills-then c.fill.ensures.fills fills;
      head = rw came.1
          (grown-head c.args.file (bytes_so_far b) fills.more (bytes_so_far d) c.in-Some.head fills.grows
          (omega (arith, x)) (rw (← c.deref.ensures.value) (sym c.in-Some.ensures.value))
          (omega (arith, x, y, came.0, c.requires)));
      reader = blames_behind g.R.Source.left g.R.Source.failures c.args.r.now c.fill.new.r c.fill-2.new.r
          c.in_ok-fill.ensures.reader _ c.in_err-fill-2.ensures.reader;
    })

pub returns-clause-fills : goal.returns-clause-fills
returns-clause-fills g c = Fills-then c.fill.ensures.fills c.fill-2.ensures.fills

pub returns-clause-head : goal.returns-clause-head
returns-clause-head g c =
    let b = c.fill.new.buffer in
    let fills = c.fill-2.ensures.fills in
    record {
      tag = tag_kept c.args.file (bytes_so_far b) fills.more (bytes_so_far c.fill-2.new.buffer) c.in-Some.head fills.grows
          (omega (arith, length-bytes_so_far b c.fill.ensures.fills.within, c.in_ok-fill.ensures.came))
          (rw (← c.deref.ensures.value) (sym c.in-Some.ensures.value));
      at_is = omega (arith, c.in-Some.ensures.long, c.in_ok-fill.ensures.came, c.in_ok-fill-2.ensures.came, c.requires.start);
      long = c.in-Some.ensures.long.0;
    }
