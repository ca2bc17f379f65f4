use Rattle.std.proofs.Common.{◌≡◌, ◌+◌, List, [], ℕ, length, take, drop, ap, sym, refl, arith, length-take}
use Rattle.std.specs.Ordering.{nat_cmp}
use Rattle.std.specs.Cmp.Lexicographic.{slice_cmp}
use Rattle.byte_device.proofs.Known.{Consumes-keeps, Consumes-none}
use Rattle.archive_records.proofs.Blamed.{failed}
use Rattle.archive_records.proofs.Fills.{Fills-laid, Fills-room}
use Rattle.archive_records.proofs.buffer.pull_over.Goals as goal

pub returns : goal.returns
returns g c =
    let b = c.args.buffer.now in
    let n = c.in_ok-n.n in
    let m : List ℕ = take n c.pull.new.buf in
    let len : length m ≡ n = omega (arith, length-take n c.pull.new.buf, c.in_ok-n.ensures.bound) in
    record {
      fills = Fills-laid _ _ b (record {
        bytes = c.write_over-buffer.new.under;
        at = b.at + n;
        order =
            c.write_over-buffer.result;
      }) m (slice_cmp nat_cmp (take (length m) (drop b.at b.bytes.items)) m)
          c.requires.within (ap (λ (k : ℕ). b.at + k) (sym len)) c.write_over-buffer.ensures.written
          c.write_over-buffer.ensures.order refl c.in_ok-n.ensures.bytes.0;
      piece = record {
        at_is = refl;
        bound = omega (arith, c.pull.auto.buf, c.in_ok-n.ensures.bound);
        end =
            λ none some. c.in_ok-n.ensures.bytes.1 none (omega (arith, c.pull.auto.buf));
      };
      count = c.in_ok-n.ensures.count;
    }

pub returns-in_err-n : goal.returns-in_err-n
returns-in_err-n g c =
    let b = c.args.buffer.now in
    rw (failed c.from_residual.result c.in_err-n.field-0.0 c.from_residual.ensures.1) (record {
      fills = Fills-room _ _ b b c.requires.within refl refl refl
          (Consumes-keeps _ _ _ [] (Consumes-none (g.R.Source.left c.args.r.now)) c.in_err-n.ensures.bytes);
      piece = refl;
      count = c.in_err-n.ensures.count;
    })
