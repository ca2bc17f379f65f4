use Rattle.std.proofs.Common.{◌≡◌, ◌≤◌, ◌+◌, ◌∙◌, ◌++◌, List, [], ℕ, length, take, drop, ap, sym, refl, arith, length-take, length-drop, append-nil}
use Rattle.byte_device.proofs.Known.{Consumes-keeps, Consumes-none}
use Rattle.byte_device.proofs.Taken.{take-behind}
use Rattle.archive_records.specs.Reader.{bytes_so_far}
use Rattle.archive_records.proofs.Blamed.{failed}
use Rattle.archive_records.proofs.Fills.{Fills-behind, bytes_before}
use Rattle.archive_records.proofs.buffer.pull_after.Goals as goal

pub returns-in_err-n : goal.returns-in_err-n
returns-in_err-n g c =
    let at = c.args.buffer.now.at in
    let under = c.deref_mut.result.now in
    let len = c.lengthen.new.bytes.len in
    let value = ap length c.deref_mut.ensures.value in
    let in_front : at ≤ length under = omega (arith, c.lengthen.ensures.long) in
    let in_len : at ≤ len = omega (arith, c.lengthen.ensures.long) in
    let front = ap (take at) c.deref_mut.ensures.value ∙ c.lengthen.ensures.front at c.requires.within in
    rw (failed c.from_residual.result c.in_err-n.field-0.0 c.from_residual.ensures.1) (record {
      fills = Fills-behind _ _ c.args.buffer.now _ [] c.requires.within (omega arith)
          (bytes_before under _ _ at len in_front in_len ∙ front ∙ sym (append-nil (bytes_so_far c.args.buffer.now)))
          refl c.requires.differs
          (Consumes-keeps _ _ _ [] (Consumes-none (g.R.Source.left c.args.r.now)) c.in_err-n.ensures.bytes);
      piece = refl;
      count = c.in_err-n.ensures.count;
    })

pub returns : goal.returns
returns g c =
    let at = c.args.buffer.now.at in
    let n = c.in_ok-n.n in
    let under = c.deref_mut.result.now in
    let len = c.lengthen.new.bytes.len in
    let value = ap length c.deref_mut.ensures.value in
    let in_front : at ≤ length under = omega (arith, c.lengthen.ensures.long) in
    let room : length (take c.args.want (drop at under))
    ≡ c.args.want = omega (
      arith,
      c.lengthen.ensures.long,
      length-take c.args.want (drop at under),
      length-drop at under,
    ) in
    let bound : n ≤ c.args.want = omega (arith, room, c.pull.auto.buf, c.in_ok-n.ensures.bound) in
    let in_len : at + n ≤ len = omega (arith, c.lengthen.ensures.long, bound) in
    let front = ap (take at) c.deref_mut.ensures.value ∙ c.lengthen.ensures.front at c.requires.within in
    let m : List ℕ = take n c.pull.new.buf in
    let whole : length m ≡ n = omega (arith, length-take n c.pull.new.buf, c.in_ok-n.ensures.bound) in
    record {
      fills = Fills-behind _ _ c.args.buffer.now _ m c.requires.within (ap (λ (k : ℕ). at + k) (sym whole))
          (take-behind under c.pull.new.buf _ _ at len n in_front in_len c.in_ok-n.ensures.bound
          ∙ ap (λ (t : List ℕ). t ++ m) front) refl c.requires.differs c.in_ok-n.ensures.bytes.0;
      piece = record { at_is = refl; bound = bound; end = λ none some. c.in_ok-n.ensures.bytes.1 none (omega (arith, room, c.pull.auto.buf)) };
      count = c.in_ok-n.ensures.count;
    }
