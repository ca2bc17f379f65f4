use Rattle.std.proofs.Common.{◌≡◌, ◌+◌, ◌-◌, ◌≤◌, ◌++◌, List, ℕ, length, take, drop, arith, refl, ◌∙◌, ap, sym, subst}
use Rattle.std.proofs.lemmas.List.{take-take, length-take-le, length-drop, length-take}
use Rattle.std.proofs.lemmas.Slice.{take-put_mid}
use Rattle.std.proofs.Math.Seq.{take-append-add}
use Rattle.std.specs.Io.KnownBytes.{Consumes}
use Rattle.byte_device.proofs.Known.{Consumes-then}
use borrow.Rule.Slice.PartMut.{put_mid, same_len_mid}
use Rattle.index_format.proofs.beginning.take_magic.Goals as goal

-- what stands in front of the end of a piece
front_of : (done k n : ℕ) (buf piece : List ℕ) → done ≤ length buf → n ≤ length piece
    → take (done + n) (put_mid done k buf piece) ≡ take done buf ++ take n piece
front_of done k n buf piece within bound =
    let front : length (take done buf) ≡ done = length-take-le done buf within in
    sym (take-take (done + n) (done + length piece) (put_mid done k buf piece) (omega (arith, bound)))
    ∙ ap (take (done + n)) (take-put_mid done k buf piece (done + length piece) refl within)
    ∙ ap (λ (m : ℕ). take (m + n) (take done buf ++ piece)) (sym front)
    ∙ take-append-add (take done buf) piece n

pub taking-preserved : goal.taking-preserved
taking-preserved g c =
    let done = c.taking.came in
    let buf = c.taking.magic in
    let piece = c.pull.new.buf in
    let n = c.in-Ok.n in
    let long : length buf ≡ 8 = c.taking.invariant.long in
    let within : done ≤ length buf = omega (arith, c.taking.invariant.within) in
    let bound : n ≤ length piece = c.in-Ok.ensures.bound in
    let len : length piece ≡ length buf - done = omega (arith, c.pull.auto.buf, length-take (length buf - done) (drop done buf), length-drop done buf) in
    let same : length (put_mid done (length buf - done) buf piece)
    ≡ length buf = same_len_mid done (length buf - done) buf piece (omega (arith, c.pull.auto.buf)) in
    record {
      within = omega (arith, len, bound, within, long);
      long = same ∙ long;
      taken = subst (Consumes (g.R.Source.left c.args.r.now) (g.R.Source.left c.pull.new.self))
          (sym (front_of done (length buf - done) n buf piece within bound))
          (Consumes-then (g.R.Source.left c.args.r.now) (g.R.Source.left c.taking.r) (g.R.Source.left c.pull.new.self)
          (take done buf) (take n piece) c.taking.invariant.taken c.in-Ok.ensures.bytes.0);
      unfailed = c.in-Ok.ensures.count.1 ∙ c.taking.invariant.unfailed;
    }
