use Rattle.std.proofs.Common.{◌<◌, ◌∙◌, ◌++◌, ℕ, List, ap, arith, length, map}
use Rattle.std.specs.List.{concat}
use Rattle.std.proofs.Math.ListN.{length-map}
use Rattle.std.proofs.lemmas.List.{take_all}
use Rattle.index_format.specs.Entry.{entry_bytes}
use Rattle.index_build.proofs.Sorted.{bytes_at, concat_next}
use Rattle.index_build.proofs.entries.joined.Goals as goal

pub joining-preserved : goal.joining-preserved
joining-preserved c =
    let xs = map entry_bytes c.args.entries.now in
    let i = c.joining.entry-index in
    let lt : i < length xs = omega (arith, length-map c.args.entries.now entry_bytes, c.joining-test.true) in
    let at = bytes_at c.args.entries.now i c.entry-item.result _ c.joining-test.true c.entry-item.is c.bytes-item.ensures in
    c.in_ok-extend_from_slice.ensures.items ∙ ap (λ (t : List ℕ). t ++ c.bytes-item.result) c.joining.invariant
    ∙ concat_next xs i c.bytes-item.result lt at

pub returns : goal.returns
returns c =
    let xs = map entry_bytes c.args.entries.now in
    c.joining.invariant ∙ ap (λ (ys : List (List ℕ)). concat ys)
    (take_all c.joining.entry-index xs (omega (arith, length-map c.args.entries.now entry_bytes, c.joining-test.false)))
