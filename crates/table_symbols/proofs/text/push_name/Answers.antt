use Rattle.std.proofs.Common.{arith}
use Rattle.table_symbols.proofs.TextLemmas.{padded_pushed, zeros_after}
use Rattle.table_symbols.proofs.text.push_name.Goals as goal

pub returns : goal.returns
returns c =
    padded_pushed c.args.text.now.items c.args.name.now _ _ _ c.in_ok-extend_from_slice.ensures.items c.in_ok-extend_from_slice-2.ensures.items
    (zeros_after c.args.name.now c.min.result (omega (arith, c.min.ensures)))
