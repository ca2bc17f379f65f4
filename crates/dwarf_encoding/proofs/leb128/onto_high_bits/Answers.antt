use Rattle.std.proofs.Common.{arith, ap, sym, ◌∙◌}
use Rattle.std.proofs.Math.Seq.{drop-length}
use Rattle.dwarf_encoding.specs.Inner.{onto_high_bits}
use Rattle.dwarf_encoding.proofs.Leb128Lemmas.{onto_none, onto_more}
use Rattle.dwarf_encoding.proofs.leb128.onto_high_bits.Goals as goal

pub loop-left-init : goal.loop-left-init
loop-left-init c = record {
  within = omega arith;
  value_is = sym (ap (λ s. onto_high_bits s c.args.high) (drop-length c.args.bytes.now) ∙ onto_none c.args.high);
}

pub loop-left-preserved : goal.loop-left-preserved
loop-left-preserved c = record {
  within = omega arith;
  value_is =
      let step = onto_more c.args.bytes.now c.loop-left.left c.args.high c.loop-left-test.true c.loop-left.invariant.within in
      cc;
}
