use Rattle.std.proofs.Common.{arith, ap, ◌∙◌, ◌++◌, ◌+◌, ◌-◌, ◌/◌}
use Rattle.std.proofs.lemmas.Bool.{le-ltb, lt-ltb}
use Rattle.dwarf_encoding.specs.Leb128.{fits_unsigned, leb128_within, shifted_unsigned, unsigned_leb128_bytes}
use Rattle.dwarf_encoding.proofs.WrittenLemmas.{pushed_early, pushed_last, pushed_more}
use Rattle.dwarf_encoding.proofs.leb128.push_unsigned_leb128.Goals as goal
use Rattle.dwarf_encoding.proofs.leb128.push_unsigned_leb128.Goals.{else-bytes-test, then-bytes-test+then-left-lt128}

pub bytes-preserved : goal.bytes-preserved
bytes-preserved c =
    ap (λ xs. xs ++ leb128_within fits_unsigned shifted_unsigned (10 - (c.bytes.counter + 1)) (c.bytes.left / 128)) c.in_ok-push.ensures.items
    ∙ pushed_more fits_unsigned shifted_unsigned c.bytes.bytes.items _ c.bytes.counter c.bytes.left
    (omega (arith, c.bytes-test.true)) (le-ltb c.bytes.left 128 c.if-left-lt128.false) c.bytes.invariant

pub returns : goal.returns
unfolding unsigned_leb128_bytes
returns c = c.in_ok-push-2.ensures.items ∙ elim c.bytes-test.branch [
  | else-bytes-test w ↦
      pushed_last fits_unsigned shifted_unsigned c.bytes.bytes.items _ c.bytes.counter c.bytes.left (omega (arith, w.bytes-test.false)) c.bytes.invariant
  | then-bytes-test+then-left-lt128 w ↦
      pushed_early fits_unsigned shifted_unsigned c.bytes.bytes.items _ c.bytes.counter c.bytes.left
      (lt-ltb c.bytes.left 128 w.if-left-lt128.true) c.bytes.invariant
]
