use Rattle.std.proofs.Common.{arith, ap, sym, ◌∙◌, ◌++◌, ◌+◌, ◌-◌}
use Rattle.std.proofs.Common.{◌%◌, ◌∷◌, []}
use Rattle.dwarf_encoding.specs.Leb128.{fits_signed, leb128_within, shifted_signed, signed_leb128_bytes}
use Rattle.dwarf_encoding.proofs.WrittenLemmas.{pushed_early, pushed_last, pushed_more}
use Rattle.dwarf_encoding.proofs.leb128.push_signed_leb128.Goals as goal
use Rattle.dwarf_encoding.proofs.leb128.push_signed_leb128.Goals.{else-bytes-test, then-bytes-test+then-fits_signed}

pub bytes-preserved : goal.bytes-preserved
bytes-preserved c =
    ap (λ xs. xs ++ leb128_within fits_signed shifted_signed (10 - (c.bytes.counter + 1)) c.shifted_signed-left.result) c.in_ok-push.ensures.items
    ∙ ap (λ n. (c.bytes.bytes.items ++ (128 + c.bytes.left % 128) ∷ [])
    ++ leb128_within fits_signed shifted_signed (10 - (c.bytes.counter + 1)) n) c.shifted_signed-left.ensures
    ∙ pushed_more fits_signed shifted_signed c.bytes.bytes.items _ c.bytes.counter c.bytes.left
    (omega (arith, c.bytes-test.true)) (sym c.if-fits_signed.ensures) c.bytes.invariant

pub returns : goal.returns
unfolding signed_leb128_bytes
returns c = c.in_ok-push-2.ensures.items ∙ elim c.bytes-test.branch [
  | else-bytes-test w ↦
      pushed_last fits_signed shifted_signed c.bytes.bytes.items _ c.bytes.counter c.bytes.left (omega (arith, w.bytes-test.false)) c.bytes.invariant
  | then-bytes-test+then-fits_signed w ↦
      pushed_early fits_signed shifted_signed c.bytes.bytes.items _ c.bytes.counter c.bytes.left (sym w.if-fits_signed.ensures) c.bytes.invariant
]
