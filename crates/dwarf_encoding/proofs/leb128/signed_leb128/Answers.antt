use Rattle.dwarf_encoding.specs.Leb128.{last_signed}
use Rattle.dwarf_encoding.proofs.Leb128Lemmas.{number_found, leb_missing, ends_positive, ends_negative}
use Rattle.dwarf_encoding.proofs.leb128.signed_leb128.Goals as goal
use Rattle.dwarf_encoding.proofs.leb128.signed_leb128.Goals.{then-bytes-last-lt64, else-bytes-last-lt64}

pub returns-in_err-last : goal.returns-in_err-last
returns-in_err-last c =
    cc (leb_missing last_signed c.args.bytes.now c.in_err-last.ensures.none, c.from_residual.ensures)

pub returns : goal.returns
returns c = elim c.if-bytes-last-lt64.branch [
  | then-bytes-last-lt64 w ↦
      let found = number_found last_signed c.args.bytes.now c.in_ok-last.last 0 c.in_ok-last.ensures.within
      c.in_ok-last.ensures.before c.in_ok-last.ensures.last (ends_positive _ w.if-bytes-last-lt64.true) in
      cc
  | else-bytes-last-lt64 w ↦
      let found = number_found last_signed c.args.bytes.now c.in_ok-last.last 18446744073709551615
      c.in_ok-last.ensures.within c.in_ok-last.ensures.before c.in_ok-last.ensures.last
      (ends_negative _ c.in_ok-last.ensures.last w.if-bytes-last-lt64.false) in
      cc
]
