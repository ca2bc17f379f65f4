use Rattle.std.proofs.Common.{◌∙◌, ap, refl, sym, arith}
use Rattle.index_format.specs.Text.{earlier_magic}
use Rattle.std.specs.Str.{bytes_eq}
use Rattle.index_format.proofs.EndLemmas.{asked, front_passes, magic_fails, old_fails, room_fails}
use Rattle.index_format.proofs.ends.check_beginning.Goals as goal

pub returns-then-is_earlier-clause-checked : goal.returns-then-is_earlier-clause-checked
returns-then-is_earlier-clause-checked c = λ text size beginning. record {
  fails = old_fails text (ap (λ t. bytes_eq t earlier_magic) (sym beginning) ∙ sym c.if-is_earlier.ensures);
  offset_is = refl;
}

pub returns-then-not-begins-clause-checked : goal.returns-then-not-begins-clause-checked
returns-then-not-begins-clause-checked c = λ text size beginning. record {
  fails = magic_fails text (ap (λ t. bytes_eq t earlier_magic) (sym beginning) ∙ sym c.if-is_earlier.ensures)
      (sym (asked text c.args.beginning.now c.args.size size beginning c.requires) ∙ sym c.if-not-begins.ensures);
  offset_is = refl;
}

pub returns-then-size-lt-ENDS_LEN-clause-checked : goal.returns-then-size-lt-ENDS_LEN-clause-checked
returns-then-size-lt-ENDS_LEN-clause-checked c = λ text size beginning. record {
  fails = room_fails text (ap (λ t. bytes_eq t earlier_magic) (sym beginning) ∙ sym c.if-is_earlier.ensures)
      (sym (asked text c.args.beginning.now c.args.size size beginning c.requires) ∙ sym c.if-not-begins.ensures)
      (omega (arith, size, c.if-size-lt-ENDS_LEN.true));
  offset_is = omega (arith, size, c.saturating_sub.ensures);
}

pub returns-clause-checked : goal.returns-clause-checked
returns-clause-checked c = λ text size beginning.
    front_passes text (ap (λ t. bytes_eq t earlier_magic) (sym beginning) ∙ sym c.if-is_earlier.ensures)
    (sym (asked text c.args.beginning.now c.args.size size beginning c.requires) ∙ sym c.if-not-begins.ensures)
    (omega (arith, size, c.if-size-lt-ENDS_LEN.false))
