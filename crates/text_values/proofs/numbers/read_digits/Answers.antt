use Rattle.std.proofs.Common.{◌≡◌, ◌∙◌, ◌&&◌, ap₂, arith, lt-ltb, subst, true}
use Rattle.std.proofs.lemmas.Int.Digits.{digits_value_more}
use Rattle.std.proofs.lemmas.List.Folds.{list_all_more}
use Rattle.std.specs.Char.{is_digit}
use Rattle.text_values.proofs.Forms.{has_room, one_more-lt}
use Rattle.text_values.proofs.numbers.read_digits.Goals as goal

pub overflow_mul-number : goal.overflow_mul-number
overflow_mul-number c =
    let room = has_room c.digits.number c.digits.digit-index c.digits.invariant.small (omega arith) in
    omega (arith, room)

pub overflow_add-number : goal.overflow_add-number
overflow_add-number c =
    let room = has_room c.digits.number c.digits.digit-index c.digits.invariant.small (omega arith) in
    omega (arith, room, c.in_ok-value.ensures.value)

pub digits-preserved : goal.digits-preserved
digits-preserved c =
    let more = digits_value_more 16 c.args.digits.now c.digits.digit-index (omega arith) in
    let tested = list_all_more (λ b. is_digit b 16) c.args.digits.now c.digits.digit-index 0 (omega arith) in
    record {
      spelled = cc (more, c.in_ok-value.ensures.value.1, c.from.ensures);
      digits = tested ∙ ap₂ (λ a b. a && b) c.digits.invariant.digits
          (subst (λ b. is_digit b 16 ≡ true) c.from.ensures (lt-ltb _ 16 c.in_ok-value.ensures.value.0));
      small = one_more-lt c.digits.number c.digits.digit-index c.from-in-digits.result c.digits.invariant.small (omega (arith, c.in_ok-value.ensures.value));
    }
