use Rattle.std.proofs.Common.{◌∙◌, ap₂, sym}
use Rattle.std.proofs.lemmas.Bool.{not-false, not-true}
use Rattle.text_values.specs.Words.{arch_key_of}
use Rattle.text_values.proofs.Forms.{other_length, other_middle, other_start, two_numbers}
use Rattle.text_values.proofs.archs.read_cpu.Goals as goal
use Rattle.text_values.proofs.archs.read_cpu.Goals.{then-text-ne21-via-then-text-ne21}
use Rattle.text_values.proofs.archs.read_cpu.Goals.{then-text-ne21-via-else-text-ne21+then-not-starts_with}
use Rattle.text_values.proofs.archs.read_cpu.Goals.{then-text-ne21-via-else-text-ne21+else-not-starts_with+then-ne}

pub returns-then-text-ne21 : goal.returns-then-text-ne21
returns-then-text-ne21 c =
    elim c.then-text-ne21.branch [
      | then-text-ne21-via-then-text-ne21 w ↦
          other_length c.args.text.now w.if-text-ne21.true
      | then-text-ne21-via-else-text-ne21+then-not-starts_with w ↦
          other_start c.args.text.now (sym w.starts_with.ensures.value ∙ w.if-not-starts_with.true)
      | then-text-ne21-via-else-text-ne21+else-not-starts_with+then-ne w ↦
          other_middle c.args.text.now (not-true _ (sym w.ne.ensures ∙ w.if-ne.true))
    ]

pub returns : goal.returns
returns c =
    c.arch_key.ensures ∙ ap₂ arch_key_of c.read_eight_digits.ensures c.read_eight_digits-2.ensures
    ∙ two_numbers c.args.text.now c.if-text-ne21.false
    (sym c.starts_with.ensures.value ∙ c.if-not-starts_with.false)
    (not-false _ (sym c.ne.ensures ∙ c.if-ne.false))
