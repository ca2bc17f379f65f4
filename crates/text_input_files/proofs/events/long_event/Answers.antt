use Rattle.std.proofs.Common.{◌≡◌, false, codes, refl, sym, ◌∙◌, ◌∷◌}
use Rattle.std.specs.Str.{bytes_eq}
use Rattle.std.proofs.lemmas.Bool.{not-true}
use Rattle.text_input_files.specs.Events.{act_at}
use Rattle.text_input_files.proofs.EventLemmas.{longer, other_word}
use Rattle.text_input_files.proofs.events.long_event.Goals as goal
use Rattle.text_input_files.proofs.events.long_event.Goals.{then-is_some-via-then-is_some, then-is_some-via-else-is_some+then-ne}

pub returns-then-is_some : goal.returns-then-is_some
returns-then-is_some c =
    elim c.then-is_some.branch [
      | then-is_some-via-then-is_some w ↦
          longer (λ fs. act_at c.args.word.now c.args.site (c.args.uuid.now ∷ fs)) c.args.text.now _ _ _ _ _
          c.cut_field.ensures c.in_ok-behind.was c.cut_field-2.ensures (sym c.is_some.ensures ∙ w.if-is_some.true)
          (λ f fs. refl)
      | then-is_some-via-else-is_some+then-ne w ↦
          let other : bytes_eq c.args.word.now (codes "retire") ≡ false = not-true _ (sym w.ne.ensures ∙ w.if-ne.true) in
          other_word (λ fs. act_at c.args.word.now c.args.site (c.args.uuid.now ∷ fs)) c.args.text.now _ _ _ _ _
          c.cut_field.ensures c.in_ok-behind.was c.cut_field-2.ensures (sym c.is_some.ensures ∙ w.if-is_some.false)
          (rw other refl)
    ]
