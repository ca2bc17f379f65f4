use Rattle.std.proofs.Common.{◌≡◌, ◌∙◌, List, Option, Some, None, IsSome, ap, inl, inr, is_some, map, option_map, refl, subst, sym, true≢false}
use Rattle.std.specs.Prelude.{option_and_then}
use Rattle.clap.specs.Words.{Row, Text, found_of, rows_of}
use Rattle.clap.proofs.WalkLemmas.{both}
use Rattle.cli_arguments.specs.{LineView.line_view, Lines.line_in, Lines.named_command}
use Rattle.cli_arguments.specs.declared.line_faults.LineFault.{LineFault, TheVariants.OutOfMemory}
use Rattle.cli_arguments.specs.LineFaults.{IsRefusedBy, refusal_of}
use Rattle.cli_arguments.proofs.{Exactly.accepted_if_faultless, Accepted.accepted_line}
use Rattle.cli_arguments.proofs.LineFaultLemmas.{handed_on, in_told, memory_told, out_told, refused_by}
use Rattle.cli_arguments.proofs.KeptInputs.{in_order_apart, in_order_of, keeps_inputs, kept_line}
use Rattle.cli_arguments.proofs.parsing.parse_command_line.Goals as goal

-- a line that asks for something names a command
unnamed : {A : Type 0} (o : Option A) (f : A → Text × List Row) (named : Option (Text × List Row))
    → option_map f o ≡ named → ((x : A) → o ≡ Some x → ⊥) → IsSome (option_and_then line_in named) → ⊥
unnamed None f named is none some = true≢false (sym (ap (λ n. is_some (option_and_then line_in n)) is ∙ some))
unnamed (Some x) f named is none some = none x refl

nothing_named : {A : Type 0} (o : Option A) (f : A → Text × List Row) (named : Option (Text × List Row))
    (fault : LineFault) → option_map f o ≡ named → ((x : A) → o ≡ Some x → ⊥) → IsRefusedBy (refusal_of None) fault
    → IsRefusedBy (refusal_of named) fault
nothing_named None f named fault is none told = subst (λ n. IsRefusedBy (refusal_of n) fault) is told
nothing_named (Some x) f named fault is none told = absurd (none x refl)

pub returns-clause-ok : goal.returns-clause-ok
returns-clause-ok g c =
    let named = c.in-Some.ensures ∙ c.in_ok-matches.ensures.ok in
    kept_line _ _ (c.in_ok-line.ensures.reads.ok ∙ ap (option_and_then line_in) named) c.in_ok-check_out.ensures.ok

pub returns-clause-in_order : goal.returns-clause-in_order
returns-clause-in_order g c =
    let named = c.in-Some.ensures ∙ c.in_ok-matches.ensures.ok in
    in_order_of (named_command (map g.S.AsStr.text c.args.words.now)) _
    (c.in_ok-line.ensures.reads.ok ∙ ap (option_and_then line_in) named) c.in_ok-check_out.ensures.ok

pub returns-clause-keeps_inputs : goal.returns-clause-keeps_inputs
returns-clause-keeps_inputs g c = keeps_inputs (line_view c.in_ok-line.line) c.in_ok-check_out.ensures.ok

pub returns-in_err-line-clause-err : goal.returns-in_err-line-clause-err
returns-in_err-line-clause-err g c = λ accepted ordered.
    let named = c.in-Some.ensures ∙ c.in_ok-matches.ensures.ok in
    let fault = c.in_err-line.ensures.reads.err (subst (λ o. IsSome (option_and_then line_in o)) (sym named)
    (accepted_line (map g.S.AsStr.text c.args.words.now) accepted (both _ _ ordered).0)) in
    handed_on (λ e. e ≡ OutOfMemory) _ _ c.from_residual-in_err-line.ensures.1 fault

pub returns-in_err-check_out-clause-err : goal.returns-in_err-check_out-clause-err
returns-in_err-check_out-clause-err g c = λ accepted ordered.
    let named = c.in-Some.ensures ∙ c.in_ok-matches.ensures.ok in
    let apart = in_order_apart _ _ (c.in_ok-line.ensures.reads.ok ∙ ap (option_and_then line_in) named)
    (both _ _ ordered).1 in
    handed_on (λ e. e ≡ OutOfMemory) _ _ c.from_residual-in_err-check_out.ensures.1
    (elim c.in_err-check_out.ensures.err [ inl is ↦ is | inr among ↦ absurd (true≢false (sym among ∙ apart)) ])

pub returns-in_default-clause-err : goal.returns-in_default-clause-err
returns-in_default-clause-err g c = λ accepted ordered.
    absurd (unnamed c.named_command.result (λ p. (p.0.now, rows_of (found_of p.1.now))) _
    (c.named_command.ensures ∙ c.in_ok-matches.ensures.ok) c.in_default.not-Some
    (accepted_line (map g.S.AsStr.text c.args.words.now) accepted (both _ _ ordered).0))

pub returns-in_err-matches-clause-told : goal.returns-in_err-matches-clause-told
returns-in_err-matches-clause-told g c = λ faultless.
    let words = map g.S.AsStr.text c.args.words.now in
    let told = refusal_of (named_command words) in
    handed_on (IsRefusedBy told) _ _ c.from_residual.ensures.1
    (memory_told told _ (c.in_err-matches.ensures.err (accepted_if_faultless words faultless)))

pub returns-in_err-line-clause-told : goal.returns-in_err-line-clause-told
returns-in_err-line-clause-told g c = λ _.
    let named = c.in-Some.ensures ∙ c.in_ok-matches.ensures.ok in
    handed_on (IsRefusedBy (refusal_of (named_command (map g.S.AsStr.text c.args.words.now)))) _ _
    c.from_residual-in_err-line.ensures.1
    (rw (← named) (in_told (c.in-Some.name.now, rows_of (found_of c.in-Some.inner.now)) _ c.in_err-line.ensures.told))

pub returns-in_err-check_out-clause-told : goal.returns-in_err-check_out-clause-told
returns-in_err-check_out-clause-told g c = λ _.
    let named = c.in-Some.ensures ∙ c.in_ok-matches.ensures.ok in
    handed_on (IsRefusedBy (refusal_of (named_command (map g.S.AsStr.text c.args.words.now)))) _ _
    c.from_residual-in_err-check_out.ensures.1
    (rw (← named) (out_told (c.in-Some.name.now, rows_of (found_of c.in-Some.inner.now)) _ _
    c.in_ok-line.ensures.reads.ok c.in_err-check_out.ensures.told))

pub returns-in_default-clause-told : goal.returns-in_default-clause-told
returns-in_default-clause-told g c = λ _.
    nothing_named c.named_command.result (λ p. (p.0.now, rows_of (found_of p.1.now))) _ _
    (c.named_command.ensures ∙ c.in_ok-matches.ensures.ok) c.in_default.not-Some
    (refused_by _ _ _ c.from_str.ensures.ok c.refused.ensures.text)
