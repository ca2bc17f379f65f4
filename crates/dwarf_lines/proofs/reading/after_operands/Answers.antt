use Rattle.std.proofs.Common.{◌≡◌, ◌+◌, ◌-◌, arith, ap, sym, ◌∙◌, ℕ, List}
use Rattle.std.specs.Option.{option_and_then}
use Rattle.dwarf_lines.specs.Instructions.{after_operands}
use Rattle.dwarf_lines.proofs.ShorterLemmas.{operands_more, operands_none}
use Rattle.dwarf_lines.proofs.reading.after_operands.Goals as goal

pub returns-in_default : goal.returns-in_default
returns-in_default c =
    let more = operands_more (c.args.count - c.loop-done.done) c.loop-done.rest.now (omega arith) in
    let gone = ap (option_and_then (λ (x : ℕ × List ℕ). after_operands (c.args.count - c.loop-done.done - 1) x.1)) c.in_default.ensures in
    gone ∙ sym more ∙ c.loop-done.invariant

pub loop-done-preserved : goal.loop-done-preserved
loop-done-preserved c =
    let more = operands_more (c.args.count - c.loop-done.done) c.loop-done.rest.now (omega arith) in
    let less : c.args.count - (c.loop-done.done + 1) ≡ c.args.count - c.loop-done.done - 1 = omega arith in
    let gone = ap (option_and_then (λ (x : ℕ × List ℕ). after_operands (c.args.count - c.loop-done.done - 1) x.1)) c.in-Some.ensures in
    ap (λ n. after_operands n c.in-Some.after.now) less ∙ gone ∙ sym more ∙ c.loop-done.invariant

pub returns : goal.returns
returns c =
    let none : c.args.count - c.loop-done.done ≡ 0 = omega arith in
    sym (sym c.loop-done.invariant ∙ ap (λ n. after_operands n c.loop-done.rest.now) none ∙ operands_none c.loop-done.rest.now)
