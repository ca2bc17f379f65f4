use Rattle.std.proofs.Common.{◌∙◌, ◌+◌, ap, arith, drop, length, option_map, subst, sym}
use Rattle.std.proofs.lemmas.List.{length_push}
use Rattle.text_input_files.specs.Events.{act_of}
use Rattle.text_values.specs.Lines.{seen}
use Rattle.text_input_files.specs.Script.{IsErrorOf, acts, events_of}
use Rattle.text_input_files.proofs.ScriptSequels.{behind, no_event, one_more, too_many}
use Rattle.text_input_files.proofs.script_reading.read_events.Goals as goal

pub returns-in_default-clause-err : goal.returns-in_default-clause-err
returns-in_default-clause-err c =
    let none = sym (ap (option_map act_of) c.in_default.is) ∙ c.in_ok-event.ensures in
    subst (IsErrorOf (events_of 0 (seen c.args.lines.now))) (sym c.faulty.ensures)
    (no_event c.args.lines.now c.lines.line-index _ (acts c.lines.events.items) _ (omega arith) none c.lines.invariant.sequel)

pub returns-then-len-ge-MOST_EVENTS-clause-err : goal.returns-then-len-ge-MOST_EVENTS-clause-err
returns-then-len-ge-MOST_EVENTS-clause-err c =
    let means = sym (ap (option_map act_of) c.in-Some.is) ∙ c.in_ok-event.ensures in
    subst (IsErrorOf (events_of 0 (seen c.args.lines.now))) (sym c.faulty-then-len-ge-MOST_EVENTS.ensures)
    (too_many c.args.lines.now c.lines.line-index _ _ (acts c.lines.events.items) _ (omega arith) means
    (omega (arith, c.lines.events.ok.0)) c.lines.invariant.sequel)

pub lines-preserved : goal.lines-preserved
lines-preserved c =
    let i = c.lines.line-index in
    let means = sym (ap (option_map act_of) c.in-Some.is) ∙ c.in_ok-event.ensures in
    let items = c.in_ok-push.ensures.items in
    record {
      sequel =
          ap (λ es. behind (acts es) (events_of (i + 1) (drop (i + 1) (seen c.args.lines.now)))) items
          ∙ one_more c.args.lines.now i _ c.in-Some.event c.lines.events.items (omega arith) means (omega (arith, c.lines.events.ok.0))
          ∙ c.lines.invariant.sequel;
      number = omega (arith, ap length items, length_push c.lines.events.items c.in-Some.event);
      few = omega (arith, c.lines.events.ok.0);
    }
