use Rattle.std.proofs.Common.{suc, sym, arith, inl, inr}
use Rattle.table_source_frames.specs.Inner.{step_view}
use Rattle.table_source_frames.proofs.StepGroupLemmas.{ended, not_yet_ended, read_more, read_no_more}
use Rattle.table_source_frames.proofs.steps.last_step.Goals as goal

pub steps-init : goal.steps-init
steps-init c = (0, read_no_more c.args.bytes.now c.args.address (step_view c.no_step-last.result) c.no_step-last.ensures)

pub steps-preserved : goal.steps-preserved
steps-preserved c = (
  suc c.steps.invariant.0,
  read_more c.args.bytes.now c.args.address c.steps.invariant.0 (step_view c.steps.last) (step_view c.in_ok-step.step) c.steps.rest.now
      c.in_ok-step.after.now c.steps.invariant.1 (sym c.in_ok-step.ensures.is) (omega (arith, c.if-step-address.false)),
)

pub returns-in_err-step-clause-none : goal.returns-in_err-step-clause-none
returns-in_err-step-clause-none c = rw c.from_residual.ensures (record {
  count = c.steps.invariant.0;
  step = step_view c.steps.last;
  rest = c.steps.rest.now;
  are = c.steps.invariant.1;
  some = not_yet_ended c.steps.rest.now c.is_empty.result c.is_empty.ensures c.steps-test.true;
  none = sym c.in_err-step.ensures.is;
})

pub returns-then-step-address-clause-found : goal.returns-then-step-address-clause-found
returns-then-step-address-clause-found c = record {
  count = c.steps.invariant.0;
  rest = c.steps.rest.now;
  are = c.steps.invariant.1;
  next = inr (
    (step_view c.in_ok-step.step, c.in_ok-step.after.now),
    sym c.in_ok-step.ensures.is,
    omega (arith, c.if-step-address.true),
  );
}

pub returns-clause-found : goal.returns-clause-found
returns-clause-found c = record {
  count = c.steps.invariant.0;
  rest = c.steps.rest.now;
  are = c.steps.invariant.1;
  next = inl (ended c.steps.rest.now c.is_empty.result c.is_empty.ensures c.steps-test.false);
}
