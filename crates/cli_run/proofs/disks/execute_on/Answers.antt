use Rattle.std.proofs.Common.{◌≡◌, length}
use Rattle.cli_files.specs.{LazyInputs.told_by, InputStates.AreLazyInputs}
use Rattle.cli_arguments.specs.{Inputs.inputs_view, Inputs.of_kind, declared.commands.Kind.Kind}
use Rattle.cli_run.proofs.LazyInputProofs.{are_lazy}
use Rattle.cli_run.proofs.disks.execute_on.Goals as goal

pub returns : goal.returns
returns g c = λ line is waiting. record {
  plan_is = is;
  waiting = waiting;
  as_many = c.execute_plan-ended.ensures.as_many;
  are_lazy = λ kind. are_lazy g.D.Disk g.D.Input.Source g.D.Places.Placed
      (of_kind kind (inputs_view c.execute_plan-ended.new.inputs));
  ended = c.execute_plan-ended.result;
  executes = c.execute_plan-ended.ensures.ends;
  notes_are = c.execute_plan-ended.ensures.noted;
  tells = c.with_opening_fault.ensures;
}
