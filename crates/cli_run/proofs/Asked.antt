-- A plan that writes no OUT, as any plan.
use Rattle.std.proofs.Common.{◌≡◌, Result}
use Rattle.command_common.specs.{Inputs.Reader, Outputs.Outs, Outputs.Writer}
use Rattle.command_common.specs.declared.faults.{CommandFault.CommandFault, Status.Status}
use Rattle.cli_arguments.specs.{Inputs.Inputs, declared.plan.Plan.Plan}
use Rattle.cli_arguments.specs.declared.plan.Plan.TheVariants as plan
use Rattle.byte_lazy_inputs.specs.declared.openings.Opening.{Opening}
use Rattle.cli_run.specs.Plans.{Answers, Deed, EndsAsked, EndsDeed, Executes, answers, asked_of}

kept : {D T : Type 0} (deed : Deed) (out : Outs D T) (report : Writer) (r : Result Status CommandFault)
    → EndsAsked deed report r → out.new ≡ out.old → EndsDeed deed out report r
kept (answers query) out report r ends same = (ends, same)
kept deed out report r ends same = absurd ends

-- it ends as it is answered, and OUT is as it was
pub answered : {S D T : Type 0} (opening : S → Opening) (asked : Plan) (inputs places : Inputs (Reader S)) (out : Outs D T) (report : Writer)
    (r : Result Status CommandFault) → Answers asked inputs places report r → out.new ≡ out.old
    → Executes opening asked inputs places out report r
answered opening (plan.Find uuid) inputs places out report r ends same = (ends, same)
answered opening plan.List inputs places out report r ends same =
    kept (asked_of plan.List inputs places) out report r ends same
answered opening (plan.Name sought) inputs places out report r ends same =
    kept (asked_of (plan.Name sought) inputs places) out report r ends same
answered opening (plan.Symbolicate key load lines slices addresses) inputs places out report r ends same = (ends, same)
answered opening (plan.Frames lines slices) inputs places out report r ends same =
    kept (asked_of (plan.Frames lines slices) inputs places) out report r ends same
answered opening plan.Rehearse inputs places out report r ends same =
    kept (asked_of plan.Rehearse inputs places) out report r ends same
answered opening asked inputs places out report r ends same = absurd ends
