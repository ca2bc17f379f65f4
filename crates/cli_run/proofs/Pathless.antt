-- An output that has no path.
use Rattle.std.proofs.Common.{◌≡◌, List, [], None, Result, Err, refl, sym, ap, subst, inl, inr}
use Rattle.std.proofs.KnownBytes.{Appends-nil}
use Rattle.std.specs.Io.KnownBytes.{Appends}
use Rattle.cli_arguments.specs.Lines.{Line}
use Rattle.command_common.specs.declared.notes.Note.{Note}
use Rattle.byte_device.specs.declared.targets.Output.{Output as Out}
use Rattle.command_common.specs.declared.failures.Failure.{Failure}
use Rattle.command_common.specs.declared.faults.{CommandFault.CommandFault, Status.Status}
use Rattle.command_common.specs.declared.faults.CommandFault.TheVariants.{Input, Output, OutOfMemory}
use Rattle.command_common.specs.Outputs.{IsKept, Outs, Writer, out_of as known_of}
use Rattle.cli_run.specs.Files.{Calls, IsCarriedOut, IsNotPut, IsOutcome, IsPut, outs_in}
use Rattle.cli_run.proofs.OutPublished.{called_nowhere}

-- an output that is as it was is kept
kept_same : {D T : Type 0} (out : Outs D T) → out.new ≡ out.old → IsKept (known_of out)
kept_same {D = D} {T = T} out same = (
  (
    subst (λ (o : Out D T). Appends (out.held out.old.draft) (out.held o.draft) []) (sym same) (Appends-nil (out.held out.old.draft)),
    ap (λ (o : Out D T). out.draft_failures o.draft) same,
  ),
  (ap (λ (o : Out D T). out.published o.target) same, ap (λ (o : Out D T). out.failures o.target) same),
)

module _ {S D T : Type 0} (calls : Calls S D T) (line : Line) (report : Writer) (told : Result Status Failure)
    (notes : List Note) (is : IsCarriedOut calls line report told notes) (none : is.path ≡ None) where
  abbrev out : Outs D T
  out = outs_in calls is.begun is.done

  put : IsPut out → calls.called ≡ []
  put (inl there) = cc (none, (is.published there.0 there.1).1)
  put (inr same) = is.untouched (kept_same out same)

  not_put : (r : Result Status CommandFault) → is.ended ≡ r → IsNotPut out r → calls.called ≡ []
  not_put r same not = called_nowhere is.replaces is.path calls.called none (is.removed (subst (IsNotPut out) (sym same) not)).0

  by_end : (r : Result Status CommandFault) → is.ended ≡ r → IsOutcome out r → calls.called ≡ []
  by_end (Err (Input at why)) same o = not_put (Err (Input at why)) same o
  by_end (Err (Output n)) same o = not_put (Err (Output n)) same o
  by_end (Err OutOfMemory) same o = not_put (Err OutOfMemory) same o
  by_end r same o = put o

  pub nothing_called : calls.called ≡ []
  nothing_called = by_end is.ended refl is.outcome
