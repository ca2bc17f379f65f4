-- What is put in OUT's place in a command, however it ends.
use Rattle.std.proofs.Common.{◌≡◌, ℕ, List, [], length, take, Option, Some, None, Result, Ok, Err, refl, ap, sym, subst, inl, inr, arith, length-take-le}
use Rattle.std.proofs.KnownBytes.{Appends-nil}
use Rattle.std.specs.FinSet as set
use Rattle.std.specs.Io.KnownBytes.{Appends}
use Rattle.cli_arguments.specs.{Inputs.Inputs, Lines.Line}
use Rattle.archive_records.specs.Text.{written}
use Rattle.command_common.specs.declared.faults.{CommandFault.CommandFault, InputName.InputName, Status.Status, Why.Why}
use Rattle.command_common.specs.declared.faults.CommandFault.TheVariants.{Input, Output, Report, OutOfMemory}
use Rattle.byte_device.specs.declared.targets.Output.{Output as Out}
use Rattle.command_common.specs.declared.faults.Why.TheVariants.{CannotOpen as NotOpened}
use Rattle.command_common.specs.{Ends.Command, Ends.Ends, Ends.EndsStreamed, Ends.Query, Ends.Streamed}
use Rattle.command_common.specs.Outputs.{FailsAt, IsKept, Outs, Publishes, Writer, out_of, report_of}
use Rattle.command_common.specs.declared.faults.Status.TheVariants.{Done}
use Rattle.command_archives.specs.PassedOver.{EndsPassing, Passing}
use Rattle.cli_files.specs.{InputStates.Told, InputStates.opening_told, declared.input_state.Unopened.Unopened}
use Rattle.command_common.specs.declared.notes.Note.{Note}
use Rattle.cli_files.specs.declared.input_state.Unopened.TheVariants as unopened
use Rattle.cli_run.specs.Disks.{Carried}
use Rattle.cli_standard_error.specs.Names.{input_at}
use Rattle.cli_run.specs.Unopened.{ReportsUnopened, fault_at, unopened_of}
use Rattle.cli_run.specs.Plans.{Deed, EndsDeed, EndsQuery, answers, changes, deed_of, empties, extracts, none, passes, readers_by, streams}
use Rattle.cli_run.specs.Files.{IsNotPut, IsOutcome}
use Rattle.cli_arguments.specs.declared.plan.Plan.{Plan}
use Rattle.command_extract.specs.Extract.{Extraction, Extracts, LacksSlice}

-- if OUT failed, this is told of it
abbrev pub Counts : Result Status CommandFault → ℕ → Type 0
Counts r k = (n : ℕ) → r ≡ Err (Output n) → n ≡ k

-- nothing is in place, and the draft took these bytes
not_put : {D T : Type 0} (out : Outs D T) (r : Result Status CommandFault) (bytes : List ℕ)
    → Appends (out.held out.old.draft) (out.held out.new.draft) bytes
    → out.published out.new.target ≡ out.published out.old.target → Counts r (length bytes) → IsNotPut out r
not_put out r bytes took kept count = record { bytes = bytes; took = took; kept = kept; count = count }

-- or none
kept_out : {D T : Type 0} (out : Outs D T) (r : Result Status CommandFault) → IsKept (out_of out) → Counts r 0 → IsNotPut out r
kept_out out r kept count = not_put out r [] kept.0.0 kept.1.0 count

-- ---- what is published

failed : {D T : Type 0} (out : Outs D T) (text : List ℕ) (m : ℕ) → FailsAt (out_of out) text m → IsNotPut out (Err (Output m))
failed out text m (inl f) =
    let first = f.0.0 in
    let lt = first.within in
    let count : m ≡ length (take m text) = sym (length-take-le m text (omega (arith, lt))) in
    not_put out (Err (Output m)) (take m text) first.gained f.1.0 (λ n h. cc)
failed out text m (inr f) =
    not_put out (Err (Output m)) text f.1.took.0 f.1.kept (λ n h. cc f.0)

published : {D T : Type 0} (out : Outs D T) (report : Writer) (text told : List ℕ) (r : Result Status CommandFault)
    → Publishes (out_of out) report text told r → IsOutcome out r
published out report text told (Ok status) p = inl (text, p.1)
published out report text told (Err (Input at why)) p = absurd p
published out report text told (Err (Output m)) p = failed out text m p.0
published out report text told (Err (Report m)) p = inl (text, p.0)
published out report text told (Err OutOfMemory) p = elim p.0 [
  | inl kept ↦ not_put out (Err OutOfMemory) [] kept.0 p.1.0 (λ n h. cc)
  | inr whole ↦ not_put out (Err OutOfMemory) text whole.0 p.1.0 (λ n h. cc)
]

ended : {D T : Type 0} (command : Command) (out : Outs D T) (report : Writer) (r : Result Status CommandFault)
    → Ends command (out_of out) report r → IsOutcome out r
ended command out report (Ok status) e = published out report e.1.text e.1.told (Ok status) e.1.published
ended command out report (Err (Input at why)) e = kept_out out (Err (Input at why)) e.1 (λ n h. cc)
ended command out report (Err (Output m)) e = published out report e.1.text e.1.told (Err (Output m)) e.1.published
ended command out report (Err (Report m)) e = published out report e.1.text e.1.told (Err (Report m)) e.1.published
ended command out report (Err OutOfMemory) e = elim e.1 [
  | inl kept ↦ kept_out out (Err OutOfMemory) kept.0 (λ n h. cc)
  | inr c ↦ published out report c.text c.told (Err OutOfMemory) c.published
]

-- ---- what only reports

unchanged : {D T : Type 0} (out : Outs D T) (r : Result Status CommandFault) → out.new ≡ out.old → Counts r 0
    → IsNotPut out r
unchanged {D = D} {T = T} out r same count =
    not_put out r [] (subst (λ (o : Out D T). Appends (out.held out.old.draft) (out.held o.draft) []) (sym same)
    (Appends-nil (out.held out.old.draft))) (ap (λ o. out.published o.target) same) count

queried : {D T : Type 0} (query : Query) (out : Outs D T) (report : Writer) (r : Result Status CommandFault)
    → EndsQuery query out report r → IsOutcome out r
queried query out report (Err (Input at why)) e = unchanged out (Err (Input at why)) e.1 (λ n h. cc)
queried query out report (Err (Output m)) e = absurd e.0
queried query out report (Err OutOfMemory) e = unchanged out (Err OutOfMemory) e.1 (λ n h. cc)
queried query out report r e = inr e.1

-- ---- what is written as it is read

streamed : {D T : Type 0} (command : Streamed) (out : Outs D T) (report : Writer) (r : Result Status CommandFault)
    → EndsStreamed command (out_of out) report r → IsOutcome out r
streamed command out report (Ok status) e = published out report e.1.text e.1.told (Ok status) e.1.published
streamed command out report (Err (Input at why)) e =
    not_put out (Err (Input at why)) e.bytes e.took e.nothing_published.0 (λ n h. cc)
streamed command out report (Err (Output n)) e = elim e [
  | inl s ↦ not_put out (Err (Output n)) s.bytes s.took s.nothing_published.0 (λ m h. cc (s.count n refl))
  | inr c ↦ published out report c.1.text c.1.told (Err (Output n)) c.1.published
]
streamed command out report (Err (Report n)) e = published out report e.1.text e.1.told (Err (Report n)) e.1.published
streamed command out report (Err OutOfMemory) e = elim e [
  | inl s ↦ not_put out (Err OutOfMemory) s.bytes s.took s.nothing_published.0 (λ n h. cc)
  | inr c ↦ published out report c.1.text c.1.told (Err OutOfMemory) c.1.published
]

-- ---- what passes over inputs

passing : {D T : Type 0} (command : Passing) (out : Outs D T) (report : Writer) (r : Result Status CommandFault)
    → EndsPassing command (out_of out) report r → IsOutcome out r
passing command out report (Ok status) e = published out report e.1.text e.1.told (Ok Done) e.1.published
passing command out report (Err fault) e = streamed command.streamed out report (Err fault) e

-- ---- what is extracted

lacking : {D T : Type 0} (command : Extraction) (out : Outs D T) (report : Writer) (r : Result Status CommandFault)
    → LacksSlice command out report r → IsOutcome out r
lacking command out report (Ok status) e = inr e.kept
lacking command out report (Err (Report m)) e = inr e.kept
lacking command out report r e = absurd e.reported

extracted : {D T : Type 0} (command : Extraction) (out : Outs D T) (report : Writer) (r : Result Status CommandFault)
    → Extracts command out report r → IsOutcome out r
extracted command out report r (inl written) = streamed command.writes out report r written
extracted command out report r (inr lacks) = lacking command out report r lacks

-- ---- every plan

done : {D T : Type 0} (deed : Deed) (out : Outs D T) (report : Writer) (r : Result Status CommandFault)
    → EndsDeed deed out report r → IsOutcome out r
done empties out report r e = published out report (written set.empty) (report_of set.empty []) r e
done (changes command) out report r e = ended command out report r e
done (streams command) out report r e = streamed command out report r e
done (passes command) out report r e = passing command out report r e
done (extracts command) out report r e = extracted command out report r e
done (answers query) out report r e = queried query out report r e
done none out report r e = absurd e

-- and what is told of it
module _ {S D T : Type 0} (told : Told S) (behind : Inputs S) (out : Outs D T) where
  by_fault : (u : Option Unopened) (name : InputName) (why : Why) → IsNotPut out (Err (Input name why))
      → IsOutcome out (Err (fault_at u name why))
  by_fault None name why o = o
  by_fault (Some (unopened.Refused refused)) name why o =
      not_put out (Err (Input name NotOpened)) o.bytes o.took o.kept (λ n h. cc)
  by_fault (Some unopened.OutOfMemory) name why o =
      not_put out (Err OutOfMemory) o.bytes o.took o.kept (λ n h. cc)

  told_outcome : (ended result : Result Status CommandFault) → ReportsUnopened told behind ended result → IsOutcome out ended
      → IsOutcome out result
  told_outcome (Err (Input name why)) result tells o =
      subst (IsOutcome out) (sym tells)
      (by_fault (unopened_of told (input_at behind name)) name why o)
  told_outcome ended result tells o = subst (IsOutcome out) (sym tells) o

pub carried_outcome : {S D T : Type 0} {told : Told S} {line : Line} {plan : Plan} {before behind : Inputs S}
    {out : Outs D T} {report : Writer} {r : Result Status CommandFault} {notes noted : List Note}
    → Carried told line plan before behind out report r notes noted
    → IsOutcome out r
carried_outcome {told = told} {plan = plan} {before = before} {behind = behind} {out = out} {report = report} {r = r} c =
    told_outcome told behind out c.ended r c.tells
    (done (deed_of (opening_told told) plan (readers_by told.left told.failures before behind)
    (readers_by told.whole told.failures before behind) out) out report c.ended c.executes)
