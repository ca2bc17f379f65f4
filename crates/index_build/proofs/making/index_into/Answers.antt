use Rattle.std.proofs.Common.{◌≡◌, ◌∙◌, ◌++◌, ℕ, List, Option, None, Some, ap, arith, inr, length, map, refl, subst, take}
use Rattle.std.specs.Prelude.{IfSome}
use Rattle.std.specs.List.{concat}
use Rattle.byte_device.specs.Writes.{IsPut, StopsPut}
use Rattle.table_checked_pages.specs.Pages.{stored}
use Rattle.archive_records.specs.Kind.{old_magic}
use Rattle.archive_records.specs.Reading.{IsOfMachine}
use Rattle.archive_records.specs.declared.fault.RecordFaultKind.TheVariants.{OutOfMemory}
use Rattle.archive_records.proofs.Blamed.{failed}
use Rattle.archive_records.proofs.FaultKinds.{memory_blames}
use Rattle.index_format.specs.Entry.{entry_bytes}
use Rattle.index_format.specs.Text.{end_of}
use Rattle.index_format.specs.declared.fault.IndexingFault.TheVariants.{Archive as Archive_fault}
use Rattle.index_build.specs.declared.fault.MakingFault.TheVariants.{Archive as Refused}
use Rattle.index_build.proofs.Grown.{memory_stopped}
use Rattle.index_build.proofs.Made.{long_is, made, stopped, stopped_behind}
use Rattle.index_build.proofs.making.index_into.Goals as goal

-- no version is told where memory ran out
untold : (left : Option (List ℕ)) → IfSome left (λ text. take 8 text ≡ old_magic → IsOfMachine OutOfMemory)
untold None = tt
untold (Some text) = λ old. inr refl

pub returns-in_err-entries : goal.returns-in_err-entries
returns-in_err-entries g c =
    rw (failed c.from_residual.result c.in_err-entries.field-0.0 c.from_residual.ensures.1)
    (stopped c.one_slice_table.ensures g.R.Source.left g.R.Source.failures g.W.Sink.held g.W.Sink.failures c.args.r.now
    c.put_front.new.r c.args.w.now c.put_front.new.w c.in_err-entries.field-0.0 c.in_err-entries.ensures.stopped
    c.in_err-entries.ensures.blames c.in_err-entries.ensures.version)

pub ending-requires : goal.ending-requires
ending-requires g c =
    let all = c.in_ok-entries.ensures.all in
    let is = ap (map entry_bytes) c.deref.ensures.value ∙ c.sorted-entries.ensures in
    let long = long_is c.one_slice_table.ensures g.R.Source.left g.R.Source.failures g.W.Sink.held g.W.Sink.failures
    c.args.r.now c.put_front.new.r c.args.w.now c.put_front.new.w c.put_front.new.w c.in_ok-entries.entries.items
    c.deref.result.now all.0 c.in_ok-entries.done all.2 c.in_ok-entries.ensures.at_end c.in_ok-entries.ensures.unfailed is in
    omega (arith, long, all.1)

pub returns-in_default : goal.returns-in_default
returns-in_default g c =
    let all = c.in_ok-entries.ensures.all in
    rw (c.refused.ensures, c.out_of_memory.ensures, c.in_ok-entries.ensures.all.1)
    (stopped c.one_slice_table.ensures g.R.Source.left g.R.Source.failures g.W.Sink.held g.W.Sink.failures c.args.r.now
    c.put_front.new.r c.args.w.now c.put_front.new.w
    (Refused (Archive_fault (record { kind = OutOfMemory; offset = all.0.offset })))
    (memory_stopped (g.R.Source.left c.args.r.now) (g.R.Source.left c.put_front.new.r) g.W.Sink.held g.W.Sink.failures
    c.args.w.now c.put_front.new.w c.in_ok-entries.entries.items all.0 c.in_ok-entries.done all.2)
    (memory_blames g.R.Source.left g.R.Source.failures c.args.r.now c.put_front.new.r c.in_ok-entries.ensures.unfailed)
    (untold (g.R.Source.left c.args.r.now)))

pub returns-in-Ok-put : goal.returns-in-Ok-put
returns-in-Ok-put g c =
    let all = c.in_ok-entries.ensures.all in
    let es : List (List ℕ) = map entry_bytes c.deref.result.now in
    let rest : c.deref-2.result.now ≡ stored (concat es) ++ end_of es = c.deref-2.ensures.value ∙ c.in-Ok.ensures in
    made c.one_slice_table.ensures g.R.Source.left g.R.Source.failures g.W.Sink.held g.W.Sink.failures c.args.r.now
    c.put_front.new.r c.args.w.now c.put.new.w c.put_front.new.w c.in_ok-entries.entries.items
    c.deref.result.now all.0 c.in_ok-entries.done all.2 c.in_ok-entries.ensures.at_end c.in_ok-entries.ensures.unfailed
    (ap (map entry_bytes) c.deref.ensures.value ∙ c.sorted-entries.ensures) _
    (subst (λ (t : List ℕ). IsPut g.W.Sink.held g.W.Sink.failures c.put_front.new.w c.put.new.w c.in_ok-entries.done t
    c.in-Ok-put.bytes) rest c.in-Ok-put.ensures)
    (omega (arith, c.len.ensures, ap length c.deref.ensures.value))

pub returns : goal.returns
returns g c =
    let all = c.in_ok-entries.ensures.all in
    let es : List (List ℕ) = map entry_bytes c.deref.result.now in
    let rest : c.deref-2.result.now ≡ stored (concat es) ++ end_of es = c.deref-2.ensures.value ∙ c.in-Ok.ensures in
    stopped_behind c.one_slice_table.ensures g.R.Source.left g.R.Source.failures g.W.Sink.held g.W.Sink.failures
    c.args.r.now c.put_front.new.r c.args.w.now c.put.new.w c.put_front.new.w c.in_ok-entries.entries.items
    c.deref.result.now all.0 c.in_ok-entries.done all.2 c.in_ok-entries.ensures.at_end c.in_ok-entries.ensures.unfailed
    (ap (map entry_bytes) c.deref.ensures.value ∙ c.sorted-entries.ensures) c.in-Err.fault
    (subst (λ (t : List ℕ). StopsPut g.W.Sink.held g.W.Sink.failures c.put_front.new.w c.put.new.w c.in_ok-entries.done t
    c.in-Err.fault.written) rest c.in-Err.ensures)
