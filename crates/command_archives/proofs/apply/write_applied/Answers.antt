use Rattle.std.proofs.Common.{Err, ◌-◌, ℕ, ap, inr, arith, map, refl, ◌∙◌}
use Rattle.std.specs.List.{count_by}
use Rattle.archive_records.proofs.Blamed.{failed}
use Rattle.archive_core.specs.Record.{record_bytes}
use Rattle.byte_device.proofs.Known.{Appends-none}
use Rattle.archive_merge.specs.Arrivals.{is_new, arrival_of}
use Rattle.archive_merge.proofs.Lost.{count_new}
use Rattle.text_reports.specs.Report.{apply_line}
use Rattle.command_common.specs.declared.faults.CommandFault.TheVariants.{OutOfMemory}
use Rattle.command_archives.proofs.Joined.{listed_in_order, told_published, told_stopped}
use Rattle.command_archives.proofs.apply.write_applied.Goals as goal

pub returns-in_err-sizes : goal.returns-in_err-sizes
returns-in_err-sizes g c =
    rw (failed c.from_residual.result _ c.from_residual.ensures.1)
    (told_stopped _ _ _ _ _ _ c.in_err-sizes.ensures.1 c.in_err-sizes.ensures.2 c.in_err-sizes.ensures.0
    (refl, refl) (Appends-none _, refl))

pub overflow_sub-number : goal.overflow_sub-number
overflow_sub-number g c =
    let operations = c.args.operations.now in
    let j = c.in_ok-sizes.ensures in
    let o = j.joined.content in
    let counted = c.number_of_new-new.ensures.counted ∙ ap (count_by is_new)
    (c.deref.ensures.value ∙ j.arrivals_are ∙ ap (map (arrival_of o))
    (listed_in_order operations c.requires.ascending)) ∙ count_new o (map record_bytes operations) in
    let few = c.requires.few o j.joined.is_content.itself in
    omega (arith, counted, few)

pub returns-in_err-lines : goal.returns-in_err-lines
returns-in_err-lines g c =
    let j = c.in_ok-sizes.ensures in
    let whole = j.joined.written_is in
    rw (failed c.from_residual-in_err-lines.result _ c.from_residual-in_err-lines.ensures.1)
    (told_published _ _ _ _ _ _ _ j _ refl _ _ (Err OutOfMemory)
    (inr (whole.written, whole.unfailed), (refl, refl), (Appends-none _, refl)))

pub returns : goal.returns
returns g c =
    let operations = c.args.operations.now in
    let j = c.in_ok-sizes.ensures in
    let o = j.joined.content in
    let whole = j.joined.written_is in
    let counted = c.number_of_new-new.ensures.counted ∙ ap (count_by is_new)
    (c.deref.ensures.value ∙ j.arrivals_are ∙ ap (map (arrival_of o))
    (listed_in_order operations c.requires.ascending)) ∙ count_new o (map record_bytes operations) in
    told_published _ _ _ _ _ _ _ j _ (c.in_ok-lines.ensures ∙ ap (λ (n : ℕ). apply_line n (c.args.number - n)) counted) _ _ c.publish_draft.result
    (c.publish_draft.ensures c.args.out.now.draft _ (whole.written, whole.unfailed) whole.bytes_are)
