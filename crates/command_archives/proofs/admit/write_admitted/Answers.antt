use Rattle.std.proofs.Common.{Err, length, ◌≡◌, ℕ, List, ap, refl, inr, sym, ◌∙◌}
use Rattle.std.specs.Cmp.Lexicographic.{nat_list_cmp_total, slice_cmp}
use Rattle.std.specs.FinSet as set
use Rattle.std.specs.Ordering.{nat_cmp}
use Rattle.std.proofs.lemmas.List.{length-map}
use Rattle.archive_records.proofs.Blamed.{failed}
use Rattle.join_core.specs.Listing.{listing}
use Rattle.join_core.proofs.Listing.{listed}
use Rattle.archive_core.specs.Content.{Operations}
use Rattle.archive_core.proofs.Made.{bytes_same}
use Rattle.byte_device.proofs.Known.{Appends-none}
use Rattle.archive_merge.specs.Arrivals.{arrival_of}
use Rattle.command_common.specs.declared.faults.CommandFault.TheVariants.{OutOfMemory}
use Rattle.command_archives.proofs.Taking.{always}
use Rattle.command_archives.proofs.Joined.{told_published, told_stopped}
use Rattle.command_archives.proofs.admit.write_admitted.Goals as goal

-- what came, as the list of its records has it
same_set : (came : Operations) {rs : List (List ℕ)} → rs ≡ listing came → set.from_list {R = slice_cmp nat_cmp} rs ≡ came
same_set came is = ap (set.from_list {R = slice_cmp nat_cmp}) is ∙ sym (listed nat_list_cmp_total bytes_same came).same

pub merge_operations-requires-clause-ascending : goal.merge_operations-requires-clause-ascending
merge_operations-requires-clause-ascending g c = rw c.operations.ensures.listed (listed nat_list_cmp_total bytes_same c.args.arrivals.came).ascending

pub returns-in_err-sizes-clause-ends : goal.returns-in_err-sizes-clause-ends
returns-in_err-sizes-clause-ends g c = λ records are_first.
    let same = same_set c.args.arrivals.came c.operations.ensures.listed in
    rw (failed c.from_residual.result _ c.from_residual.ensures.1)
    (told_stopped _ _ _ _ _ _ (rw same at c.in_err-sizes.ensures.1) (rw same at c.in_err-sizes.ensures.2)
    c.in_err-sizes.ensures.0 (refl, refl) (Appends-none _, refl))

pub report_arrivals-requires-clause-told : goal.report_arrivals-requires-clause-told
report_arrivals-requires-clause-told g c =
    let told = rw (same_set c.args.arrivals.came c.operations.ensures.listed) at c.in_ok-sizes.ensures in
    ap length (c.deref.ensures.value ∙ told.arrivals_are) ∙ length-map (listing c.args.arrivals.came) (arrival_of told.joined.content)

pub returns-in_err-lines-clause-ends : goal.returns-in_err-lines-clause-ends
returns-in_err-lines-clause-ends g c = λ records are_first.
    let j = rw (same_set c.args.arrivals.came c.operations.ensures.listed) at c.in_ok-sizes.ensures in
    let whole = j.joined.written_is in
    rw (failed c.from_residual-in_err-lines.result _ c.from_residual-in_err-lines.ensures.1)
    (told_published _ _ _ _ _ _ _ j _ refl _ _ (Err OutOfMemory)
    (inr (whole.written, whole.unfailed), (refl, refl), (Appends-none _, refl)))

pub returns-clause-ends : goal.returns-clause-ends
returns-clause-ends g c = λ records are_first.
    let j = rw (same_set c.args.arrivals.came c.operations.ensures.listed) at c.in_ok-sizes.ensures in
    let whole = j.joined.written_is in
    told_published _ _ _ _ _ _ _ j _ (c.in_ok-lines.ensures.lines j.joined.content records are_first
    (c.deref.ensures.value ∙ j.arrivals_are)) _ _ c.publish_draft.result
    (c.publish_draft.ensures c.args.out.now.draft _ (whole.written, whole.unfailed) whole.bytes_are)

pub returns-clause-noted : goal.returns-clause-noted
returns-clause-noted g c =
    let j = rw (same_set c.args.arrivals.came c.operations.ensures.listed) at c.in_ok-sizes.ensures in
    always c.publish_draft.result (record {
      before = j.joined.content;
      is_content = j.joined.is_content;
      archive = j.joined.archive;
      added = c.in_ok-lines.ensures.noted j.joined.content (c.deref.ensures.value ∙ j.arrivals_are);
    })
