use Rattle.std.proofs.Common.{refl}
use Rattle.std.proofs.lemmas.Result.{err_from_is_err_and}
use Rattle.byte_device.proofs.Known.{Appends-none}
use Rattle.command_extract.proofs.Extracted.{lacking_so, refused_so}
use Rattle.command_extract.proofs.extract.run_extract.Goals as goal

pub returns-in_err-chosen-clause-ends : goal.returns-in_err-chosen-clause-ends
returns-in_err-chosen-clause-ends g c =
    let p = err_from_is_err_and c.from_residual.result c.from_residual.ensures.1 in
    rw (p.1, p.2) (refused_so (g.E.SliceEvidence.extraction c.args.evidence.now c.choose.new.self c.args.key.now c.args.digest.now)
    _ _ c.in_err-chosen.field-0.0 c.in_err-chosen.ensures.chooses refl (Appends-none _, refl))

pub publish_chosen-requires : goal.publish_chosen-requires
publish_chosen-requires g c =
    let found = rw c.in-One.is at c.in_ok-chosen.ensures.chooses.is in
    (c.args.evidence.now, c.args.digest.now, found)

pub returns-in-One-clause-ends : goal.returns-in-One-clause-ends
returns-in-One-clause-ends g c =
    let found = rw c.in-One.is at c.in_ok-chosen.ensures.chooses.is in
    c.publish_chosen.ensures.ends c.args.evidence.now c.args.digest.now found c.in_ok-chosen.ensures.chooses.unfailed

pub returns-in-Undecided-clause-ends : goal.returns-in-Undecided-clause-ends
returns-in-Undecided-clause-ends g c =
    let lacks = rw c.in-Undecided.is at c.in_ok-chosen.ensures.chooses.is in
    let told = rw c.deref.ensures.value at c.report_rows.ensures in
    lacking_so (g.E.SliceEvidence.extraction c.args.evidence.now c.choose.new.self c.args.key.now c.args.digest.now) _ _
    c.in-Undecided.rows.items c.report_rows.result lacks c.in_ok-chosen.ensures.chooses.unfailed refl told
