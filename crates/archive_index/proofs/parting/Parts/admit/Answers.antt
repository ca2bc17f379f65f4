use Rattle.std.proofs.Common.{refl, ap, sym, ◌∙◌}
use Rattle.std.specs.FinSet.{contains, from_list}
use Rattle.archive_core.specs.declared.operations.Operation.TheVariants.{Admit}
use Rattle.archive_index.proofs.Parted.{admission_passed, admission_put}
use Rattle.archive_core.proofs.Entries.{covering_admission}
use Rattle.archive_index.proofs.parting.Parts.admit.Goals as goal

pub returns-then-covered : goal.returns-then-covered
returns-then-covered c old all rest parting =
    let tells = rw c.lend-borrowed.ensures at c.covers-covered.ensures.covers in
    admission_passed old all rest c.args.self.now.admissions.items c.args.self.now.retirements.items
    (from_list c.args.seen.now) (Admit c.args.slice) parting refl
    (ap (contains (from_list c.args.seen.now)) (covering_admission c.args.slice c.bytes-bytes.ensures.valid) ∙ sym tells ∙ c.if-covered.true)

pub returns : goal.returns
returns c old all rest parting =
    let tells = rw c.lend-borrowed.ensures at c.covers-covered.ensures.covers in
    rw (c.in_ok-push.ensures.items, c.keep.ensures)
    (admission_put old all rest c.args.self.now.admissions.items c.args.self.now.retirements.items
    (from_list c.args.seen.now) (Admit c.args.slice) parting refl c.bytes-bytes.ensures.valid
    (ap (contains (from_list c.args.seen.now)) (covering_admission c.args.slice c.bytes-bytes.ensures.valid) ∙ sym tells ∙ c.if-covered.false))
