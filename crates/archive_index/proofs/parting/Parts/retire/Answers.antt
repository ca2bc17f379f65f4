use Rattle.std.proofs.Common.{◌≡◌, true, refl, ap, sym, ◌∙◌}
use Rattle.std.proofs.lemmas.Bool.{not-false}
use Rattle.std.specs.FinSet as set
use Rattle.std.specs.FinSet.{contains, from_list}
use Rattle.archive_core.specs.Record.{record_bytes}
use Rattle.archive_core.specs.declared.operations.Operation.TheVariants.{Retire}
use Rattle.archive_index.proofs.Parted.{retirement_passed, retirement_put, parting_as}
use Rattle.archive_index.proofs.parting.Parts.retire.Goals as goal

pub returns-then-not-first : goal.returns-then-not-first
returns-then-not-first c old all rest parting =
    let kept = c.in_ok-first.ensures.kept ∙ ap (set.insert (from_list c.args.seen.now)) c.retirement_bytes.ensures in
    let seen = from_list c.args.seen.now in
    let retired = record_bytes (Retire c.args.key c.args.digest) in
    let known : contains seen retired ≡ true = not-false (contains seen retired)
    (sym (rw c.retirement_bytes.ensures at c.in_ok-first.ensures.first) ∙ c.if-not-first.true) in
    rw kept (retirement_passed old all rest c.args.self.now.admissions.items c.args.self.now.retirements.items seen
    (Retire c.args.key c.args.digest) parting refl known)

pub returns : goal.returns
returns c old all rest parting =
    let kept = c.in_ok-first.ensures.kept ∙ ap (set.insert (from_list c.args.seen.now)) c.retirement_bytes.ensures in
    let put = retirement_put old all rest c.args.self.now.admissions.items c.args.self.now.retirements.items
    (from_list c.args.seen.now) (Retire c.args.key c.args.digest) parting refl c.retirement.ensures.operation in
    parting_as old all rest c.args.self.now.admissions.items c.args.self.now.retirements.items c.push.new.self.items _
    (from_list c.keep.new.self) (Retire c.args.key c.args.digest) c.retirement.result put
    c.in_ok-push.ensures.items c.retirement.ensures.is kept
