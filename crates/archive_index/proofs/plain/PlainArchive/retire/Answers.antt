use Rattle.std.proofs.Common.{◌≡◌, true, false, sym, ◌∙◌, ap, map, subst, refl}
use Rattle.std.specs.Ordering.{nat_cmp}
use Rattle.std.specs.Cmp.Lexicographic.{slice_cmp}
use Rattle.std.specs.FinSet as set
use Rattle.join_core.specs.InnerSearch.{IsPlaceFor}
use Rattle.archive_core.specs.Content.{is_covered, IsMade, with_record}
use Rattle.archive_core.specs.Record.{record_bytes, retirement_record}
use Rattle.archive_core.specs.declared.operations.Operation.TheVariants.{Retire}
use Rattle.archive_core.proofs.Made.{or_left}
use Rattle.archive_index.proofs.Put.{held_retirement}
use Rattle.archive_core.proofs.Taken.{known_changes, new_changes, with_known}
use Rattle.archive_index.proofs.Held.{map_insert}
use Rattle.archive_index.proofs.plain.PlainArchive.retire.Goals as goal

pub drop_retired-requires-clause-ascending : goal.drop_retired-requires-clause-ascending
drop_retired-requires-clause-ascending c =
    let operations = c.self.inside.operations.items in
    let asked : IsPlaceFor (slice_cmp nat_cmp) (map record_bytes operations)
    (record_bytes c.retirement-retirement.result) c.in-Err.index =
    rw (← c.deref.ensures.value) c.in-Err.ensures.found.absent in
    rw (c.in_ok-insert-in-Err.ensures.items, map_insert operations c.in-Err.index c.retirement-retirement.result) asked.ascending

pub invariant_of-self-in-Err : goal.invariant_of-self-in-Err
invariant_of-self-in-Err c =
    let operations = c.self.inside.operations.items in
    let absent = rw c.retirement-retirement.ensures.is at c.in-Err.ensures.found.absent in
    rw (c.drop_retired.ensures, c.in_ok-insert-in-Err.ensures.items, c.retirement-retirement.ensures.is)
    (held_retirement operations c.in-Err.index (Retire c.args.key c.args.digest) c.self.invariant
    c.retirement-retirement.ensures.operation refl (rw (← c.deref.ensures.value) absent)).held

pub returns-in-Ok-clause-taken : goal.returns-in-Ok-clause-taken
returns-in-Ok-clause-taken c =
    let o = c.args.self.now in
    let r = retirement_record c.args.key c.args.digest.0 in
    let there : set.contains o r ≡ true = rw (← c.self.view_is, ← c.deref.ensures.value)
    (rw c.retirement-retirement.ensures.is at c.in-Ok.ensures.found.present) in
    sym (with_known o r (subst IsMade c.self.view_is c.self.invariant.itself) (or_left (set.contains o r) (is_covered o r) there))

pub returns-in-Ok-clause-answer : goal.returns-in-Ok-clause-answer
returns-in-Ok-clause-answer c =
    let o = c.args.self.now in
    let r = retirement_record c.args.key c.args.digest.0 in
    let there : set.contains o r ≡ true = rw (← c.self.view_is, ← c.deref.ensures.value)
    (rw c.retirement-retirement.ensures.is at c.in-Ok.ensures.found.present) in
    sym (known_changes o r (or_left (set.contains o r) (is_covered o r) there))

pub returns-in_ok-insert-in-Err-clause-taken : goal.returns-in_ok-insert-in-Err-clause-taken
returns-in_ok-insert-in-Err-clause-taken c =
    let operations = c.self.inside.operations.items in
    let r = retirement_record c.args.key c.args.digest.0 in
    let absent = rw c.retirement-retirement.ensures.is at c.in-Err.ensures.found.absent in
    let all = held_retirement operations c.in-Err.index (Retire c.args.key c.args.digest) c.self.invariant
    c.retirement-retirement.ensures.operation refl (rw (← c.deref.ensures.value) absent) in
    rw (c.drop_retired.ensures, c.in_ok-insert-in-Err.ensures.items, c.retirement-retirement.ensures.is)
    (all.is ∙ ap (λ s. with_record s r) c.self.view_is)

pub returns-in_ok-insert-in-Err-clause-answer : goal.returns-in_ok-insert-in-Err-clause-answer
returns-in_ok-insert-in-Err-clause-answer c =
    let o = c.args.self.now in
    let r = retirement_record c.args.key c.args.digest.0 in
    let absent : set.contains o r ≡ false = rw (← c.self.view_is, ← c.deref.ensures.value)
    (rw c.retirement-retirement.ensures.is at c.in-Err.ensures.found.absent.absent) in
    sym (new_changes o r absent refl)
