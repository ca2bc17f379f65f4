use Rattle.std.proofs.Common.{[], ◌∷◌, ◌++◌, not, sym, ap, ◌∙◌}
use Rattle.std.specs.FinSet as set
use Rattle.std.specs.FinSet.{from_list_push}
use Rattle.std.specs.Cmp.Lexicographic.{nat_list_cmp_total}
use Rattle.join_core.proofs.Place.{insert_present}
use Rattle.archive_core.proofs.Made.{bytes_same}
use Rattle.archive_core.proofs.Retired.{first_more, held_by, in_first, in_second, inserted, second_more}
use Rattle.archive_core.proofs.retirements.Retirements.keep.Goals as goal

-- among those that ascend
pub returns-in_default-clause-kept : goal.returns-in_default-clause-kept
returns-in_default-clause-kept c =
    sym (insert_present nat_list_cmp_total bytes_same (set.from_list c.args.self.now) c.args.retirement
    (in_first c.self.inside.ascending.items c.self.inside.others.keys c.args.self.now c.args.retirement c.self.view_is
    (rw c.deref.ensures.value at c.in_default.ensures.found.present)))

pub returns-in_default-clause-first : goal.returns-in_default-clause-first
returns-in_default-clause-first c =
    sym (ap not (in_first c.self.inside.ascending.items c.self.inside.others.keys c.args.self.now c.args.retirement
    c.self.view_is (rw c.deref.ensures.value at c.in_default.ensures.found.present)))

-- below the last of them
pub returns-then-at-len-clause-kept : goal.returns-then-at-len-clause-kept
returns-then-at-len-clause-kept c =
    let keys = c.self.inside.others.keys in
    let more = inserted keys c.insert.new.self.keys c.args.retirement c.in_ok-insert.ensures.updates.0 in
    rw (← c.self.view_is) (second_more c.self.inside.ascending.items keys c.insert.new.self.keys c.args.retirement more)

pub returns-then-at-len-clause-first : goal.returns-then-at-len-clause-first
returns-then-at-len-clause-first c =
    let keys = c.self.inside.others.keys in
    c.in_ok-insert.ensures.added ∙ ap not (held_by keys c.args.retirement
    ∙ sym (in_second c.self.inside.ascending.items keys c.args.self.now c.args.retirement c.self.view_is
    (rw c.deref.ensures.value at c.in-Err.ensures.found.absent.absent)))

-- above them, and among the others
pub returns-then-contains-clause-kept : goal.returns-then-contains-clause-kept
returns-then-contains-clause-kept c =
    let keys = c.self.inside.others.keys in
    let here = in_second c.self.inside.ascending.items keys c.args.self.now c.args.retirement c.self.view_is
    (rw c.deref.ensures.value at c.in-Err.ensures.found.absent.absent) ∙ sym (held_by keys c.args.retirement)
    ∙ sym c.contains.ensures ∙ c.if-contains.true in
    sym (insert_present nat_list_cmp_total bytes_same (set.from_list c.args.self.now) c.args.retirement here)

pub returns-then-contains-clause-first : goal.returns-then-contains-clause-first
returns-then-contains-clause-first c =
    let keys = c.self.inside.others.keys in
    sym (ap not (in_second c.self.inside.ascending.items keys c.args.self.now c.args.retirement c.self.view_is
    (rw c.deref.ensures.value at c.in-Err.ensures.found.absent.absent) ∙ sym (held_by keys c.args.retirement)
    ∙ sym c.contains.ensures ∙ c.if-contains.true))

-- above them, and new
pub returns-clause-kept : goal.returns-clause-kept
returns-clause-kept c =
    let items = c.self.inside.ascending.items in
    let more = from_list_push nat_list_cmp_total bytes_same items c.args.retirement in
    rw (c.in_ok-push.ensures.items, ← c.self.view_is)
    (first_more items c.self.inside.others.keys (items ++ c.args.retirement ∷ []) c.args.retirement more)

pub returns-clause-first : goal.returns-clause-first
returns-clause-first c =
    let keys = c.self.inside.others.keys in
    sym (ap not (in_second c.self.inside.ascending.items keys c.args.self.now c.args.retirement c.self.view_is
    (rw c.deref.ensures.value at c.in-Err.ensures.found.absent.absent) ∙ sym (held_by keys c.args.retirement)
    ∙ sym c.contains.ensures ∙ c.if-contains.false))
