use Rattle.std.proofs.Common.{◌++◌, sym, ◌∙◌}
use Rattle.archive_core.specs.Record.{borrowed_bytes, operation_borrowed}
use Rattle.archive_core.proofs.Records.{record_of_operation}
use Rattle.archive_merge.specs.Borrowed.{last_bytes}
use Rattle.archive_merge.proofs.BorrowedSides.{descends, unkept}
use Rattle.archive_merge.proofs.borrowed.BorrowedSide.take.Goals as goal

pub returns-then-not-may_follow : goal.returns-then-not-may_follow
returns-then-not-may_follow c = λ rest.
    let now = c.args.self.now in
    let item = record_of_operation (operation_borrowed c.args.next) c.show_operation.ensures in
    descends (last_bytes now.last) now.count now.offset (c.args.shared.now ++ now.retired) now.dropped
    (borrowed_bytes c.args.next) rest item c.requires.few (sym c.may_follow.ensures ∙ c.if-not-may_follow.true)

pub returns-in_default : goal.returns-in_default
returns-in_default c = λ rest.
    let now = c.args.self.now in
    let item = record_of_operation (operation_borrowed c.args.next) c.show_operation.ensures in
    rw c.keep-kept.ensures.same (unkept (last_bytes now.last) now.count now.offset (c.args.shared.now ++ now.retired)
    now.dropped (borrowed_bytes c.args.next) rest item c.requires.few
    (sym c.may_follow.ensures ∙ c.if-not-may_follow.false) c.refused.result c.refused.ensures)

pub returns-in_default-checked_add : goal.returns-in_default-checked_add
returns-in_default-checked_add c = λ rest.
    let now = c.args.self.now in
    let item = record_of_operation (operation_borrowed c.args.next) c.show_operation.ensures in
    rw c.keep-kept.ensures.same (unkept (last_bytes now.last) now.count now.offset (c.args.shared.now ++ now.retired)
    now.dropped (borrowed_bytes c.args.next) rest item c.requires.few
    (sym c.may_follow.ensures ∙ c.if-not-may_follow.false) c.refused-in_default-checked_add.result
    c.refused-in_default-checked_add.ensures)
