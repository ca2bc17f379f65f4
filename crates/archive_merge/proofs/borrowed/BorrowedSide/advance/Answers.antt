use Rattle.std.proofs.Common.{◌++◌}
use Rattle.archive_merge.specs.Borrowed.{last_bytes, left_of}
use Rattle.archive_merge.proofs.BorrowedSides.{nothing_taken}
use Rattle.archive_merge.proofs.borrowed.BorrowedSide.advance.Goals as goal

pub returns-then-not-has_taken_just : goal.returns-then-not-has_taken_just
returns-then-not-has_taken_just c =
    let now = c.args.self.now in
    nothing_taken (last_bytes now.last) now.count now.offset (c.args.shared.now ++ now.retired) now.dropped
    (left_of c.args.text.now) c.refused.result c.refused.ensures c.requires.few

pub returns-in-Some : goal.returns-in-Some
returns-in-Some c = rw c.in-Some.ensures.some (c.take.ensures (left_of c.take_next.new.self))
