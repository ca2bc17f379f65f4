use Rattle.archive_merge.specs.Borrowed.{seen_of}
use Rattle.archive_merge.proofs.BorrowedSides.{stands_on}
use Rattle.archive_merge.proofs.borrowed.BorrowedSideReadFromBorrowedText.read_on.Goals as goal

pub returns-in-Unread-clause-stands : goal.returns-in-Unread-clause-stands
returns-in-Unread-clause-stands c = λ a done low s.
    stands_on a _ _ done low c.args.shared.now (seen_of c.args.self.now) (seen_of c.advance.new.self) c.advance.result c.in-Unread.is c.advance.ensures s
