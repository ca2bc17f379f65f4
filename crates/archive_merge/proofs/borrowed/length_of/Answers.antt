use Rattle.std.proofs.Common.{◌≡◌, arith, length}
use Rattle.archive_merge.proofs.BorrowedSides.{long_parts}
use Rattle.archive_merge.proofs.borrowed.length_of.Goals as goal

pub returns-in-Admit : goal.returns-in-Admit
returns-in-Admit c =
    let long : length c.admission_head.result ≡ 33 = omega arith in
    rw c.in-Admit.is (long_parts c.admission_head.result c.bytes.result.now c.in-Admit.slice c.admission_head.ensures.head long c.bytes.ensures.bytes)
