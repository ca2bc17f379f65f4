use Rattle.std.proofs.Common.{arith}
use Rattle.archive_records.proofs.Forms.{long-admission}
use Rattle.index_format.proofs.NamedRecord.{claims_long}
use Rattle.index_format.proofs.records.has_head.Goals as goal

pub returns-then-bytes-lt-ADMISSION_HEAD_LEN-clause-no : goal.returns-then-bytes-lt-ADMISSION_HEAD_LEN-clause-no
returns-then-bytes-lt-ADMISSION_HEAD_LEN-clause-no c = λ e a. omega (arith, long-admission c.args.bytes.now a)

pub returns-clause-no : goal.returns-clause-no
returns-clause-no c = λ e a. claims_long c.args.bytes.now c.number_at.result a c.number_at.ensures.number e
