use Rattle.std.proofs.Common.{arith}
use Rattle.cli_files.proofs.Kept.{kept_full, kept_taken}
use Rattle.cli_files.proofs.opened_file.keep.Goals as goal

pub returns-then-read-ge-LEADING_LEN-clause-bytes :
    goal.returns-then-read-ge-LEADING_LEN-clause-bytes
returns-then-read-ge-LEADING_LEN-clause-bytes c =
    kept_full _ _ _ c.told-leading_bytes c.if-read-ge-LEADING_LEN.true

pub returns-clause-bytes : goal.returns-clause-bytes
returns-clause-bytes c =
    kept_taken _ _ _ _ _ _ c.told-leading_bytes c.if-read-ge-LEADING_LEN.false c.min-most.ensures (omega arith) c.copy_from_slice.ensures.after
