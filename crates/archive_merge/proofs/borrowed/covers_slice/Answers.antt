use Rattle.std.proofs.Common.{◌∙◌, sym}
use Rattle.archive_core.proofs.Words.{covered_slice}
use Rattle.archive_records.specs.Reader.{set_of}
use Rattle.archive_merge.proofs.borrowed.covers_slice.Goals as goal

pub returns-clause-covered : goal.returns-clause-covered
returns-clause-covered c = c.covers.ensures.covers ∙ sym (covered_slice (set_of c.args.retirements.now) c.args.slice.now c.bytes-bytes.ensures.valid)
