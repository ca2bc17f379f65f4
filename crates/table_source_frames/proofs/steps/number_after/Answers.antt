use Rattle.std.proofs.Common.{sym}
use Rattle.dwarf_encoding.specs.Leb128.{last_signed}
use Rattle.dwarf_encoding.proofs.ShorterLemmas.{leb128_shorter}
use Rattle.table_source_frames.proofs.steps.number_after.Goals as goal

pub returns-clause-shorter : goal.returns-clause-shorter
returns-clause-shorter c =
    leb128_shorter last_signed c.args.bytes.now (c.in_ok-apart.apart, c.in_ok-apart.rest.now) (sym c.in_ok-apart.ensures)
