use Rattle.table_source_frames.proofs.SliceTables.{table_of_lines}
use Rattle.index_build.proofs.tables.table_of.Goals as goal

pub returns-clause-table : goal.returns-clause-table
returns-clause-table c = table_of_lines c.image-image.result c.args.slice.now c.in_ok-lines.lines.items
    c.in_ok-table.table c.image-image.ensures c.in_ok-lines.ensures c.in_ok-table.ensures
