use Rattle.std.proofs.Common.{refl, map, ap, ◌∙◌}
use Rattle.archive_core.specs.Names.{owned_name_view}
use Rattle.archive_from_records.proofs.Sought.{names_start}
use Rattle.archive_from_records.proofs.names.NameRowsFromRecords.begin.Goals as goal

pub returns : goal.returns
returns c = (
  refl,
  refl,
  ap (map owned_name_view) c.requires.0 ∙ names_start c.args.start.names.name.now,
  ap (map owned_name_view) c.requires.1 ∙ names_start c.args.start.names.other.now,
)
