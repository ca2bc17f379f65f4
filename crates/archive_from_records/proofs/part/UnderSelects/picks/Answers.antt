use Rattle.std.proofs.lemmas.List.{take_rest}
use Rattle.archive_core.specs.Part.{is_under}
use Rattle.archive_from_records.proofs.part.UnderSelects.picks.Goals as goal

pub returns : goal.returns
unfolding is_under
returns c = rw take_rest at c.starts_with.ensures.value
