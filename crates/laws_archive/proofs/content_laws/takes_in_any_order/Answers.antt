use Rattle.archive_core.proofs.Taken.{taken_are_joined, taken_in_any_order}
use Rattle.laws_archive.proofs.content_laws.takes_in_any_order.Goals as goal

pub returns : goal.returns
returns c = record { order = taken_in_any_order; union = taken_are_joined }
