use Rattle.archive_core.proofs.Taken.{new_of_none, new_in_turn, new_within}
use Rattle.laws_archive.proofs.content_laws.new_ones_in_turn.Goals as goal

pub returns : goal.returns
returns c = record { none = new_of_none; in_turn = new_in_turn; within = new_within }
