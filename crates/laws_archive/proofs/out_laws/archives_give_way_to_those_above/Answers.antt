use Rattle.laws_archive.proofs.GivingWay.{archives_covered, empty_there, kind_there}
use Rattle.laws_archive.proofs.out_laws.archives_give_way_to_those_above.Goals as goal

pub returns : goal.returns
returns c = record { archives = archives_covered; kinds = kind_there; empty = empty_there }
