use Rattle.laws_index.proofs.ByIndex.{held_alike}
use Rattle.laws_index.proofs.command_laws.held_by_indexes.Goals as goal

pub returns : goal.returns
returns g c = λ uuids prefixes inputs archives os p asked are held prefix there. held_alike uuids prefixes inputs archives os p asked are held prefix there
