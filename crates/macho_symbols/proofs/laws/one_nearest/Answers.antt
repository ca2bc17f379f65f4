use Rattle.macho_symbols.specs.Symbols.{candidates}
use Rattle.macho_symbols.specs.Nearest.{is_eligible}
use Rattle.macho_symbols.proofs.Order.{nearest_once}
use Rattle.macho_symbols.proofs.Orders.{first_passing}
use Rattle.macho_symbols.proofs.laws.one_nearest.Goals as goal

pub returns : goal.returns
returns c = record { some = λ image address. first_passing (is_eligible image address) (candidates image); one = nearest_once }
