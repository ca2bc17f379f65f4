use Rattle.macho_symbols.proofs.Order.{tuples_total, exact_tuples}
use Rattle.macho_symbols.proofs.laws.total_order.Goals as goal

pub returns : goal.returns
returns c = record { total = tuples_total; exact = exact_tuples }
