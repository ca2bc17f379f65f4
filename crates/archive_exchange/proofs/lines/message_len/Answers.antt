use Rattle.std.proofs.Common.{[], ap, sym, length}
use Rattle.std.proofs.lemmas.Option.{get_or_from_slice_get}
use Rattle.archive_exchange.proofs.lines.message_len.Goals as goal

pub returns : goal.returns
returns g c = ap length (sym (get_or_from_slice_get c.args.world.now.messages c.args.message c.message.result.now [] c.message.ensures))
