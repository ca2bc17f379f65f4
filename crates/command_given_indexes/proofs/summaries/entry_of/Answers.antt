use Rattle.std.proofs.Common.{sym, ◌∙◌}
use Rattle.command_given_indexes.proofs.Entries.{entry_front}
use Rattle.command_given_indexes.proofs.summaries.entry_of.Goals as goal

pub returns : goal.returns
returns c = c.entry_with.ensures.entry ∙ sym (entry_front c.args.entry.now c.entry_with.ensures.key c.entry_with.ensures.digest)
