use Rattle.std.proofs.Common.{rules}
use Rattle.archive_core.proofs.Words.{live_above, below_of_words}
use Rattle.laws_archive.proofs.content_laws.order_in_words.Goals as goal

pub returns : goal.returns
returns c = record { retirements = search rules; live = live_above; below = below_of_words }
