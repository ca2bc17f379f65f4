use Rattle.std.proofs.Common.{refl, ◌∙◌}
use Rattle.std.proofs.lemmas.List.{take_at}
use Rattle.archive_core.proofs.Retired.{least_begins}
use Rattle.archive_core.proofs.retirements.least_of.Goals as goal

pub returns-clause-prefix : goal.returns-clause-prefix
returns-clause-prefix c = take_at c.copy_from_slice.new.self _ 25 c.copy_from_slice.ensures.len ∙ c.copy_from_slice.ensures.after

pub returns-clause-least : goal.returns-clause-least
returns-clause-least c = λ r begins long. rw c.copy_from_slice.ensures.after (least_begins c.args.prefix.now _ r c.told-prefix refl refl begins long)
