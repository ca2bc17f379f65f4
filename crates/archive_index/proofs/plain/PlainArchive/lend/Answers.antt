use Rattle.std.proofs.Common.{subst}
use Rattle.archive_core.specs.Content.{IsContent}
use Rattle.archive_index.proofs.Held.{content_of_held}
use Rattle.archive_index.proofs.plain.PlainArchive.lend.Goals as goal

pub returns-clause-content : goal.returns-clause-content
returns-clause-content c = subst IsContent c.self.view_is (content_of_held c.self.inside.operations.items c.self.invariant)
