use Rattle.table_checked_pages.proofs.PageLemmas.{may_be}
use Rattle.table_checked_pages.proofs.laws.stored_may_be.Goals as goal

pub returns : goal.returns
returns c = may_be
