use Rattle.table_checked_pages.proofs.PageLemmas.{more_root, more_stored, one_root, one_stored}
use Rattle.table_checked_pages.proofs.laws.stored_after_digests.Goals as goal

pub returns-clause-page : goal.returns-clause-page
returns-clause-page c = λ all small. (one_stored all small, one_root all small)

pub returns-clause-pages : goal.returns-clause-pages
returns-clause-pages c = λ all large. (more_stored all large, more_root all large)
