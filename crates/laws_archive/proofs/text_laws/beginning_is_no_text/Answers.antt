use Rattle.archive_merge.proofs.Unread.{no_text}
use Rattle.laws_archive.proofs.text_laws.beginning_is_no_text.Goals as goal

pub returns : goal.returns
returns c = no_text
