use Rattle.std.proofs.Common.{refl}
use Rattle.archive_core.proofs.Made.{contains_made, made_again}
use Rattle.archive_core.proofs.Words.{made_content, covered_slice, live_in_content}
use Rattle.laws_archive.proofs.content_laws.contents_in_words.Goals as goal

pub returns : goal.returns
returns c = record {
  made = contains_made;
  again = made_again;
  content = made_content;
  admission = covered_slice;
  retirement = λ _ _ _. refl;
  live = live_in_content;
}
