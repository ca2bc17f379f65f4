use Rattle.archive_merge.specs.Merging.{of_both}
use Rattle.archive_merge.proofs.Unread.{no_text, good_content, written_first, written_none}
use Rattle.laws_archive.proofs.text_laws.refused_merge_is_no_text.Goals as goal

pub returns : goal.returns
returns c = record {
  content = good_content;
  beginning = λ left right lefts rights low bytes l r. written_first left right (of_both lefts rights) low bytes (good_content left right lefts rights l r);
  stopped = λ left right lefts rights low bytes l r. written_none left right (of_both lefts rights) low bytes (good_content left right lefts rights l r);
  cut = λ left right lefts rights n l r. no_text (of_both lefts rights) n (good_content left right lefts rights l r);
}
