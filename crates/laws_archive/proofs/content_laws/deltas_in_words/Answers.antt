use Rattle.archive_core.proofs.Summaries.{summary_is, contains_delta, listing_delta, delta_content, delta_below}
use Rattle.laws_archive.proofs.content_laws.deltas_in_words.Goals as goal

pub returns : goal.returns
returns c = record {
  summary = summary_is;
  delta = contains_delta;
  listed = listing_delta;
  content = delta_content;
  below = λ o s _. delta_below o s;
}
