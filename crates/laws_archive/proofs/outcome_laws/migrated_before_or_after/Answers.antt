use Rattle.std.proofs.Common.{◌∙◌}
use Rattle.archive_core.specs.Content.{content_of}
use Rattle.archive_records.proofs.Versions.{made_content}
use Rattle.laws_archive.proofs.Joins.{old_given, new_given, merged_two}
use Rattle.laws_archive.proofs.outcome_laws.migrated_before_or_after.Goals as goal

pub returns : goal.returns
returns g c = record {
  merged = λ input file p q content lines are others given other makes.
      merged_two input file (content_of p) (content_of q) content lines (made_content p are) (made_content q others)
      (old_given input p are given) (old_given file q others other) makes ∙ c.migrate_joins.ensures p q;
  before = λ input file p q content lines are others given other makes.
      merged_two input file (content_of p) (content_of q) content lines (made_content p are) (made_content q others)
      (new_given input (content_of p) given) (old_given file q others other) makes ∙ c.migrate_joins.ensures p q;
  file = λ input file p q content lines are others given other makes.
      merged_two input file (content_of p) (content_of q) content lines (made_content p are) (made_content q others)
      (old_given input p are given) (new_given file (content_of q) other) makes ∙ c.migrate_joins.ensures p q;
  both = λ input file p q content lines are others given other makes.
      merged_two input file (content_of p) (content_of q) content lines (made_content p are) (made_content q others)
      (new_given input (content_of p) given) (new_given file (content_of q) other) makes
      ∙ c.migrate_joins.ensures p q;
}
