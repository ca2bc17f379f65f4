use Rattle.archive_core.specs.Content.{content_of}
use Rattle.archive_records.proofs.Versions.{made_content}
use Rattle.laws_archive.proofs.Joins.{old_given, new_given}
use Rattle.laws_archive.proofs.Given.{one_given}
use Rattle.laws_archive.proofs.outcome_laws.migrated.Goals as goal

pub returns : goal.returns
returns g c = record {
  old = λ input p content lines are given makes. one_given input (content_of p) content (made_content p are)
      makes.is_content (old_given input p are given) makes.archive;
  new = λ input o content lines is given makes. one_given input o content is makes.is_content (new_given input o given) makes.archive;
}
