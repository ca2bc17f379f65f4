use Rattle.archive_records.specs.declared.format.Format.TheVariants.{Operations, Summary}
use Rattle.laws_archive.proofs.Coverings.{old_uncovered, uncovered}
use Rattle.laws_archive.proofs.text_laws.covered_in_archives_alone.Goals as goal

pub returns : goal.returns
returns c = record { old = old_uncovered; operations = uncovered Operations (λ _ _ _ none. none); summaries = uncovered Summary (λ _ _ _ none. none) }
