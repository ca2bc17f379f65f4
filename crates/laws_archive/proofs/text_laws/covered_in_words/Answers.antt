use Rattle.laws_archive.proofs.Coverings.{is_covered_there, told_covered}
use Rattle.laws_archive.proofs.text_laws.covered_in_words.Goals as goal

pub returns : goal.returns
returns c = record { stands = is_covered_there; told = told_covered }
