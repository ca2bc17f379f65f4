use Rattle.laws_archive.proofs.Crashes.{no_file}
use Rattle.laws_archive.proofs.out_laws.never_written_through.Goals as goal

pub returns : goal.returns
returns c = record { others = no_file; descriptors = λ path text replaces calls is. is.no_descriptor }
