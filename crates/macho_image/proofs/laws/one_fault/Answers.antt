use Rattle.macho_image.proofs.Existence.{image_or_fault}
use Rattle.macho_image.proofs.FaultLemmas.{one_image_fault, no_image_fault}
use Rattle.macho_image.proofs.laws.one_fault.Goals as goal

pub returns : goal.returns
returns c = record { some = image_or_fault; one = one_image_fault; none = no_image_fault }
