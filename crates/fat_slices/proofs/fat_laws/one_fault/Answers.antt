use Rattle.fat_slices.proofs.FatFaults.{universal_or_fault, one_fat_fault, no_fat_fault}
use Rattle.fat_slices.proofs.fat_laws.one_fault.Goals as goal

pub returns : goal.returns
returns c = record { some = universal_or_fault; one = one_fat_fault; none = no_fat_fault }
