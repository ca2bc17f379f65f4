use Rattle.archive_image_admission.specs.declared.fault.TakeFault.TheVariants.{OutOfMemory}
use Rattle.archive_image_admission.proofs.FaultLaws.{accepted_or_fault, one_take_fault}
use Rattle.archive_image_admission.proofs.laws.one_take_fault.Goals as goal

pub returns-clause-some : goal.returns-clause-some
returns-clause-some c = accepted_or_fault c.one_slice_fault.ensures.some c.one_fault.ensures.some c.one_slice_fault.ensures.none

pub returns-clause-one : goal.returns-clause-one
returns-clause-one c = one_take_fault c.one_slice_fault.ensures.none c.one_slice_fault.ensures.one c.one_fault.ensures.one c.one_fault.ensures.none

pub returns-clause-none : goal.returns-clause-none
returns-clause-none c = λ file f accepted fault.
    one_take_fault c.one_slice_fault.ensures.none c.one_slice_fault.ensures.one c.one_fault.ensures.one
    c.one_fault.ensures.none file f OutOfMemory fault accepted
