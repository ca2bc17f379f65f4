use Rattle.archive_index.proofs.parting.Parts.put.Goals as goal

pub returns-in-Admit : goal.returns-in-Admit
returns-in-Admit c = rw c.in-Admit.is c.admit.ensures

pub returns-in-Retire : goal.returns-in-Retire
returns-in-Retire c = rw c.in-Retire.is c.retire.ensures
