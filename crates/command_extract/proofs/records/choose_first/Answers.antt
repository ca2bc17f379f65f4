use Rattle.command_extract.proofs.records.choose_first.Goals as goal

pub returns : goal.returns
returns g c = rw c.first_and_rest-archive.ensures.parts c.choose_together.ensures
