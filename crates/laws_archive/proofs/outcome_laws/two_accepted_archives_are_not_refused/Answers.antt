use Rattle.command_common.specs.Outputs.{draft_of}
use Rattle.command_archives.proofs.Streamed.{one_device}
use Rattle.laws_archive.proofs.outcome_laws.two_accepted_archives_are_not_refused.Goals as goal

pub returns : goal.returns
returns g c = λ input file out report o p place why co cp go gp e. one_device input.left input.failures file.left
    file.failures input.new file.new (draft_of out) input.old file.old o p place why co cp go gp e.stops
