use Rattle.std.proofs.Common.{refl}
use Rattle.cli_run.proofs.Saying.{none_called}
use Rattle.cli_run.proofs.runs.run.Goals as goal

pub returns-in-Err : goal.returns-in-Err
returns-in-Err g c = rw c.in-Err.is (
  record { asked = refl; uncalled = none_called _ _ c.requires.6 c.requires.5 },
  c.refuse_words.ensures.memory,
  c.refuse_words.ensures.text,
)
