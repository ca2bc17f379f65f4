use Rattle.laws_archive.proofs.Answerers.{some_answering}
use Rattle.command_queries.proofs.AnswersWithFrames.{one_answering}
use Rattle.laws_archive.proofs.content_laws.one_answering.Goals as goal

pub returns : goal.returns
returns c = record { some = some_answering; one = one_answering }
