use Rattle.archive_core.proofs.Joined.{resumed}
use Rattle.laws_archive.proofs.content_laws.taking_each_resumed.Goals as goal

pub returns : goal.returns
returns c = λ o mid rs is part. resumed o mid rs is.itself part
