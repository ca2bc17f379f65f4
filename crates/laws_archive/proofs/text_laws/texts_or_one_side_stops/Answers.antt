use Rattle.laws_archive.proofs.Sides.{texts_or_stopped}
use Rattle.laws_archive.proofs.text_laws.texts_or_one_side_stops.Goals as goal

pub returns : goal.returns
returns c = texts_or_stopped
