use Rattle.dwarf_source_frames.proofs.UnitAddressLemmas.{one_place}
use Rattle.dwarf_source_frames.proofs.laws.one_unit.Goals as goal

pub returns : goal.returns
returns c = one_place
