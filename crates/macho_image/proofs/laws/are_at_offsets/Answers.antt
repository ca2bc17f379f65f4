use Rattle.macho_image.proofs.Standing.{segment_stands, section_stands}
use Rattle.macho_image.proofs.laws.are_at_offsets.Goals as goal

pub returns : goal.returns
returns c = record { segment = segment_stands; section = section_stands }
