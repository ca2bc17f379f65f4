use Rattle.macho_image.proofs.Room.{length-sections}
use Rattle.macho_image.proofs.Standing.{each_section}
use Rattle.macho_image.proofs.image.Image.sections.Goals as goal

pub returns-clause-each : goal.returns-clause-each
returns-clause-each c = each_section c.args.self.now c.commands.ensures.room

pub returns-clause-fit : goal.returns-clause-fit
returns-clause-fit c = length-sections c.args.self.now c.commands.ensures.room
