use Rattle.std.proofs.Common.{rules}
use Rattle.macho_image.proofs.Room.{length-commands}
use Rattle.macho_image.proofs.image.Image.commands.Goals as goal

pub returns-clause-fit : goal.returns-clause-fit
returns-clause-fit c = length-commands c.args.self.now (search rules)
