use Rattle.macho_image.proofs.Told.{uuid_of-any, uuid_of-length, symtab_of-any}
use Rattle.macho_image.proofs.laws.one_of_each.Goals as goal

pub returns : goal.returns
returns c = record { uuid = uuid_of-any; sixteen = uuid_of-length; symtab = symtab_of-any }
