use Rattle.macho_image.proofs.Walk.{Reached}
use Rattle.macho_image.proofs.contents.read_load_commands.Given as goal

abbrev pub invariant-loop-number : goal.invariant-loop-number
invariant-loop-number l = Reached l.area l.number l.rest l.contents.uuid l.contents.symtab
