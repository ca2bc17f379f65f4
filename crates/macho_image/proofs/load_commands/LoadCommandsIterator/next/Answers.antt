use Rattle.std.proofs.Common.{ap, subst, length, length-append, arith}
use Rattle.std.specs.List.{AllByRecursion}
use Rattle.macho_image.specs.Commands.{HasRoom}
use Rattle.macho_image.proofs.Images.{one_command}
use Rattle.macho_image.proofs.load_commands.LoadCommandsIterator.next.Goals as goal

pub of-command-requires-clause-room : goal.of-command-requires-clause-room
of-command-requires-clause-room c =
    (subst (AllByRecursion HasRoom) (one_command _ _ _ _ c.in-Some.ensures.0 c.in-Some.ensures.1 (omega arith)) c.self.invariant.1).0

pub invariant_of-self-2 : goal.invariant_of-self-2
invariant_of-self-2 c = (
  omega (arith, simp length-append at (ap length c.in-Some.ensures.1)),
  (subst (AllByRecursion HasRoom) (one_command _ _ _ _ c.in-Some.ensures.0 c.in-Some.ensures.1 (omega arith)) c.self.invariant.1).1,
)
