use Rattle.command_archives.proofs.Files.{brings_none}
use Rattle.command_archives.proofs.admit.pass_file.Goals as goal

pub returns : goal.returns
returns g c =
    let over = c.in_ok-pass_over.ensures in (
      c.in_ok-told.told,
      rw c.opening.ensures at c.in_ok-told.ensures.opened,
      rw c.opening.ensures at c.in_ok-told.ensures.why,
      brings_none _ _ c.args.index c.in_ok-told.told over.came over.rows over.are_first,
    )
