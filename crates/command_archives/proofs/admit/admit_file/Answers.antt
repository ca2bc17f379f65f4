use Rattle.command_archives.proofs.Files.{brings_slices}
use Rattle.command_archives.proofs.admit.admit_file.Goals as goal

pub returns : goal.returns
returns g c =
    let got = c.in_ok-slices.ensures.is in
    let took = c.in_ok-take_slices.ensures in
    record {
      is = (got.0, got.1, got.2, brings_slices _ _ c.args.index got.0 _ got.3 took.came took.rows took.are_first);
      unfailed = c.in_ok-slices.ensures.unfailed;
    }
