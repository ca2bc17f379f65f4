use Rattle.std.proofs.Common.{Ok, Err, refl}
use Rattle.command_archives.proofs.Files.{brings_slices}
use Rattle.command_archives.proofs.admit.take_file.Goals as goal

pub returns-in_ok-take_slices-in-Ok : goal.returns-in_ok-take_slices-in-Ok
returns-in_ok-take_slices-in-Ok g c =
    let got = c.in-Ok.ensures.is in
    let took = c.in_ok-take_slices-in-Ok.ensures in
    (Ok got.0, (got.1, got.2, c.in-Ok.ensures.unfailed), brings_slices _ _ c.args.index got.0 _ got.3 took.came took.rows took.are_first, refl)

pub returns-in_ok-pass_file-in-Err : goal.returns-in_ok-pass_file-in-Err
returns-in_ok-pass_file-in-Err g c =
    let passed = c.in_ok-pass_file-in-Err.ensures in
    let refused = rw c.in_ok-why-in-Err.ensures.1 at c.in-Err.ensures in
    (Err passed.0, record { as_read = c.in_ok-why-in-Err.why; refused = refused.1; opened = passed.1; why_is = passed.2 }, passed.3, refl)
