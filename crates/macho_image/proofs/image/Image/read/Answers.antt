use Rattle.std.proofs.lemmas.Result.{err_from_is_err_and}
use Rattle.macho_image.proofs.Images.{faulty_walk, no_uuid_walk, sound_walk}
use Rattle.macho_image.specs.Contents.{IsRead}
use Rattle.macho_image.proofs.image.Image.read.Goals as goal
use Rattle.macho_image.proofs.image.Image.read.Goals.{In-Some}

pub returns-in_err-contents-clause-faulty : goal.returns-in_err-contents-clause-faulty
returns-in_err-contents-clause-faulty c =
    let p = err_from_is_err_and c.from_residual-in_err-contents.result c.from_residual-in_err-contents.ensures.1 in
    rw (p.1, p.2) (faulty_walk c.args.bytes.now _ _ c.in_ok-check_header.ensures.sound c.ncmds.ensures
    c.command_bytes.ensures _ c.in_err-contents.ensures.faulty)

pub returns-in_default-clause-faulty : goal.returns-in_default-clause-faulty
returns-in_default-clause-faulty c =
    no_uuid_walk c.args.bytes.now _ _ c.in_ok-check_header.ensures.sound c.ncmds.ensures c.command_bytes.ensures _ _
    c.in_ok-contents.ensures.sound c.in_default.is

read_here : (c : In-Some) → IsRead c.args.bytes.now c.in-Some.uuid c.in_ok-contents.contents.symtab
read_here c =
    sound_walk c.args.bytes.now _ _ c.in_ok-check_header.ensures.sound c.ncmds.ensures c.command_bytes.ensures _ _ c.in_ok-contents.ensures.sound _ c.in-Some.is

pub invariant_of-result : goal.invariant_of-result
invariant_of-result c = read_here c

pub returns-clause-sound : goal.returns-clause-sound
returns-clause-sound c = (read_here c).sound
