use Rattle.std.proofs.Common.{length, ◌∙◌, ap, refl}
use Rattle.archive_core.specs.Key.{key_bytes}
use Rattle.archive_core.proofs.Heads.{laid_key}
use Rattle.archive_core.proofs.layout.lay_key.Goals as goal

pub returns : goal.returns
unfolding key_bytes
returns c =
    laid_key c.args.part.now c.copy_from_slice.new.self c.copy_from_slice-2.new.self c.copy_from_slice-3.new.self c.requires
    (ap length c.copy_from_slice.ensures.after ∙ c.uuid_bytes.ensures.sixteen)
    (ap length (c.copy_from_slice-2.ensures.after ∙ c.to_be_bytes.ensures))
    (ap length (c.copy_from_slice-3.ensures.after ∙ c.to_be_bytes-2.ensures)) _ refl
    ∙ cc
