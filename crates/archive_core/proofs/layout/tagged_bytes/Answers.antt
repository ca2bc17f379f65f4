use Rattle.std.proofs.Common.{◌∙◌, refl}
use Rattle.archive_core.proofs.Heads.{laid_behind, two}
use Rattle.archive_core.proofs.layout.tagged_bytes.Goals as goal

pub returns : goal.returns
returns c = laid_behind c.args.tag c.lay_key.new.part _ c.copy_from_slice.new.self 32 c.lay_key.auto.part refl
    ∙ two c.args.tag _ _ _ _ c.lay_key.ensures c.copy_from_slice.ensures.after
