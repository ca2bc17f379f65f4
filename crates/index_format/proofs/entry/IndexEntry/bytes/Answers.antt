use Rattle.std.proofs.Common.{◌++◌, ◌∙◌, refl}
use Rattle.archive_core.proofs.Heads.{laid_last}
use Rattle.index_format.specs.Entry.{entry_bytes}
use Rattle.index_format.proofs.entry.IndexEntry.bytes.Goals as goal

pub returns : goal.returns
unfolding entry_bytes
returns c =
    let placed = c.copy_from_slice.ensures.after ∙ c.placed_bytes.ensures in
    laid_last c.copy_from_slice.new.self _ c.lay_claim.new.part 74 48 c.copy_from_slice.auto.self refl ∙ (λ i. placed i ++ c.lay_claim.ensures i)
