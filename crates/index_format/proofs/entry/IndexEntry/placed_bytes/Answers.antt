use Rattle.std.proofs.Common.{◌++◌, ◌∙◌, refl}
use Rattle.archive_core.proofs.Heads.{laid_last}
use Rattle.index_format.specs.Entry.{placed_bytes}
use Rattle.index_format.proofs.entry.IndexEntry.placed_bytes.Goals as goal

pub returns : goal.returns
unfolding placed_bytes
returns c =
    let row = c.copy_from_slice.ensures.after ∙ c.entry_of.ensures in
    laid_last c.copy_from_slice.new.self _ c.lay_place.new.part 57 17 c.copy_from_slice.auto.self refl ∙ (λ i. row i ++ c.lay_place.ensures i)
