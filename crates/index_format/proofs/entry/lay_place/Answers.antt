use Rattle.std.proofs.Common.{◌∷◌, ◌++◌, ◌∙◌, ap, length}
use Rattle.index_format.proofs.Entries.{laid_place}
use Rattle.index_format.proofs.entry.lay_place.Goals as goal

pub returns : goal.returns
returns c =
    let offset = c.copy_from_slice.ensures.after ∙ c.to_be_bytes.ensures in
    let len = c.copy_from_slice-2.ensures.after ∙ c.to_be_bytes-2.ensures in
    laid_place c.args.part.now c.copy_from_slice.new.self c.copy_from_slice-2.new.self c.kind_of.result c.requires (ap length offset) (ap length len)
    ∙ (λ i. c.kind_of.ensures i ∷ (offset i ++ len i))
