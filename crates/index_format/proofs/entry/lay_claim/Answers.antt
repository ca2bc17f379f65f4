use Rattle.std.proofs.Common.{◌++◌, ◌∙◌, ap, arith, drop, length, length-append, length-drop}
use Rattle.index_format.specs.Entry.{claim_bytes}
use Rattle.index_format.proofs.Fields.{laid_two}
use Rattle.index_format.proofs.entry.lay_claim.Goals as goal

pub returns : goal.returns
unfolding claim_bytes
returns c =
    let offset = c.copy_from_slice.ensures.after ∙ c.to_be_bytes.ensures in
    laid_two c.args.part.now c.copy_from_slice.new.self c.lay_size_and_root.new.part 40 c.requires (ap length offset)
    (omega (
      arith,
      c.lay_size_and_root.auto.part,
      c.requires,
      ap length offset,
      length-append c.copy_from_slice.new.self (drop 8 c.args.part.now),
      length-drop 8 c.args.part.now,
    ))
    ∙ (λ i. offset i ++ c.lay_size_and_root.ensures i)
