use Rattle.std.proofs.Common.{◌++◌, ◌∙◌, ap, arith, drop, length, length-append, length-drop}
use Rattle.index_format.proofs.Fields.{laid_two}
use Rattle.index_format.proofs.entry.lay_size_and_root.Goals as goal

pub returns : goal.returns
returns c =
    let size = c.copy_from_slice.ensures.after ∙ c.to_be_bytes.ensures in
    let root = c.copy_from_slice-2.ensures.after in
    laid_two c.args.part.now c.copy_from_slice.new.self c.copy_from_slice-2.new.self 32 c.requires (ap length size)
    (omega (
      arith,
      c.copy_from_slice-2.auto.self,
      c.requires,
      ap length size,
      length-append c.copy_from_slice.new.self (drop 8 c.args.part.now),
      length-drop 8 c.args.part.now,
    ))
    ∙ (λ i. size i ++ root i)
