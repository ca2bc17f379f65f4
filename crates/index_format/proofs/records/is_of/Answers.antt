use Rattle.std.proofs.Common.{◌∙◌, sym, ap, length}
use Rattle.std.specs.Str.{bytes_eq}
use Rattle.std.proofs.lemmas.Slice.Eq.{bytes_eq-Decides}
use Rattle.index_format.specs.Entry.{placed_bytes}
use Rattle.index_format.proofs.records.is_of.Goals as goal

pub of_record-made-requires : goal.of_record-made-requires
of_record-made-requires c = ap length (sym c.requires)

pub returns : goal.returns
returns c =
    let made = rw c.requires at c.of_record-made.ensures.bytes in
    let same = c.eq.ensures ∙ (λ i. bytes_eq ((c.placed_bytes.ensures ∙ made) i) (c.placed_bytes-2.ensures i)) in
    let told = bytes_eq-Decides _ (placed_bytes c.args.entry.now) in
    (λ e. sym (told.0 (sym same ∙ e)), λ e. same ∙ told.1 (sym e))
