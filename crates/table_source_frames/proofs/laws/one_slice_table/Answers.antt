use Rattle.std.proofs.Common.{◌≡◌, subst}
use Rattle.table_symbols.specs.Table.{IsTableWith}
use Rattle.table_source_frames.proofs.laws.one_slice_table.Goals as goal

pub returns : goal.returns
returns c = λ image bytes others a b.
    let same : a.lines ≡ b.lines = c.one_line_table.ensures image a.lines b.lines a.are_lines b.are_lines in
    c.one_text.ensures image b.lines bytes others (subst (λ lines. IsTableWith image lines bytes) same a.is_table) b.is_table
