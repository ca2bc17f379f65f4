-- The table of a slice: of what it is made, that it is one of its symbols, and where it has no lines.
use Rattle.std.proofs.Common.{◌≡◌, ℕ, List, subst}
use Rattle.table_source_frames.specs.LineTable.{IsLineTable}
use Rattle.table_symbols.specs.Table.{IsTableText, IsTableWith}
use Rattle.table_source_frames.specs.SliceTable.{IsSliceTable}

-- the table of an image with its lines is that of the slice, which the image is
pub table_of_lines : (image slice lines bytes : List ℕ) → image ≡ slice → IsLineTable image lines → IsTableWith image lines bytes → IsSliceTable slice bytes
table_of_lines image slice lines bytes same are_lines is_table =
    let made : IsSliceTable image bytes = record { lines = lines; are_lines = are_lines; is_table = is_table } in
    subst (λ s. IsSliceTable s bytes) same made

pub table_of_symbols : (image bytes : List ℕ) → IsSliceTable image bytes → IsTableText image bytes
table_of_symbols image bytes is = (is.is_table.0, is.is_table.1, is.is_table.2, is.is_table.3)
