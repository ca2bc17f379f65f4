-- The lines of rows, told of what the rows tell.
use Rattle.std.proofs.Common.{◌≡◌, ◌++◌, ℕ, List, [], ◌∷◌, map, refl, ap, append_assoc}
use Rattle.std.specs.List.{flat_map}
use Rattle.archive_core.specs.Names.{owned_name_view}
use Rattle.archive_core.specs.declared.names.OwnedNameRow.{OwnedNameRow}
use Rattle.text_reports.specs.Names.{name_row_text, name_lines}
use Rattle.text_reports.specs.Report.{line}

pub lines_viewed : (rows : List OwnedNameRow) → flat_map (λ row. line (name_row_text (owned_name_view row))) rows ≡ name_lines (map owned_name_view rows)
lines_viewed [] = refl
lines_viewed (row ∷ rows) = ap (λ text. line (name_row_text (owned_name_view row)) ++ text) (lines_viewed rows)

-- the pieces of a row, put together from the back or from the front
pub regrouped : (key gap digest between address start segment comma name close : List ℕ)
    → key ++ (gap ++ (digest ++ (between ++ (address ++ (start ++ (segment ++ (comma ++ (name ++ close))))))))
    ≡ ((((((((key ++ gap) ++ digest) ++ between) ++ address) ++ start) ++ segment) ++ comma) ++ name) ++ close
regrouped key gap digest between address start segment comma name close = simp append_assoc
