use Rattle.std.proofs.Common.{subst}
use Rattle.macho_symbols.specs.Symbols.{strings_of}
use Rattle.table_source_frames.specs.LineTable.{IsLineTextWithin, room_of}
use Rattle.table_source_frames.proofs.laws.one_line_table.Goals as goal

pub returns : goal.returns
returns c = λ image bytes others p q.
    c.one_text.ensures (room_of image) (strings_of image) q.steps bytes others
    (subst (λ steps. IsLineTextWithin (room_of image) (strings_of image) steps bytes)
    (c.one_list_of_steps.ensures image p.steps q.steps p.are_steps q.are_steps) p.is_text) q.is_text
