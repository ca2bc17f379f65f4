-- The lines of `symbolicate`.
use Rattle.std.specs.Prelude.{ℕ, List, ◌∷◌, [], ◌++◌, codes, length}
use Rattle.std.specs.List.{flat_map}
use Rattle.std.specs.Fmt.{decimal}
use Rattle.macho_symbols.specs.declared.found.Found.{Found}
use Rattle.archive_core.specs.declared.lookup.Own.{Own}
use Rattle.archive_core.specs.declared.lookup.Own.TheVariants.{NoSymbol, Symbol}
use Rattle.archive_core.specs.declared.lookup.Answer.{Answer}
use Rattle.archive_core.specs.declared.lookup.Answer.TheVariants.{Unknown, NoSymbol as AnswerNoSymbol}
use Rattle.archive_core.specs.declared.lookup.Answer.TheVariants.{Symbol as AnswerSymbol, Conflict}
use Rattle.archive_core.specs.declared.keys.Digest.{Digest}
use Rattle.text_values.specs.Words.{address_text, digest_text}
use Rattle.dwarf_source_frames.specs.Frames.{FrameRecord}
use Rattle.text_reports.specs.Escapes.{escaped}
use Rattle.text_reports.specs.Frames.{frame_lines}
use Rattle.text_reports.specs.Report.{line}

-- a symbol, the distance of the address from it, and its section
unfoldable pub found_text : Found → List ℕ
found_text found =
    escaped found.name.now ++ codes " + " ++ decimal found.offset
    ++ codes " (" ++ escaped found.segment.now ++ codes "," ++ escaped found.section.now ++ codes ")"

-- the answer of one slice
unfoldable pub own_text : Own → List ℕ
own_text NoSymbol = codes "-"
own_text (Symbol found) = found_text found

-- the answer of one slice of several
unfoldable pub own_line : Digest × Own → List ℕ
own_line own = line (codes "  " ++ digest_text own.0 ++ codes " " ++ own_text own.1)

-- the answers of several slices: a line for each, and after it those of its frames; the lists of frames have the order
-- of the slices, and slices after the end of the lists have none
abbrev pub owns_lines : List (Digest × Own) → List (List FrameRecord) → List ℕ
owns_lines [] frames = []
owns_lines (own ∷ owns) [] = own_line own ++ owns_lines owns []
owns_lines (own ∷ owns) (its ∷ frames) = own_line own ++ frame_lines its ++ owns_lines owns frames

-- the answer of a key for an address, with the frames of the slices that answer: a line, and after it those of the
-- frames; or after the line of a conflict the answer of each slice
unfoldable pub answer_lines : ℕ → Answer → List (List FrameRecord) → List ℕ
answer_lines address Unknown frames = line (address_text address ++ codes " ?") ++ flat_map frame_lines frames
answer_lines address AnswerNoSymbol frames = line (address_text address ++ codes " -") ++ flat_map frame_lines frames
answer_lines address (AnswerSymbol found) frames =
    line (address_text address ++ codes " " ++ found_text found) ++ flat_map frame_lines frames
answer_lines address (Conflict owns) frames =
    line (address_text address ++ codes " !" ++ decimal (length owns.items)) ++ owns_lines owns.items frames
