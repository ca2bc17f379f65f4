-- Answers of the code, in the terms of the definitions.
use Rattle.std.specs.Prelude.{◌≡◌, ℕ, Bool, true, false, List, [], ◌∷◌, map, take, drop, slice_get, slice_index_or}
use Rattle.std.specs.Prelude.{Option, None, Some, Vec}
use Rattle.std.specs.List.{AllZip}
use Rattle.std.specs.Option.{option_map}
use Rattle.macho_symbols.specs.Found.{FoundRecord}
use Rattle.dwarf_source_frames.specs.Frames.{FrameRecord}
use Rattle.dwarf_source_frames.specs.FrameViews.{frame_view}
use Rattle.dwarf_source_frames.specs.declared.frame.SourceFrame.{SourceFrame}
use Rattle.table_symbols.specs.Found.{owned_view}
use Rattle.table_symbols.specs.declared.found.OwnedFound.{OwnedFound}
use Rattle.table_source_frames.specs.FrameViews.{owned_frames}
use Rattle.table_source_frames.specs.declared.frame.OwnedFrame.{OwnedFrame}
use Rattle.archive_core.specs.Lookup.{AnswerRecord, OwnRow, Unanswered, Alone, Disputed}
use Rattle.archive_core.specs.declared.lookup.Where.{Where}
use Rattle.index_format.specs.Entry.{claim_in}
use Rattle.index_lookup.specs.Among.{EntryAt}
use Rattle.index_lookup.specs.Told.{AreFramesToldBy, IsToldBy}
use Rattle.index_lookup.specs.declared.answers.EntryAnswers.{EntryAnswers}

-- the answer for an address
abbrev pub told_view : Option OwnedFound → Option FoundRecord
told_view own = option_map owned_view own

-- the frames for an address
abbrev pub list_in : {A : Type 0} → Vec OwnedFrame A → List FrameRecord
list_in list = owned_frames list.items

-- the same, borrowed
abbrev pub borrowed_in : {A : Type 0} → Vec SourceFrame A → List FrameRecord
borrowed_in list = map (λ frame. frame_view frame) list.items

-- the frames for addresses
abbrev pub frame_lists : EntryAnswers → List (List FrameRecord)
frame_lists column = map list_in column.frames.items

-- the answers of an entry for addresses, in their order, with these bytes of the indexes, and if lines are asked for
-- the frames
pub record IsColumnAt (texts : List (List ℕ)) (lines : Bool) (asked : List Where) (x : EntryAt)
    (column : EntryAnswers) : Type 0 where
  pub digest_is : column.digest.0 ≡ take 32 (drop 25 x.entry)
  pub owns : (text : List ℕ) → slice_get texts x.input ≡ Some text
      → AllZip (IsToldBy text (claim_in x.entry)) asked (map told_view column.owns.items)
  pub frames : lines ≡ true → (text : List ℕ) → slice_get texts x.input ≡ Some text
      → AllZip (AreFramesToldBy text (claim_in x.entry)) asked (frame_lists column)

-- the row of a column
abbrev pub row_at : ℕ → EntryAnswers → OwnRow
row_at number column = record {
  digest = column.digest.0;
  own = slice_index_or (map told_view column.owns.items) number None;
}

-- the answer of rows together
abbrev pub answer_of : List OwnRow → AnswerRecord
answer_of [] = Unanswered
answer_of (row ∷ []) = Alone row.own
answer_of (row ∷ (other ∷ rows)) = Disputed (row ∷ (other ∷ rows))

-- the frames of a column
abbrev pub frames_at : ℕ → EntryAnswers → List FrameRecord
frames_at number column = slice_index_or (frame_lists column) number []

-- the frames that are shown for columns, if lines are asked for
abbrev pub shown_of : Bool → ℕ → List EntryAnswers → List (List FrameRecord)
shown_of true number columns = map (frames_at number) columns
shown_of false number columns = []
