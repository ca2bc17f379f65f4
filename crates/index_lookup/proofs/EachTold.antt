-- What is told of several places is told of each.
use Rattle.std.proofs.Common.{ℕ, ◌<◌, Bool, true, false, List, [], ◌∷◌, length, map, get_or, refl, arith, None}
use Rattle.std.specs.List.{AllZip}
use Rattle.archive_core.specs.Lookup.{OwnRow}
use Rattle.archive_core.specs.declared.lookup.Where.{Where}
use Rattle.index_format.specs.Entry.{claim_in}
use Rattle.index_lookup.specs.Among.{AreAnsweringAmong, EntryAt}
use Rattle.index_lookup.specs.AmongTold.{AreShownAmong, IsAnswerAmong, IsToldOfAmong, IsToldRowAt}
use Rattle.index_lookup.specs.Told.{AreFramesToldBy, IsToldBy}
use Rattle.index_lookup.specs.Views.{IsColumnAt, answer_of, frame_lists, row_at, shown_of, told_view}
use Rattle.index_lookup.specs.declared.answers.EntryAnswers.{EntryAnswers}
use Rattle.index_lookup.proofs.Columns.{zip_at}

rows_told : (texts : List (List ℕ)) (lines : Bool) (asked : List Where) (number : ℕ) (d : Where) (xs : List EntryAt)
    (columns : List EntryAnswers) → number < length asked → AllZip (IsColumnAt texts lines asked) xs columns
    → AllZip (IsToldRowAt texts (get_or asked number d)) xs (map (row_at number) columns)
rows_told texts lines asked number d [] [] lt all = tt
rows_told texts lines asked number d (x ∷ xs) (c ∷ cs) lt all = (
  record {
    digest_is = all.0.digest_is;
    own_is = λ text is. zip_at (IsToldBy text (claim_in x.entry)) asked
        (map told_view c.owns.items) number d None (all.0.owns text is) lt;
  },
  rows_told texts lines asked number d xs cs lt all.1,
)
rows_told texts lines asked number d xs columns lt all = absurd all

shown_told : (texts : List (List ℕ)) (lines : Bool) (asked : List Where) (number : ℕ) (d : Where) (xs : List EntryAt)
    (columns : List EntryAnswers) → number < length asked → AllZip (IsColumnAt texts lines asked) xs columns
    → AreShownAmong texts lines (get_or asked number d) xs (shown_of lines number columns)
shown_told texts false asked number d xs columns lt all = refl
shown_told texts true asked number d [] [] lt all = tt
shown_told texts true asked number d (x ∷ xs) (c ∷ cs) lt all = (
  λ text is. zip_at (AreFramesToldBy text (claim_in x.entry)) asked (frame_lists c) number d [] (all.0.frames refl text is) lt,
  shown_told texts true asked number d xs cs lt all.1,
)
shown_told texts true asked number d xs columns lt all = absurd all

told_of : (texts : List (List ℕ)) (asked : Where) (xs : List EntryAt) (rows : List OwnRow)
    → AllZip (IsToldRowAt texts asked) xs rows → IsToldOfAmong texts asked xs (answer_of rows)
told_of texts asked [] [] all = refl
told_of texts asked (x ∷ []) (row ∷ []) all = (x, row, refl, refl, all.0)
told_of texts asked (x ∷ (y ∷ xs)) (row ∷ []) all = absurd all.1
told_of texts asked (x ∷ []) (row ∷ (other ∷ rows)) all = absurd all.1
told_of texts asked (x ∷ (y ∷ xs)) (row ∷ (other ∷ rows)) all = (omega arith, all)
told_of texts asked xs rows all = absurd all

pub told_each : (texts : List (List ℕ)) (answering : List EntryAt) (lines : Bool) (asked : List Where) (columns : List EntryAnswers) (number : ℕ) (none : Where)
    → AllZip (IsColumnAt texts lines asked) answering columns → number < length asked
    → IsToldOfAmong texts (get_or asked number none) answering (answer_of (map (row_at number) columns))
told_each texts answering lines asked columns number none all lt =
    told_of texts (get_or asked number none) answering (map (row_at number) columns)
    (rows_told texts lines asked number none answering columns lt all)

pub answer_each : (texts : List (List ℕ)) (indexes : List (List (List ℕ))) (prefix : List ℕ) (answering : List EntryAt)
    (lines : Bool) (asked : List Where) (columns : List EntryAnswers) (number : ℕ) (none : Where)
    → AreAnsweringAmong prefix indexes answering → AllZip (IsColumnAt texts lines asked) answering columns → number < length asked
    → IsAnswerAmong texts indexes prefix lines (get_or asked number none) (answer_of (map (row_at number) columns)) (shown_of lines number columns)
answer_each texts indexes prefix answering lines asked columns number none are all lt = record {
  answering = answering;
  are = are;
  answer_is = told_each texts answering lines asked columns number none all lt;
  shown = shown_told texts lines asked number none answering columns lt all;
}
