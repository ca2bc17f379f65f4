-- The bytes that are stored for entries that answer.
use Rattle.std.proofs.Common.{ℕ, Bool, List, [], ◌∷◌, Some, ◌≡◌, slice_get, subst, arith, inl, inr}
use Rattle.std.specs.Prelude.{Contains}
use Rattle.std.specs.List.{AllZip}
use Rattle.table_checked_pages.specs.Pages.{AreStored}
use Rattle.table_checked_pages.proofs.PageLemmas.{may_be}
use Rattle.dwarf_source_frames.specs.Frames.{FrameRecord}
use Rattle.table_symbols.specs.Opened.{AreHeaded}
use Rattle.archive_core.specs.Lookup.{Alone, AnswerRecord, Disputed, Unanswered}
use Rattle.archive_core.specs.declared.lookup.Where.{Where}
use Rattle.archive_core.proofs.Members.{in_cons}
use Rattle.index_format.specs.Entry.{claim_in}
use Rattle.index_lookup.specs.Among.{EntryAt}
use Rattle.index_lookup.specs.AmongTold.{IsAnswerAmong, IsToldOfAmong, IsToldRowAt}

-- one of a list that is told pair by pair is told
told_of_one : {X Y : Type 0} (R : X → Y → Type 0) (xs : List X) (ys : List Y) (x : X) → AllZip R xs ys → Contains xs x
    → (y : Y) × R x y
told_of_one R [] ys x all c = absurd (omega (arith, c.1))
told_of_one R (z ∷ xs) [] x all c = absurd all
told_of_one R (z ∷ xs) (y ∷ ys) x all c = elim (in_cons z xs x c) [
  | inl e ↦ (y, subst (λ w. R w y) e all.0)
  | inr there ↦ told_of_one R xs ys x all.1 there
]

headed_of : (texts : List (List ℕ)) (asked : Where) (answering : List EntryAt) (answer : AnswerRecord) (x : EntryAt)
    (text all : List ℕ) → IsToldOfAmong texts asked answering answer → Contains answering x
    → slice_get texts x.input ≡ Some text → AreStored text (claim_in x.entry) all → AreHeaded all
headed_of texts asked answering Unanswered x text all told has at stored =
    absurd (omega (arith, (subst (λ (xs : List EntryAt). Contains xs x) told has).1))
headed_of texts asked answering (Alone own) x text all told has at stored =
    let one = subst (λ (xs : List EntryAt). Contains xs x) told.2 has in
    elim (in_cons told.0 [] x one) [
      | inl same ↦
          let row : IsToldRowAt texts asked x told.1 = subst (λ (y : EntryAt). IsToldRowAt texts asked y told.1) same told.4 in
          (row.own_is text at).of_bytes all (may_be text all (claim_in x.entry) stored)
      | inr none ↦ absurd (omega (arith, none.1))
    ]
headed_of texts asked answering (Disputed rows) x text all told has at stored =
    let row = told_of_one (IsToldRowAt texts asked) answering rows x told.1 has in
    (row.1.own_is text at).of_bytes all (may_be text all (claim_in x.entry) stored)

pub headed : (texts : List (List ℕ)) (indexes : List (List (List ℕ))) (prefix : List ℕ) (lines : Bool) (asked : Where)
    (answer : AnswerRecord) (frames : List (List FrameRecord)) (x : EntryAt) (text all : List ℕ)
    (is : IsAnswerAmong texts indexes prefix lines asked answer frames) → Contains is.answering x
    → slice_get texts x.input ≡ Some text → AreStored text (claim_in x.entry) all → AreHeaded all
headed texts indexes prefix lines asked answer frames x text all is has at stored =
    headed_of texts asked is.answering answer x text all is.answer_is has at stored
