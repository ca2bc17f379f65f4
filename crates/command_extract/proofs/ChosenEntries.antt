-- What the entries that answer choose.
use Rattle.std.proofs.Common.{◌≡◌, ◌≢◌, ℕ, List, [], ◌∷◌, length, map, Option, None, Some, refl, subst, arith}
use Rattle.std.specs.List.{AllZip}
use Rattle.std.proofs.lemmas.Slice.Zip.{AllZip-long}
use Rattle.archive_core.specs.Key.{key_bytes}
use Rattle.archive_core.specs.declared.keys.Digest.{Digest}
use Rattle.archive_core.specs.declared.keys.SliceKey.{SliceKey}
use Rattle.index_lookup.specs.Among.{AreAnsweringAmong, EntryAt}
use Rattle.index_lookup.specs.Named.{IsRowAt, Names, NamesAmong}
use Rattle.index_lookup.specs.declared.named.NamedSlice.{NamedSlice}
use Rattle.command_extract.specs.Entries.{AreUnchosen, IsChosen}

zip_rows : (xs : List EntryAt) (named : List NamedSlice) → AllZip Names xs named → AllZip IsRowAt xs (map (λ one. one.row) named)
zip_rows [] [] zip = tt
zip_rows (x ∷ xs) (one ∷ named) zip = (zip.0.row, zip_rows xs named zip.1)
zip_rows xs named zip = absurd zip

-- no digest is given
pub none_given : (digest : Option Digest) → ((given : Digest) → digest ≡ Some given → ⊥) → digest ≡ None
none_given None other = refl
none_given (Some given) other = absurd (other given refl)

module _ (key : SliceKey) (all : List (List (List ℕ))) where
  only_one : (xs : List EntryAt) (one : NamedSlice) → AreAnsweringAmong (key_bytes key) all xs
      → AllZip Names xs (one ∷ []) → (x : EntryAt) × IsChosen key None all x × Names x one
  only_one [] one are zip = absurd zip
  only_one (x ∷ []) one are zip = (x, are, zip.0)
  only_one (x ∷ (y ∷ xs)) one are zip = absurd zip.1

  -- one answers
  pub one_named : (named : List NamedSlice) (one : NamedSlice) → NamesAmong (key_bytes key) all named → named ≡ one ∷ []
      → (x : EntryAt) × IsChosen key None all x × Names x one
  one_named named one n is = only_one n.answering one n.are (subst (AllZip Names n.answering) is n.each)

  -- none does, or several do
  pub others_named : (named : List NamedSlice) → NamesAmong (key_bytes key) all named → length named ≢ 1
      → (xs : List EntryAt) × AreUnchosen key None all xs × AllZip IsRowAt xs (map (λ one. one.row) named)
  others_named named n other = (
    n.answering,
    (
      n.are,
      λ one. other
          (omega (arith, one, AllZip-long Names n.answering named n.each)),
    ),
    zip_rows n.answering named n.each,
  )
