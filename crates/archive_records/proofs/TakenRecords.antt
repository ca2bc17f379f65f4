-- What is taken of records, with one more.
use Rattle.std.proofs.Common.{◌≡◌, ℕ, Bool, true, false, List, [], ◌∷◌, ◌++◌, refl, sym, ap, ◌∙◌, subst}
use Rattle.archive_core.specs.Content.{is_covered, content_of, IsMade}
use Rattle.archive_core.proofs.Made.{made_again}
use Rattle.archive_records.specs.declared.format.Format.{Format}
use Rattle.archive_records.specs.declared.format.Format.TheVariants.{Archive, OldArchive}
use Rattle.archive_records.specs.Kind.{kind_of}
use Rattle.archive_records.specs.Text.{InOrder, AreApart, last_of, taken_of}
use Rattle.archive_records.specs.Reader.{set_of, DropsLast, MakeThemselves}
use Rattle.archive_records.proofs.Apart.{covered_push, covered_apart, last_of-push}
use Rattle.archive_records.proofs.Formats.{in_order_old}
use Rattle.archive_records.proofs.Contents.{are_records, InOrder-listing}
use Rattle.archive_records.proofs.Versions.{kept_set, kept_records, made_content}
use Rattle.archive_records.proofs.KeptRecords.{kept_none, kept_push, kept_pass}

pub taken_none : (file : Format) → taken_of file [] ≡ []
taken_none OldArchive = kept_none
taken_none _ = refl

-- what tells of the last record tells it of this one
covers_last : (records : List (List ℕ)) (x : List ℕ) (b : Bool) → b
    ≡ is_covered (set_of (records ++ x ∷ [])) (last_of [] (records ++ x ∷ []))
    → is_covered (set_of (records ++ x ∷ [])) x ≡ b
covers_last records x b e = ap (λ (r : List ℕ). is_covered (set_of (records ++ x ∷ [])) r) (sym (last_of-push [] records x)) ∙ sym e

module _ (records : List (List ℕ)) (x : List ℕ) where
  pub taken_push : (file : Format) → InOrder file [] (records ++ x ∷ []) → DropsLast file false (records ++ x ∷ [])
      → taken_of file (records ++ x ∷ []) ≡ taken_of file records ++ x ∷ []
  taken_push OldArchive a d = kept_push records x (in_order_old [] (records ++ x ∷ []) a) (covers_last records x false d)
  taken_push _ a d = refl

  pub taken_pass : (file : Format) → InOrder file [] (records ++ x ∷ []) → AreApart file (records ++ x ∷ [])
      → DropsLast file true (records ++ x ∷ []) → taken_of file (records ++ x ∷ []) ≡ taken_of file records
  taken_pass Archive a apart d = absurd (covered_apart records x apart (sym (covered_push records x) ∙ covers_last records x true d))
  taken_pass OldArchive a apart d = kept_pass records x (in_order_old [] (records ++ x ∷ []) a) (covers_last records x true d)
  taken_pass _ a apart d = cc

-- those that are taken make themselves, and ascend
pub made_taken : (file : Format) (records : List (List ℕ)) → InOrder file [] records → AreApart file records
    → MakeThemselves (kind_of file) (taken_of file records)
made_taken Archive records a apart = (apart, a)
made_taken OldArchive records a apart =
    let b = in_order_old [] records a in (
      subst IsMade (sym (kept_set records b)) (made_again (set_of records)),
      subst (InOrder Archive []) (kept_records records b)
          (InOrder-listing (content_of (set_of records)) (made_content (set_of records) (are_records records b))),
    )
made_taken _ records a apart = tt
