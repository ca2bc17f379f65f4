-- What was taken decides no fault.
use Rattle.std.proofs.Common.{◌≡◌, ℕ, ◌<◌, ◌^◌, Bool, true, false, List, [], ◌∷◌, ◌++◌, length, refl, sym, ap, ◌∙◌, subst, arith, inl, inr, ◌⊎◌, length-append}
use Rattle.std.proofs.lemmas.List.{append-nil}
use Rattle.std.specs.List.{concat}
use Rattle.archive_core.specs.Content.{is_covered}
use Rattle.archive_records.specs.declared.fault.RecordFaultKind.TheVariants.{Truncated, Trailing}
use Rattle.archive_records.specs.declared.fault.RecordFault.{RecordFault}
use Rattle.archive_records.specs.declared.format.Format.{Format}
use Rattle.archive_records.specs.declared.format.Format.TheVariants.{Archive, Operations}
use Rattle.archive_records.specs.Kind.{magic_of, may_follow}
use Rattle.archive_records.specs.Text.{ending, InOrder, AreApart, last_of}
use Rattle.archive_records.specs.Fault.{next, FailsNext, IsUnended, IsCutAtMost}
use Rattle.archive_records.specs.Front.{IsGoodFront, front_length}
use Rattle.archive_records.specs.Reading.{IsOfMachine}
use Rattle.archive_records.specs.Reader.{set_of, KeepsIn, AreRetired}
use Rattle.archive_records.specs.Layout.{framed}
use Rattle.archive_records.proofs.Puts.{concat-push}
use Rattle.archive_records.proofs.Apart.{covered_alike, push_apart}
use Rattle.archive_records.proofs.Exact.{one_fault, no_fault}

pub no_machine : IsOfMachine Trailing → ⊥
no_machine e = grind arith

-- what is kept as it has to be is no fault
pub kept_uncovered : (file : Format) (old new : List (List ℕ)) (dropped : Bool) (x : List ℕ)
    → KeepsIn file old new dropped x → file ≡ Archive → is_covered (set_of old) x ≡ false
kept_uncovered Archive old new dropped x k is = k.0.tells ∙ k.1
kept_uncovered _ old new dropped x k is = absurd cc

-- a record that is not covered stands apart with those before it
pub apart_whole : (file : Format) (retired records : List (List ℕ)) (x : List ℕ) → InOrder file [] records
    → may_follow file (last_of [] records) x ≡ true → AreApart file records → AreRetired file retired records
    → (file ≡ Archive → is_covered (set_of retired) x ≡ false) → AreApart file (records ++ x ∷ [])
apart_whole Archive retired records x a b is are free = push_apart records x a b is (sym (covered_alike (set_of retired) (set_of records) x are) ∙ free refl)
apart_whole _ retired records x a b is are free = tt

-- operations end where nothing is left
ended_or_not : (file : Format) (n : ℕ) (rest : List ℕ) → (rest ≡ ending file n) ⊎ IsUnended file rest
ended_or_not Operations n [] = inl refl
ended_or_not Operations n (x ∷ rest) = inr (λ e. cc)
ended_or_not _ n rest = inr tt

module _ (file : Format) (records : List (List ℕ)) (ordered : InOrder file [] records) (apart : AreApart file records) (few : length records < 2 ^ 64) where
  -- a text has no fault
  pub cut_text : (rest : List ℕ) → rest ≡ ending file (length records) → IsCutAtMost file (magic_of file ++ (concat records ++ rest))
  cut_text rest is = λ fault f. absurd (no_fault file (magic_of file ++ (concat records ++ rest)) records ordered apart
      (ap (λ (t : List ℕ). magic_of file ++ (concat records ++ t)) is) fault few f)

  -- where the rest is cut off the text has no other fault
  pub cut_off : (rest : List ℕ) → FailsNext file (last_of [] records) (length records) rest Truncated
      → IsCutAtMost file (magic_of file ++ (concat records ++ rest))
  cut_off rest fails =
      let bytes : List ℕ = magic_of file ++ (concat records ++ rest) in
      let front : IsGoodFront file bytes records = record { ordered = ordered; apart = apart; rest = rest; whole = refl } in
      let cut : RecordFault = record { kind = Truncated; offset = front_length records } in
      elim (ended_or_not file (length records) rest) [
        | inl end ↦ cut_text rest end
        | inr more ↦ λ fault f. ap (λ (t : RecordFault). t.kind) (one_fault file bytes fault cut f (inr (records, front, more, inl (inl fails, refl))))
      ]

-- nor has it another where a whole item came that may stand there
pub cut_behind : (file : Format) (records : List (List ℕ)) (item : List ℕ) → InOrder file [] (records ++ item ∷ [])
    → AreApart file (records ++ item ∷ []) → length records < 2 ^ 63
    → IsCutAtMost file (magic_of file ++ (concat records ++ item))
unfolding next framed
cut_behind file records item ordered apart few =
    let same : concat (records ++ item ∷ []) ++ [] ≡ concat records ++ item = append-nil (concat (records ++ item ∷ [])) ∙ concat-push records item in
    subst (λ (t : List ℕ). IsCutAtMost file (magic_of file ++ t)) same
    (cut_off file (records ++ item ∷ []) ordered apart (omega (arith, few, length-append records (item ∷ []))) [] (inl refl))
