-- What of ascending records is written: those that no retirement among them covers.
use Rattle.std.proofs.Common.{arith, ◌≡◌, ◌≢◌, ℕ, Bool, true, false, ◌&&◌, ◌||◌, List, [], ◌∷◌, ◌++◌, Option, refl, sym, ap, ◌∙◌, inl, inr}
use Rattle.std.proofs.lemmas.Bool.{cases_Bool, or_left, or_right}
use Rattle.std.specs.FinSet.{contains}
use Rattle.archive_core.specs.Content.{is_admission, key_and_digest, covering, is_covered}
use Rattle.archive_records.specs.declared.format.Format.{Format}
use Rattle.archive_records.specs.declared.format.Format.TheVariants.{Archive, OldArchive, Operations as Operations_file, Summary as Summary_file}
use Rattle.archive_records.specs.declared.kind.TextKind.TheVariants.{Archive as Archive_text}
use Rattle.archive_merge.specs.declared.side.Lookahead.{Lookahead}
use Rattle.archive_merge.specs.declared.side.Lookahead.TheVariants.{Unread, Held, Ended}
use Rattle.archive_merge.specs.declared.side.MergeInput.{MergeInput}
use Rattle.archive_records.specs.Kind.{kind_of, may_follow}
use Rattle.archive_records.specs.Text.{last_of}
use Rattle.archive_records.specs.Reader.{set_of, RetireAlike, AreRetired, DropsLast}
use Rattle.archive_merge.specs.MergeSteps.{Stands, Joins}
use Rattle.archive_records.proofs.Apart.{in_set, from_set, is_false, covering_below, contains-push, covered_push, same_as}
use Rattle.archive_records.proofs.Contents.{same_bytes}
use Rattle.archive_records.proofs.Ascending.{below-trans, below-self, last_of-append}

-- ---- what the sides' retirements cover

pub not_same : (q y : List ℕ) → (y ≡ q → ⊥) → same_as q y ≡ false
not_same q y other = is_false (same_as q y) (λ h. other (sym (same_bytes q y h)))

-- the retirements of an archive's records, whatever its version
pub retired_of : (f : Format) → kind_of f ≡ Archive_text → (retired records : List (List ℕ))
    → AreRetired f retired records → RetireAlike (set_of retired) (set_of records)
retired_of Archive k retired records are = are
retired_of OldArchive k retired records are = are
retired_of Operations_file k retired records are = cc
retired_of Summary_file k retired records are = cc

dropped_of : (f : Format) → kind_of f ≡ Archive_text → (dropped : Bool) (records : List (List ℕ))
    → DropsLast f dropped records → dropped ≡ is_covered (set_of records) (last_of [] records)
dropped_of Archive k dropped records is = is
dropped_of OldArchive k dropped records is = is
dropped_of Operations_file k dropped records is = cc
dropped_of Summary_file k dropped records is = cc

-- whether its own retirements cover the last record of a side is what its reader tells
pub dropped_own : (f : Format) → kind_of f ≡ Archive_text → (dropped : Bool) (mine : List (List ℕ)) (x : List ℕ)
    → DropsLast f dropped (mine ++ x ∷ []) → dropped ≡ is_covered (set_of mine) x
dropped_own f k dropped mine x d = dropped_of f k dropped (mine ++ x ∷ []) d
    ∙ ap (λ (r : List ℕ). is_covered (set_of (mine ++ x ∷ [])) r) (last_of-append [] mine (x ∷ []))
    ∙ covered_push mine x

-- the retirements that a side has read are those of its records but for one that it holds
module _ (a b : Option (List ℕ)) (done : List (List ℕ)) (low : List ℕ) (s : MergeInput) (p : Stands a b done low s) (q : List ℕ) where
  retired_by : (h : Lookahead) → s.ahead ≡ h → h ≢ Unread → (h ≡ Held → s.reader.last ≡ 1 ∷ q → ⊥)
      → contains (set_of s.reader.retired) (1 ∷ q) ≡ contains (set_of done) (1 ∷ q)
  retired_by Unread e read other = absurd (read refl)
  retired_by Held e read other = rw (
    retired_of s.reader.file p.archive s.reader.retired (done ++ s.reader.last ∷ [])
        (p.held e).0.retired_are q,
    contains-push done s.reader.last (1 ∷ q),
    not_same (1 ∷ q) s.reader.last (other refl),
  )
      refl
  retired_by Ended e read other = retired_of s.reader.file p.archive s.reader.retired done (p.ended e).0.retired_are q

-- what covers a record that is not above what the side holds is a retirement that it has read
pub covered_by : (a b : Option (List ℕ)) (done : List (List ℕ)) (low : List ℕ) (s : MergeInput) (x : List ℕ)
    → Stands a b done low s → s.ahead ≢ Unread → (s.ahead ≡ Held → may_follow Archive x s.reader.last ≡ true)
    → is_covered (set_of s.reader.retired) x ≡ is_covered (set_of done) x
covered_by a b done low s x p read above = elim (cases_Bool (is_admission x)) [
  | inl t ↦ ap (λ c. is_admission x && c) (retired_by a b done low s p (key_and_digest x) s.ahead refl read
      (λ held e. cc (below-self x, below-trans x (covering x) x (rw (← e) (above held)) (covering_below x t))))
  | inr f ↦ rw f
]

either_covers : (a o m t : Bool) → (o ≡ true → (m || t) ≡ true) → (m ≡ true → o ≡ true) → (t ≡ true → o ≡ true) → (a && o) ≡ ((a && m) || (a && t))
either_covers a o m t from left right = grind arith

-- what covers the record that is next is a retirement of either side
module _ (out mine others : List (List ℕ)) (x : List ℕ) (j : Joins out mine others) where
  pub by_both : is_covered (set_of (out ++ x ∷ [])) x ≡ (is_covered (set_of mine) x || is_covered (set_of others) x)
  by_both = covered_push out x ∙ either_covers (is_admission x) (contains (set_of out) (covering x))
      (contains (set_of mine) (covering x)) (contains (set_of others) (covering x))
      (λ h. elim (j.from (covering x) (from_set out (covering x) h))
      [ inl d ↦ or_left _ _ (in_set mine (covering x) d) | inr d ↦ or_right _ _ (in_set others (covering x) d) ])
      (λ h. in_set out (covering x) (j.left (covering x) (from_set mine (covering x) h)))
      (λ h. in_set out (covering x) (j.right (covering x) (from_set others (covering x) h)))

  -- the other side has read its own, since what it holds is above
  pub by_other : (a b : Option (List ℕ)) (low : List ℕ) (s : MergeInput) → Stands a b others low s → s.ahead ≢ Unread
      → (s.ahead ≡ Held → may_follow Archive x s.reader.last ≡ true)
      → is_covered (set_of (out ++ x ∷ [])) x ≡ (is_covered (set_of mine) x || is_covered (set_of s.reader.retired) x)
  by_other a b low s p read above = by_both ∙ ap (λ c. is_covered (set_of mine) x || c) (sym (covered_by a b others low s x p read above))
