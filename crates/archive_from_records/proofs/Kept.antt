-- An archive of which a part is kept.
use Rattle.std.proofs.Common.{◌≡◌, ℕ, Bool, true, false, ◌&&◌, ◌||◌, List, [], ◌∷◌, ◌++◌, refl, sym, ap, ◌∙◌, arith}
use Rattle.std.specs.Ordering.{nat_cmp, eq_by_cmp}
use Rattle.std.specs.Cmp.Lexicographic.{slice_cmp, nat_list_cmp_total}
use Rattle.std.specs.FinSet as set
use Rattle.std.specs.FinSet.{same_set, contains-insert, contains-empty}
use Rattle.archive_core.specs.Content.{Operations, with_record}
use Rattle.archive_core.specs.Part.{part}
use Rattle.archive_core.proofs.Picked.{contains_part}
use Rattle.archive_core.proofs.Taken.{tied_is}
use Rattle.archive_core.proofs.Made.{and_left, bytes_same}
use Rattle.archive_records.specs.declared.kind.TextKind.TheVariants.{Archive as Archive_text}
use Rattle.archive_records.specs.Reader.{MakeThemselves}
use Rattle.archive_records.proofs.Apart.{contains-push, part-push}

-- ---- one record more

taken_in : (a b c : Bool) → (a ≡ true → c ≡ true) → (a || (b && c)) ≡ ((a || b) && c)
taken_in a b c h = grind arith

left_out : (a b c : Bool) → (a ≡ true → c ≡ false) → (b && c) ≡ ((a || b) && c)
left_out a b c h = grind arith

module _ (picks : List ℕ → Bool) (records : List (List ℕ)) (x : List ℕ) (o : Operations) (is : o ≡ part (set.from_list records) picks) where
  old : (q : List ℕ) → set.contains o q ≡ (set.contains (set.from_list {R = slice_cmp nat_cmp} records) q && picks q)
  old q = ap (λ (s : Operations). set.contains s q) is ∙ contains_part (set.from_list records) picks q

  new : (q : List ℕ) → set.contains (part (set.from_list (records ++ x ∷ [])) picks) q
      ≡ ((eq_by_cmp (slice_cmp nat_cmp) q x || set.contains (set.from_list {R = slice_cmp nat_cmp} records) q)
      && picks q)
  new q = contains_part (set.from_list (records ++ x ∷ [])) picks q ∙ ap (λ b. b && picks q) (contains-push records x q)

  pub picked_more : picks x ≡ true → MakeThemselves Archive_text (records ++ x ∷ []) → (p : Operations) → p
      ≡ with_record o x → p ≡ part (set.from_list (records ++ x ∷ [])) picks
  picked_more passes apart p e = e ∙ part-push records x o (λ r h. and_left _ _ (sym (old r) ∙ h)) apart.0
      ∙ same_set nat_list_cmp_total bytes_same (set.insert o x) (part (set.from_list (records ++ x ∷ [])) picks) (λ q.
      rw (contains-insert nat_list_cmp_total o x q, old q, new q)
      (taken_in (eq_by_cmp (slice_cmp nat_cmp) q x) _ (picks q) (λ h. ap picks (tied_is q x h) ∙ passes)))

  pub unpicked_more : picks x ≡ false → o ≡ part (set.from_list (records ++ x ∷ [])) picks
  unpicked_more fails = same_set nat_list_cmp_total bytes_same o (part (set.from_list (records ++ x ∷ [])) picks) (λ q.
      rw (old q, new q) (left_out (eq_by_cmp (slice_cmp nat_cmp) q x) _ (picks q) (λ h. ap picks (tied_is q x h) ∙ fails)))

-- the part of no record
pub part_start : (picks : List ℕ → Bool) (o : Operations) → o ≡ set.empty → o ≡ part (set.from_list []) picks
part_start picks o e = e ∙ same_set nat_list_cmp_total bytes_same set.empty (part (set.from_list []) picks) (λ q.
    rw (contains_part set.empty picks q, contains-empty (slice_cmp nat_cmp) q) refl)
