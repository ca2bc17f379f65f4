-- The search for a row finds the first that tells of an address.
use Rattle.std.proofs.Common.{◌≡◌, ℕ, zero, suc, ◌<◌, ◌≤◌, true, false, List, [], ◌∷◌, Option, Some, None, slice_get}
use Rattle.std.proofs.Common.{refl, sym, ap, ◌∙◌, inl, inr, arith, add-one}
use Rattle.std.proofs.lemmas.Bool.{cases_Bool}
use Rattle.std.proofs.lemmas.Bool.Decides.{nat_tests}
use Rattle.std.proofs.lemmas.Option.{none-some, same_Some}
use Rattle.dwarf_lines.specs.Covering.{CoversAt, IsCovering}
use Rattle.dwarf_lines.specs.Inner.{covers, covered, covering_after, covering_with}
use Rattle.dwarf_lines.specs.declared.registers.Row.{Row}

-- what the test means
pub record IsCovered (address : ℕ) (row next : Row) : Type 0 where
  pub inside : row.end_sequence ≡ false
  pub above : row.registers.address ≤ address
  pub below : address < next.registers.address

pub test_true : (address : ℕ) (row next : Row) → covers address row next ≡ true → IsCovered address row next
test_true address row next h = record { inside = grind (arith, nat_tests); above = grind (arith, nat_tests); below = grind (arith, nat_tests) }

pub test_false : (address : ℕ) (row next : Row) → covers address row next ≡ false → IsCovered address row next → ⊥
test_false address row next h k = let a = k.inside in let b = k.above in let c = k.below in grind (arith, nat_tests)

-- the first row
at_first : (address : ℕ) (row next : Row) (rows : List Row) → covers address row next ≡ true → CoversAt (row ∷ next ∷ rows) address 0 row
at_first address row next rows h =
    let p = test_true address row next h in
    record { stands = refl; inside = p.inside; above = p.above; next = next; followed = refl; below = p.below }

-- a row after the first
at_more : (address index : ℕ) (row found : Row) (rows : List Row) → CoversAt rows address index found → CoversAt (row ∷ rows) address (suc index) found
at_more address index row found rows p =
    record {
      stands = p.stands;
      inside = p.inside;
      above = p.above;
      next = p.next;
      followed =
          ap (slice_get (row ∷ rows)) (add-one (suc index)) ∙ ap (slice_get rows) (sym (add-one index))
          ∙ p.followed;
      below = p.below;
    }

-- and the other way
at_less : (address index : ℕ) (row found : Row) (rows : List Row) → CoversAt (row ∷ rows) address (suc index) found → CoversAt rows address index found
at_less address index row found rows p =
    record {
      stands = p.stands;
      inside = p.inside;
      above = p.above;
      next = p.next;
      followed =
          ap (slice_get rows) (add-one index) ∙ ap (slice_get (row ∷ rows)) (sym (add-one (suc index)))
          ∙ p.followed;
      below = p.below;
    }

at_zero : (address : ℕ) (row next found : Row) (rows : List Row) → CoversAt (row ∷ next ∷ rows) address 0 found → IsCovered address row next
at_zero address row next found rows p =
    let same : row ≡ found = same_Some row found p.stands in
    let after : next ≡ p.next = same_Some next p.next p.followed in
    record {
      inside = ap (λ (r : Row). r.end_sequence) same ∙ p.inside;
      above = omega (arith, p.above, ap (λ (r : Row). r.registers.address) same);
      below = omega (arith, p.below, ap (λ (r : Row). r.registers.address) after);
    }

-- one row alone tells of nothing
at_alone : (address index : ℕ) (row found : Row) → CoversAt (row ∷ []) address index found → ⊥
at_alone address zero row found p = none-some p.next p.followed
at_alone address (suc index) row found p = none-some found p.stands

-- where the first row tells of nothing, none does that stands before those that follow
at_any : (address : ℕ) (row next : Row) (rows : List Row) → covers address row next ≡ false → (bound : ℕ)
    → ((index : ℕ) (other : Row) → index < bound → CoversAt (next ∷ rows) address index other → ⊥)
    → (index : ℕ) (other : Row) → index < suc bound → CoversAt (row ∷ next ∷ rows) address index other → ⊥
at_any address row next rows h bound none zero other less p = test_false address row next h (at_zero address row next other rows p)
at_any address row next rows h bound none (suc index) other less p = none index other (omega arith) (at_less address index row other (next ∷ rows) p)

-- what is found after a row that tells of nothing
more : (address : ℕ) (row next : Row) (rows : List Row) (found : Option Row) → covers address row next ≡ false
    → IsCovering (next ∷ rows) address found → IsCovering (row ∷ next ∷ rows) address found
more address row next rows None h is = λ index other p.
    at_any address row next rows h (suc index) (λ i o l q. is i o q) index other (omega arith) p
more address row next rows (Some found) h is =
    (suc is.0, at_more address is.0 row found (next ∷ rows) is.1, λ index other less p. at_any address row next rows h is.0 is.2 index other less p)

-- the search finds the first
pub covering_after-is : (address : ℕ) (row : Row) (rows : List Row) → IsCovering (row ∷ rows) address (covering_after address row rows)
unfolding covering_after
covering_after-is address row [] = λ index other p. at_alone address index row other p
covering_after-is address row (next ∷ rows) = elim (cases_Bool (covers address row next)) [
  | inl t ↦ rw t (0, at_first address row next rows t, λ index other less p. absurd (omega arith))
  | inr f ↦ rw f (more address row next rows (covering_after address next rows) f (covering_after-is address next rows))
]

pub covering_with-is : (address : ℕ) (rows : List Row) → IsCovering rows address (covering_with address None rows)
covering_with-is address [] = λ index other p. none-some other p.stands
covering_with-is address (row ∷ rows) = covering_after-is address row rows

-- a step of the search
pub step_some : (address : ℕ) (before : Option Row) (row found : Row) (rows : List Row) → covered address before row
    ≡ Some found → covering_with address before (row ∷ rows) ≡ Some found
unfolding covering_after
step_some address None row found rows h = absurd (none-some found h)
step_some address (Some kept) row found rows h = elim (cases_Bool (covers address kept row)) [
  | inl t ↦ rw t (rw t at h)
  | inr f ↦ absurd (none-some found (rw f at h))
]

pub step_none : (address : ℕ) (before : Option Row) (row : Row) (rows : List Row) → covered address before row ≡ None
    → covering_with address before (row ∷ rows) ≡ covering_with address (Some row) rows
unfolding covering_after
step_none address None row rows h = refl
step_none address (Some kept) row rows h = elim (cases_Bool (covers address kept row)) [
  | inl t ↦ absurd (none-some kept (sym (rw t at h)))
  | inr f ↦ rw f refl
]

pub step_end : (address : ℕ) (before : Option Row) → covering_with address before [] ≡ None
unfolding covering_after
step_end address None = refl
step_end address (Some row) = refl
