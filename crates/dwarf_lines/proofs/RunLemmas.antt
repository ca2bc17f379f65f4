-- The rows of a program are those of its one series of instructions, and an address belongs to one row.
use Rattle.std.proofs.Common.{◌≡◌, ℕ, zero, suc, ◌<◌, ◌≤◌, ◌⊎◌, List, [], ◌∷◌, ◌++◌, length, slice_get, Option, Some}
use Rattle.std.proofs.Common.{None, refl, sym, ap, ◌∙◌, inl, inr, arith, nat_lt}
use Rattle.std.proofs.lemmas.Bool.{cases_Bool, ltb-true, ltb-false}
use Rattle.dwarf_lines.specs.Header.{HeaderRecord}
use Rattle.dwarf_lines.specs.Instructions.{instruction_at}
use Rattle.dwarf_lines.specs.Machine.{appended, following, rows_from}
use Rattle.dwarf_lines.specs.Runs.{AreInstructions, rows_of, Appends}
use Rattle.dwarf_lines.specs.Covering.{IsCovering}
use Rattle.dwarf_lines.specs.declared.instruction.Instruction.{Instruction}
use Rattle.dwarf_lines.specs.declared.registers.Registers.{Registers}
use Rattle.dwarf_lines.specs.declared.registers.Row.{Row}
use Rattle.dwarf_lines.proofs.ShorterLemmas.{nothing_read, instruction_shorter}
use Rattle.dwarf_lines.proofs.RowLemmas.{rows_some, rows_none}
use Rattle.dwarf_encoding.proofs.SequenceLemmas.{none_or_some}

-- the rows of the instructions
rows_are : (header : HeaderRecord) (r : Registers) (bytes : List ℕ) (is : List Instruction)
    → AreInstructions header bytes is → rows_from header r bytes ≡ rows_of header r is
rows_are header r bytes [] none = rows_none header r bytes none
rows_are header r bytes (i ∷ is) some =
    rows_some header r bytes (i, some.0) some.1
    ∙ ap (λ rows. appended header r i ++ rows) (rows_are header (following header r i) some.0 is some.2)

-- there are such instructions
series : (count : ℕ) (header : HeaderRecord) (bytes : List ℕ) → length bytes ≤ count → (is : List Instruction) × AreInstructions header bytes is
series zero header [] h = ([], nothing_read header)
series zero header (b ∷ bytes) h = absurd (omega arith)
series (suc count) header bytes h = elim (none_or_some (instruction_at header bytes)) [
  | inl none ↦ ([], none)
  | inr some ↦
      let more = series count header some.0.1 (omega (arith, instruction_shorter header bytes some.0 some.1)) in
      (some.0.0 ∷ more.0, (some.0.1, some.1, more.1))
]

pub one_run : (header : HeaderRecord) (r : Registers) (bytes : List ℕ) (rows : List Row)
    → (Appends header r bytes rows → rows ≡ rows_from header r bytes)
    × (rows ≡ rows_from header r bytes → Appends header r bytes rows)
one_run header r bytes rows = (
  λ run. run.2 ∙ sym (rows_are header r bytes run.0 run.1),
  λ same. let run = series (length bytes) header bytes (omega arith) in (run.0, run.1, same ∙ rows_are header r bytes run.0 run.1),
)

-- of two places one comes first, or they are one
places : (i j : ℕ) → (i < j) ⊎ (j < i) ⊎ (i ≡ j)
places i j = elim (cases_Bool (nat_lt i j)) [
  | inl t ↦ inl (ltb-true i j t)
  | inr f ↦ elim (cases_Bool (nat_lt j i)) [
    | inl t ↦ inr (inl (ltb-true j i t))
    | inr g ↦ inr (inr (omega (arith, ltb-false i j f, ltb-false j i g)))
  ]
]

pub one_covering : (rows : List Row) (address : ℕ) (one other : Option Row) → IsCovering rows address one → IsCovering rows address other → one ≡ other
one_covering rows address None None p q = refl
one_covering rows address None (Some row) p q = absurd (p q.0 row q.1)
one_covering rows address (Some row) None p q = absurd (q p.0 row p.1)
one_covering rows address (Some row) (Some other) p q = elim (places p.0 q.0) [
  | inl less ↦ absurd (q.2 p.0 row less p.1)
  | inr more ↦ elim more [
    | inl less ↦ absurd (p.2 q.0 other less q.1)
    | inr same ↦ sym p.1.stands ∙ ap (slice_get rows) same ∙ q.1.stands
  ]
]
