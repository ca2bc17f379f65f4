-- Steps over the rows of a program.
use Rattle.std.proofs.Common.{◌≡◌, ℕ, zero, suc, ◌<◌, ◌≤◌, List, [], ◌∷◌, ◌++◌, length, Option, Some, None, refl, ap, ◌∙◌, sym, inl, inr, arith}
use Rattle.std.specs.Option.{option_to_list}
use Rattle.dwarf_lines.specs.Header.{HeaderRecord}
use Rattle.dwarf_lines.specs.Instructions.{instruction_at}
use Rattle.dwarf_lines.specs.Machine.{applied, row_with, registers_with, appended, following, rows_within, rows_from}
use Rattle.dwarf_lines.specs.declared.instruction.Instruction.{Instruction}
use Rattle.dwarf_lines.specs.declared.registers.Registers.{Registers}
use Rattle.dwarf_lines.specs.declared.registers.Row.{Row}
use Rattle.dwarf_lines.proofs.ShorterLemmas.{nothing_read, instruction_shorter}
use Rattle.dwarf_encoding.proofs.SequenceLemmas.{none_or_some}

-- the rows where so many instructions are read, and where none is
within_some : (count : ℕ) (header : HeaderRecord) (r : Registers) (bytes : List ℕ) (x : Instruction × List ℕ) → instruction_at header bytes ≡ Some x
    → rows_within (suc count) header r bytes ≡ appended header r x.0 ++ rows_within count header (following header r x.0) x.1
unfolding rows_within
within_some count header r bytes x e = rw e refl

within_none : (count : ℕ) (header : HeaderRecord) (r : Registers) (bytes : List ℕ) → instruction_at header bytes ≡ None → rows_within count header r bytes ≡ []
unfolding rows_within
within_none zero header r bytes e = refl
within_none (suc count) header r bytes e = rw e refl

-- as covering_rows instructions as there are bytes are enough
same_within : (m n : ℕ) (header : HeaderRecord) (r : Registers) (bytes : List ℕ) → length bytes ≤ m → length bytes ≤ n
    → rows_within m header r bytes ≡ rows_within n header r bytes
same_within zero n header r [] h k = within_none 0 header r [] (nothing_read header) ∙ sym (within_none n header r [] (nothing_read header))
same_within zero n header r (b ∷ bytes) h k = absurd (omega arith)
same_within (suc m) zero header r [] h k = within_none (suc m) header r [] (nothing_read header) ∙ sym (within_none 0 header r [] (nothing_read header))
same_within (suc m) zero header r (b ∷ bytes) h k = absurd (omega arith)
same_within (suc m) (suc n) header r bytes h k = elim (none_or_some (instruction_at header bytes)) [
  | inl e ↦ within_none (suc m) header r bytes e ∙ sym (within_none (suc n) header r bytes e)
  | inr x ↦
      let less : length x.0.1 < length bytes = instruction_shorter header bytes x.0 x.1 in
      within_some m header r bytes x.0 x.1
      ∙ ap (λ rows. appended header r x.0.0 ++ rows) (same_within m n header (following header r x.0.0) x.0.1 (omega arith) (omega arith))
      ∙ sym (within_some n header r bytes x.0 x.1)
]

-- the rows of an instruction, and of those after it
pub rows_some : (header : HeaderRecord) (r : Registers) (bytes : List ℕ) (x : Instruction × List ℕ) → instruction_at header bytes ≡ Some x
    → rows_from header r bytes ≡ appended header r x.0 ++ rows_from header (following header r x.0) x.1
unfolding rows_from
rows_some header r [] x e = cc (nothing_read header, e)
rows_some header r (b ∷ bytes) x e =
    let less : length x.1 < suc (length bytes) = instruction_shorter header (b ∷ bytes) x e in
    within_some (length bytes) header r (b ∷ bytes) x e
    ∙ ap (λ rows. appended header r x.0 ++ rows) (same_within (length bytes) (length x.1) header (following header r x.0) x.1 (omega arith) (omega arith))

-- and where there is none
pub rows_none : (header : HeaderRecord) (r : Registers) (bytes : List ℕ) → instruction_at header bytes ≡ None → rows_from header r bytes ≡ []
unfolding rows_from
rows_none header r bytes e = within_none (length bytes) header r bytes e

-- what one instruction tells, and those after it
pub step : (header : HeaderRecord) (r : Registers) (bytes : List ℕ) (i : Instruction) (rest : List ℕ)
    (done next : Registers) (row : Option Row) (start : List Row)
    → ◌≡◌ {A = Option (Instruction × List ℕ)} (Some (i, rest)) (instruction_at header bytes) → done ≡ applied header r i
    → next ≡ registers_with done i → option_to_list row ≡ row_with done i
    → rows_from header r bytes ≡ start → option_to_list row ++ rows_from header next rest ≡ start
step header r bytes i rest done next row start read made moved assigned before =
    cc (rows_some header r bytes (i, rest) (sym read))

-- fewer bytes are left
pub less : (header : HeaderRecord) (bytes : List ℕ) (i : Instruction) (rest : List ℕ)
    → ◌≡◌ {A = Option (Instruction × List ℕ)} (Some (i, rest)) (instruction_at header bytes) → length rest < length bytes
less header bytes i rest read = instruction_shorter header bytes (i, rest) (sym read)
