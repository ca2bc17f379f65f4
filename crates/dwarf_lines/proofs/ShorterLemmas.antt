-- Fewer bytes are left after an instruction.
use Rattle.std.proofs.Common.{◌≡◌, ℕ, zero, suc, ◌-◌, ◌<◌, ◌≤◌, Bool, true, false, List, [], ◌∷◌, length, take, drop}
use Rattle.std.proofs.Common.{cond, Some, None, refl, ap, sym, arith, length-drop, nat_lt}
use Rattle.std.specs.Option.{option_map, option_and_then}
use Rattle.std.proofs.lemmas.Option.{option_and_then_some}
use Rattle.dwarf_encoding.specs.Leb128.{leb128_at, last_unsigned, unsigned_leb128_at}
use Rattle.dwarf_lines.specs.Header.{HeaderRecord}
use Rattle.dwarf_lines.specs.Instructions.{Read, with_number, after_operands, other_at, fixed_advance_at, standard_at, extended, extended_at, instruction_at}
use Rattle.dwarf_lines.specs.declared.instruction.Instruction.{Instruction}
use Rattle.dwarf_lines.specs.declared.instruction.Instruction.TheVariants.{Other}
use Rattle.dwarf_encoding.proofs.SequenceLemmas.{mapped as mapped_some}
use Rattle.dwarf_encoding.proofs.ShorterLemmas.{Leaves, leaves_nothing, leaves_some, leaves_either, leaves_number, leb128_shorter as leb_shorter}

-- numbers have none or more
pub operands_shorter : (count : ℕ) (bytes rest : List ℕ) → after_operands count bytes ≡ Some rest → length rest ≤ length bytes
unfolding after_operands
operands_shorter zero bytes rest e = let same : bytes ≡ rest = cc e in omega (arith, ap length same)
operands_shorter (suc count) bytes rest e =
    option_and_then_some (λ x. after_operands count x.1) (unsigned_leb128_at bytes) rest e
    (λ x found behind. omega (arith, leb_shorter last_unsigned bytes x found, operands_shorter count x.1 rest behind))

-- so many numbers and no register
leaves_other : (count : ℕ) (bytes : List ℕ) → Leaves (length bytes) (other_at count bytes)
leaves_other count bytes = record {
  most = λ x e.
      let y = mapped_some (λ (rest : List ℕ). let i : Instruction = Other in (i, rest)) (after_operands count bytes) x e in
      omega (arith, operands_shorter count bytes y.0 y.1, ap (λ (z : Instruction × List ℕ). length z.1) y.2);
}

leaves_fixed : (bytes : List ℕ) → Leaves (length bytes) (fixed_advance_at bytes)
leaves_fixed bytes =
    leaves_either _ _ _ _ (leaves_nothing (length bytes)) (leaves_some _ (length bytes) (drop 2 bytes) (omega (arith, length-drop 2 bytes)))

leaves_standard : (header : HeaderRecord) (opcode : ℕ) (bytes : List ℕ) → Leaves (length bytes) (standard_at header opcode bytes)
unfolding standard_at
leaves_standard header opcode bytes =
    search (leaves_either, leaves_some, leaves_number, leaves_fixed, leaves_other, arith) depth 14

-- what is read of an extended instruction, after its length
extended_with : ℕ × List ℕ → Read
extended_with y = cond (nat_lt (length y.1) y.0) None (option_map (λ i. (i, drop y.0 y.1)) (extended (take y.0 y.1)))

leaves_with : (y : ℕ × List ℕ) → Leaves (length y.1) (extended_with y)
unfolding extended_with
leaves_with y = leaves_either _ _ _ _ (leaves_nothing _) (record {
  most = λ x e.
      let z = mapped_some (λ (i : Instruction). (i, drop y.0 y.1)) (extended (take y.0 y.1)) x e in
      omega (arith, length-drop y.0 y.1, ap (λ (w : Instruction × List ℕ). length w.1) z.2);
})

leaves_extended : (bytes : List ℕ) → Leaves (length bytes) (extended_at bytes)
unfolding extended_at extended_with
leaves_extended bytes = record {
  most = λ x e.
      option_and_then_some (λ (y : ℕ × List ℕ). extended_with y) (unsigned_leb128_at bytes) x e
      (λ y found behind. omega (arith, (leaves_with y).most x behind, leb_shorter last_unsigned bytes y found));
}

leaves_instruction : (header : HeaderRecord) (opcode : ℕ) (bytes : List ℕ) → Leaves (length bytes) (instruction_at header (opcode ∷ bytes))
unfolding instruction_at
leaves_instruction header opcode bytes =
    search (leaves_either, leaves_some, leaves_standard, leaves_extended, arith) depth 6

-- no bytes begin with no instruction
pub nothing_read : (header : HeaderRecord) → instruction_at header [] ≡ None
unfolding instruction_at
nothing_read header = refl

-- an instruction has a byte
pub instruction_shorter : (header : HeaderRecord) (bytes : List ℕ) (x : Instruction × List ℕ) → instruction_at header bytes ≡ Some x → length x.1 < length bytes
instruction_shorter header [] x e = cc (nothing_read header, e)
instruction_shorter header (opcode ∷ bytes) x e = omega (arith, (leaves_instruction header opcode bytes).most x e)

-- one number less to go
pub operands_more : (count : ℕ) (bytes : List ℕ) → 0 < count → after_operands count bytes
    ≡ option_and_then (λ x. after_operands (count - 1) x.1) (unsigned_leb128_at bytes)
unfolding after_operands
operands_more zero bytes some = absurd (omega arith)
operands_more (suc count) bytes some =
    let less : suc count - 1 ≡ count = omega arith in
    ap (λ n. option_and_then (λ (x : ℕ × List ℕ). after_operands n x.1) (unsigned_leb128_at bytes)) (sym less)

-- none to go
pub operands_none : (bytes : List ℕ) → after_operands 0 bytes ≡ Some bytes
unfolding after_operands
operands_none bytes = refl
