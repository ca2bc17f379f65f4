-- The head that any bytes begin with.
use Rattle.std.proofs.Common.{◌≡◌, ℕ, ◌+◌, ◌*◌, ◌≤◌, List, length, take, drop, ap, ◌∙◌, arith}
use Rattle.std.specs.Int.{w64, from_be_bytes}
use Rattle.table_checked_pages.proofs.PlaceLemmas.{part_read}
use Rattle.table_symbols.specs.Opened.{AreHeaded, HasCounts, u64_at}
use Rattle.table_symbols.specs.declared.head.Head.{Head}

-- a number in bytes that were read
pub u64_read : (at n offset : ℕ) (all bytes : List ℕ) → at + 8 ≤ n → bytes ≡ take n (drop offset all)
    → u64_at bytes at ≡ u64_at all (offset + at)
u64_read at n offset all bytes within came = ap (from_be_bytes w64) (part_read at 8 n offset all bytes within came)

-- the counts of a head that was read are those of all bytes
pub counted : (all bytes : List ℕ) (n : ℕ) (head : Head) → n ≡ 48 → bytes ≡ take n (drop 0 all) → HasCounts head bytes
    → HasCounts head all
counted all bytes n head long came counts = record {
  sections = counts.sections ∙ u64_read 16 n 0 all bytes (omega (arith, long)) came;
  rows = counts.rows ∙ u64_read 24 n 0 all bytes (omega (arith, long)) came;
  strings = counts.strings ∙ u64_read 32 n 0 all bytes (omega (arith, long)) came;
  lines = counts.lines ∙ u64_read 40 n 0 all bytes (omega (arith, long)) came;
}

pub headed : (all : List ℕ) (head : Head) (size : ℕ) → HasCounts head all → length all ≡ size → 48 ≤ size
    → size ≡ 48 + 32 * head.sections + 21 * head.rows + head.strings + head.lines → AreHeaded all
headed all head size counts is least adds = record {
  has_head = omega (arith, is, least);
  size = omega (arith, is, adds, counts.sections, counts.rows, counts.strings, counts.lines);
}
