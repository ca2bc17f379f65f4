-- The row that an address belongs to, in a list.
use Rattle.std.proofs.Common.{◌≡◌, ℕ, ◌-◌, ◌<◌, ◌≤◌, true, false, nat_le, length, List, arith, subst, inl, inr}
use Rattle.std.specs.Prelude.{slice_index_or}
use Rattle.std.specs.List.Sorted.{IsPartitionedBy, IsPartitionPoint}
use Rattle.std.proofs.lemmas.Bool.{cases_lt}
use Rattle.std.proofs.lemmas.Bool.Decides.{nat_tests}
use Rattle.std.proofs.lemmas.Option.{slice_get-get_or}
use Rattle.macho_symbols.specs.Rows.{AreAbove, AreRising, IsLastNotAbove}
use Rattle.macho_symbols.specs.declared.row.Row.{Row}

reaches : (a s t : ℕ) → s < t → nat_le t a ≡ true → nat_le s a ≡ true
reaches a s t l h = grind (arith, nat_tests)

is_above : (a s : ℕ) → nat_le s a ≡ false → a < s
is_above a s h = grind (arith, nat_tests)

is_not_above : (a s : ℕ) → nat_le s a ≡ true → s ≤ a
is_not_above a s h = grind (arith, nat_tests)

-- rows that begin at an address or below it stand before the others
pub partitioned : (rows : List Row) (address : ℕ) → AreRising rows → IsPartitionedBy (λ r. nat_le r.start address) rows
partitioned rows address are i j d l m h = elim (cases_lt i j) [
  | inl k ↦ reaches address (slice_index_or rows i d).start (slice_index_or rows j d).start (are i j d k m) h
  | inr k ↦
      let same : j ≡ i = omega (arith, l, k) in
      subst (λ n. nat_le (slice_index_or rows n d).start address ≡ true) same h
]

pub last_before : (rows : List Row) (address end : ℕ) → IsPartitionPoint (λ r. nat_le r.start address ≡ true)
    (λ r. nat_le r.start address ≡ false) rows end → end ≤ length rows → 0 < end → (d : Row)
    → IsLastNotAbove rows address (slice_index_or rows (end - 1) d)
last_before rows address end point within some d = record {
  at = end - 1;
  stands = slice_get-get_or rows (end - 1) d (omega arith);
  not_above = is_not_above address (slice_index_or rows (end - 1) d).start (point.0 (end - 1) d (omega arith) (omega arith));
  others = λ j e k l. is_above address (slice_index_or rows j e).start (point.1 j e (omega arith) l);
}

pub none_before : (rows : List Row) (address end : ℕ) → IsPartitionPoint (λ r. nat_le r.start address ≡ true)
    (λ r. nat_le r.start address ≡ false) rows end → end ≡ 0 → AreAbove rows address
none_before rows address end point none j e l = is_above address (slice_index_or rows j e).start (point.1 j e (omega (arith, none)) l)
