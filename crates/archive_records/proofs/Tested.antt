-- The tests of whole bytes after a last record, one by one.
use Rattle.std.proofs.Common.{◌≡◌, ℕ, true, false, List, length, get_or, Ok, Err, arith}
use Rattle.std.proofs.lemmas.Bool.Decides.{nat_tests}
use Rattle.std.proofs.lemmas.List.{take_all}
use Rattle.archive_records.specs.declared.fault.RecordFaultKind.TheVariants.{NotAscending, BadCount}
use Rattle.archive_records.specs.declared.format.Format.{Format}
use Rattle.archive_records.specs.Kind.{may_follow}
use Rattle.archive_records.specs.Layout.{record_count}
use Rattle.archive_records.specs.Fault.{is_end, tested}

module _ (file : Format) (last : List ℕ) (count : ℕ) (bytes : List ℕ) where
  pub tested-end : get_or bytes 0 0 ≡ 3 → record_count bytes ≡ count → tested file last count bytes (length bytes) ≡ Ok (length bytes)
  unfolding tested is_end
  tested-end three same = grind (arith, nat_tests)

  pub tested-miscounted : get_or bytes 0 0 ≡ 3 → (record_count bytes ≡ count → ⊥) → tested file last count bytes (length bytes) ≡ Err BadCount
  unfolding tested is_end
  tested-miscounted three other = grind (arith, nat_tests)

  pub tested-following : (get_or bytes 0 0 ≡ 3 → ⊥) → may_follow file last bytes ≡ true → tested file last count bytes (length bytes) ≡ Ok (length bytes)
  unfolding tested is_end
  tested-following item follows = let whole = take_all (length bytes) bytes (omega arith) in grind (arith, nat_tests)

  pub tested-unordered : (get_or bytes 0 0 ≡ 3 → ⊥) → may_follow file last bytes ≡ false → tested file last count bytes (length bytes) ≡ Err NotAscending
  unfolding tested is_end
  tested-unordered item other = let whole = take_all (length bytes) bytes (omega arith) in grind (arith, nat_tests)
