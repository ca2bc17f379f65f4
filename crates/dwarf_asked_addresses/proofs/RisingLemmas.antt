-- Numbers that are sorted, each once.
use Rattle.std.proofs.Common.{◌≡◌, ℕ, ◌<◌, ◌≤◌, nat_cmp, nat_lt, true, false, List, length, get_or, sym, subst, inl, inr, arith}
use Rattle.std.specs.Prelude.{eqb, ◌↔◌}
use Rattle.std.specs.List.{Contains, dedup}
use Rattle.std.specs.List.Sorted.{IsPartitionPoint, IsPartitionedBy, IsPermutation, IsSorted}
use Rattle.std.proofs.lemmas.Bool.{cases_Bool, cases_lt, ltb-true, ltb-false}
use Rattle.std.proofs.lemmas.Bool.Decides.{nat_tests}
use Rattle.std.proofs.lemmas.List.Kept.{AllPairs-from_increasing, Contains-dedup_nat, Contains-from_dedup}
use Rattle.std.proofs.lemmas.List.Sorted.{Contains-permutation, IsPermutation-sym}
use Rattle.std.proofs.lemmas.Map.Keys.{IsStrictlyIncreasing-dedup}
use Rattle.dwarf_asked_addresses.specs.Rising.{IsCountBelow, AreRising}

module _ (pushed sorted all : List ℕ) (moved : IsPermutation pushed sorted) (order : IsSorted nat_cmp sorted) (is : all ≡ dedup eqb sorted) where
  pub rises : AreRising all
  rises = subst (λ (xs : List ℕ). AreRising xs) (sym is) (AllPairs-from_increasing (dedup eqb sorted) (IsStrictlyIncreasing-dedup sorted order))

  pub same : (a : ℕ) → Contains all a ↔ Contains pushed a
  same a = (
    λ h. Contains-permutation sorted pushed a (IsPermutation-sym pushed sorted moved) (Contains-from_dedup eqb sorted a (subst (λ xs. Contains xs a) is h)),
    λ h. subst (λ xs. Contains xs a) (sym is) (Contains-dedup_nat sorted a (Contains-permutation pushed sorted a moved h)),
  )

-- numbers that rise are parted by an address
pub parted : (starts : List ℕ) (a : ℕ) → AreRising starts → IsPartitionedBy (λ t. nat_lt t a) starts
parted starts a rising i j d below within holds = elim (cases_Bool (nat_lt i j)) [
  | inl less ↦ grind (arith, nat_tests, rising i j d (ltb-true i j less) within, ltb-true (get_or starts j d) a holds)
  | inr not ↦
      let same : i ≡ j = omega (arith, ltb-false i j not, below) in
      subst (λ (k : ℕ). nat_lt (get_or starts k d) a ≡ true) (sym same) holds
]

pub below_of_point : (starts : List ℕ) (a n : ℕ) → n ≤ length starts
    → IsPartitionPoint (λ t. nat_lt t a ≡ true) (λ t. nat_lt t a ≡ false) starts n → IsCountBelow starts a n
below_of_point starts a n within point = record {
  within = within;
  below = λ i less. ltb-true (get_or starts i 0) a (point.0 i 0 (omega arith) less);
  above = λ i from inside. ltb-false (get_or starts i 0) a (point.1 i 0 from inside);
}

-- at a start itself those before it are below it
pub count_at : (starts : List ℕ) (address near : ℕ) → AreRising starts → near < length starts → get_or starts near 0
    ≡ address → IsCountBelow starts address near
count_at starts address near rising within here = record {
  within = omega (arith, within);
  below = λ i less. let r = rising i near 0 less within in omega (arith, r, here);
  above = λ i from inside. elim (cases_lt near i) [
    | inl more ↦ let r = rising near i 0 more inside in omega (arith, r, here)
    | inr not ↦
        let one : near ≡ i = omega (arith, from, not) in
        let at : get_or starts i 0 ≡ address = subst (λ n. get_or starts n 0 ≡ address) one here in omega (arith, at)
  ];
}
