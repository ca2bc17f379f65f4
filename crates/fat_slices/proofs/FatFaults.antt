-- Which fault counts, and that there is one or none.
use Rattle.std.proofs.Common.{◌≡◌, ℕ, zero, suc, ◌+◌, ◌<◌, ◌≤◌, true, false, List, length, refl, sym, ◌⊎◌, inl, inr, arith}
use Rattle.std.proofs.lemmas.Bool.{cases_lt, cases_order, cases_Bool, true_from_ne_false}
use Rattle.fat_slices.specs.Kind.{kind_of, is_fat}
use Rattle.fat_slices.specs.Layout.{nfat_arch, table_end, arch_at}
use Rattle.fat_slices.specs.FatFault.{IsOutside, IsTooLarge, Applies, number, entry, IsFatFault, IsUniversal}
use Rattle.fat_slices.specs.InnerTable.{HasTable, IsFirst, HasNone}
use Rattle.fat_slices.specs.declared.fat_fault.FatFault.{FatFault}
use Rattle.fat_slices.specs.declared.fat_fault.FatFault.TheVariants.{NotUniversal, HeaderTruncated, TooManyArches, TableTruncated, SliceOutside, TooLarge}

-- the faults of the numbers below k do not apply
record IsClear (file : List ℕ) (k : ℕ) : Type 0 where
  kind : 1 < k → is_fat (kind_of file) ≡ true
  header : 2 < k → 8 ≤ length file
  few : 3 < k → nfat_arch file ≤ 32
  table : 4 < k → table_end file ≤ length file
  inside : 5 < k → HasNone (IsOutside file) (nfat_arch file)
  small : 6 < k → HasNone (IsTooLarge file) (nfat_arch file)

none_below : (file : List ℕ) (k : ℕ) → IsClear file k → (other : FatFault) → number other < k → Applies file other → ⊥
none_below file k clear other low wrong = grind arith

-- the first that applies
first_applies : (file : List ℕ) (fault : FatFault) → Applies file fault → IsClear file (number fault)
    → ((other : FatFault) → number other ≡ number fault → entry other < entry fault → Applies file other → ⊥) → IsFatFault file fault
first_applies file fault applies clear earlier = record {
  applies = applies;
  first = λ other before wrong. elim before [
    | inl low ↦ none_below file (number fault) clear other low wrong
    | inr same ↦ earlier other same.0 same.1 wrong
  ];
}

pub not_universal : (file : List ℕ) → is_fat (kind_of file) ≡ false → IsFatFault file NotUniversal
not_universal file wrong = first_applies file NotUniversal wrong (grind arith) (λ other e low. absurd (omega arith))

pub header_truncated : (file : List ℕ) → is_fat (kind_of file) ≡ true → length file < 8 → IsFatFault file HeaderTruncated
header_truncated file kind wrong = first_applies file HeaderTruncated wrong (grind arith) (λ other e low. absurd (omega arith))

pub too_many_arches : (file : List ℕ) (n : ℕ) → is_fat (kind_of file) ≡ true → 8 ≤ length file → n ≡ nfat_arch file → 32 < n → IsFatFault file (TooManyArches n)
too_many_arches file n kind header e wrong =
    first_applies file (TooManyArches n) (e, omega arith) (grind arith) (λ other e low. absurd (omega arith))

pub table_truncated : (file : List ℕ) → is_fat (kind_of file) ≡ true → 8 ≤ length file → nfat_arch file ≤ 32
    → length file < table_end file → IsFatFault file TableTruncated
table_truncated file kind header few wrong = first_applies file TableTruncated wrong (grind arith) (λ other e low. absurd (omega arith))

-- a table has none of the faults that are of no entry
clear_upto : (file : List ℕ) (k : ℕ) → HasTable file → (5 < k → HasNone (IsOutside file) (nfat_arch file))
    → (6 < k → HasNone (IsTooLarge file) (nfat_arch file)) → IsClear file k
clear_upto file k room inside small =
    record { kind = λ h. room.kind; header = λ h. room.header; few = λ h. room.few; table = λ h. room.table; inside = inside; small = small }

-- a fault of the same number, of an entry before the first
earlier_outside : (file : List ℕ) (i : ℕ) → IsFirst (IsOutside file) (nfat_arch file) i → (other : FatFault)
    → number other ≡ 5 → entry other < i → Applies file other → ⊥
earlier_outside file i first (SliceOutside j) e low wrong = first.first j low wrong.1
earlier_outside file i first other e low wrong = absurd (omega arith)

earlier_too_large : (file : List ℕ) (i : ℕ) → IsFirst (IsTooLarge file) (nfat_arch file) i → (other : FatFault)
    → number other ≡ 6 → entry other < i → Applies file other → ⊥
earlier_too_large file i first (TooLarge j) e low wrong = first.first j low wrong.1
earlier_too_large file i first other e low wrong = absurd (omega arith)

pub slice_outside : (file : List ℕ) (i : ℕ) → HasTable file → IsFirst (IsOutside file) (nfat_arch file) i → IsFatFault file (SliceOutside i)
slice_outside file i room wrong =
    first_applies file (SliceOutside i) (wrong.below, wrong.holds)
    (clear_upto file 5 room (λ h. absurd (omega arith)) (λ h. absurd (omega arith))) (earlier_outside file i wrong)

pub too_large : (file : List ℕ) (i : ℕ) → HasTable file → HasNone (IsOutside file) (nfat_arch file)
    → IsFirst (IsTooLarge file) (nfat_arch file) i → IsFatFault file (TooLarge i)
too_large file i room inside wrong =
    first_applies file (TooLarge i) (wrong.below, wrong.holds)
    (clear_upto file 6 room (λ h. inside) (λ h. absurd (omega arith))) (earlier_too_large file i wrong)

-- no fault is left
below_seven : (fault : FatFault) → number fault < 7
below_seven fault = grind arith

pub universal : (file : List ℕ) → HasTable file → HasNone (IsOutside file) (nfat_arch file) → HasNone (IsTooLarge file) (nfat_arch file) → IsUniversal file
universal file room inside small = record {
  none = λ fault wrong. none_below file 7 (clear_upto file 7 room (λ h. inside) (λ h. small)) fault (below_seven fault) wrong;
}

-- what no fault leaves
pub table_of : (file : List ℕ) → IsUniversal file → HasTable file
table_of file sound = record {
  kind = true_from_ne_false (is_fat (kind_of file)) (λ e. sound.none NotUniversal e);
  header = elim (cases_lt (length file) 8) [ inl low ↦ absurd (sound.none HeaderTruncated low) | inr high ↦ high ];
  few = elim (cases_lt 32 (nfat_arch file)) [ inl high ↦ absurd (sound.none (TooManyArches (nfat_arch file)) (refl, high)) | inr low ↦ low ];
  table = elim (cases_lt (length file) (table_end file)) [ inl low ↦ absurd (sound.none TableTruncated low) | inr high ↦ high ];
}

pub inside_of : (file : List ℕ) (i : ℕ) → IsUniversal file → i < nfat_arch file → (arch_at file i).offset + (arch_at file i).size ≤ length file
inside_of file i sound h =
    elim (cases_lt (length file) ((arch_at file i).offset + (arch_at file i).size)) [
      | inl wrong ↦ absurd (sound.none (SliceOutside i) (h, wrong))
      | inr right ↦ right
    ]

pub small_of : (file : List ℕ) (i : ℕ) → IsUniversal file → i < nfat_arch file → (arch_at file i).size ≤ 4294967295
small_of file i sound h =
    elim (cases_lt 4294967295 (arch_at file i).size) [
      | inl wrong ↦ absurd (sound.none (TooLarge i) (h, wrong))
      | inr right ↦ right
    ]

-- faults that apply, of one number and one entry, are one
same_applied : (file : List ℕ) (f g : FatFault) → number f ≡ number g → entry f ≡ entry g → Applies file f → Applies file g → f ≡ g
same_applied file f g n e p q = grind arith

pub one_fat_fault : (file : List ℕ) (f g : FatFault) → IsFatFault file f → IsFatFault file g → f ≡ g
one_fat_fault file f g p q = elim (cases_order (number f) (number g)) [
  | inl n ↦ elim (cases_order (entry f) (entry g)) [
    | inl e ↦ same_applied file f g n e p.applies q.applies
    | inr (inl low) ↦ absurd (q.first f (inr (n, low)) p.applies)
    | inr (inr low) ↦ absurd (p.first g (inr (sym n, low)) q.applies)
  ]
  | inr (inl low) ↦ absurd (q.first f (inl low) p.applies)
  | inr (inr low) ↦ absurd (p.first g (inl low) q.applies)
]

pub no_fat_fault : (file : List ℕ) (f : FatFault) → IsUniversal file → IsFatFault file f → ⊥
no_fat_fault file f sound fault = sound.none f fault.applies

-- a property that can be decided has a least number below a bound, or none
first_or_none : (P : ℕ → Type 0) → ((i : ℕ) → P i ⊎ (P i → ⊥)) → (n : ℕ) → ((i : ℕ) × IsFirst P n i) ⊎ HasNone P n
first_or_none P decide zero = inr (λ j h p. absurd (omega arith))
first_or_none P decide (suc n) = elim (first_or_none P decide n) [
  | inl found ↦ inl (found.0, record { below = let h = found.1.below in omega arith; holds = found.1.holds; first = found.1.first })
  | inr none ↦ elim (decide n) [
    | inl here ↦ inl (n, record { below = omega arith; holds = here; first = none })
    | inr not_here ↦ inr (λ j h p. elim (cases_lt j n) [
      | inl low ↦ none j low p
      | inr high ↦ let e : j ≡ n = omega arith in not_here (rw e at p)
    ])
  ]
]

is_less : (a b : ℕ) → (a < b) ⊎ (a < b → ⊥)
is_less a b = elim (cases_lt a b) [ inl low ↦ inl low | inr high ↦ inr (λ low. absurd (omega arith)) ]

pub universal_or_fault : (file : List ℕ) → IsUniversal file ⊎ ((fault : FatFault) × IsFatFault file fault)
universal_or_fault file = elim (cases_Bool (is_fat (kind_of file))) [
  | inl kind ↦ elim (cases_lt (length file) 8) [
    | inl short ↦ inr (HeaderTruncated, header_truncated file kind short)
    | inr header ↦ elim (cases_lt 32 (nfat_arch file)) [
      | inl many ↦ inr (TooManyArches (nfat_arch file), too_many_arches file (nfat_arch file) kind header refl many)
      | inr few ↦ elim (cases_lt (length file) (table_end file)) [
        | inl cut ↦ inr (TableTruncated, table_truncated file kind header few cut)
        | inr table ↦ by_room (record { kind = kind; header = header; few = few; table = table })
      ]
    ]
  ]
  | inr wrong ↦ inr (NotUniversal, not_universal file wrong)
]
  where
    by_room : HasTable file → IsUniversal file ⊎ ((fault : FatFault) × IsFatFault file fault)
    by_room room = elim (first_or_none (IsOutside file) (λ i. is_less (length file) ((arch_at file i).offset + (arch_at file i).size)) (nfat_arch file)) [
      | inl outside ↦ inr (SliceOutside outside.0, slice_outside file outside.0 room outside.1)
      | inr inside ↦ elim (first_or_none (IsTooLarge file) (λ i. is_less 4294967295 (arch_at file i).size) (nfat_arch file)) [
        | inl large ↦ inr (TooLarge large.0, too_large file large.0 room inside large.1)
        | inr small ↦ inl (universal file room inside small)
      ]
    ]
