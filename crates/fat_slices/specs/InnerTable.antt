-- The facts of a header and a table: the terms of inner functions. No contract of a public function has them.
use Rattle.std.specs.Prelude.{ℕ, true, List, length, ◌≡◌, ◌<◌, ◌≤◌}
use Rattle.fat_slices.specs.Kind.{kind_of, is_fat}
use Rattle.fat_slices.specs.Layout.{nfat_arch, table_end}

-- the bytes have a fat_header, and a table of at most 32 entries directly after it
pub record HasTable (file : List ℕ) : Type 0 where
  pub kind : is_fat (kind_of file) ≡ true
  pub header : 8 ≤ length file
  pub few : nfat_arch file ≤ 32
  pub table : table_end file ≤ length file

-- it is the least number below `count` that has a property
pub record IsFirst (P : ℕ → Type 0) (count : ℕ) (i : ℕ) : Type 0 where
  pub below : i < count
  pub holds : P i
  pub first : (j : ℕ) → j < i → P j → ⊥

-- no number below `count` has a property
abbrev pub HasNone : (ℕ → Type 0) → ℕ → Type 0
HasNone P count = (j : ℕ) → j < count → P j → ⊥
