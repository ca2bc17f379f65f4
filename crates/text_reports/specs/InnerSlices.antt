-- The rows and keys that are collected for the lines of slices: the terms of inner functions. No contract of a public
-- function has them.
use Rattle.std.specs.Prelude.{◌≡◌, ◌≢◌, ◌↔◌, ◌⊎◌, List, All, Contains}
use Rattle.archive_core.specs.Key.{IsKey}
use Rattle.archive_core.specs.declared.keys.SliceKey.{SliceKey}
use Rattle.archive_core.specs.declared.find.FindRow.{FindRow}
use Rattle.archive_core.specs.declared.find.FindState.TheVariants.{Retired, Dsym}
use Rattle.text_reports.specs.Slices.{AreOfOneSlice}

-- the key of a row
abbrev pub row_key : FindRow → SliceKey
row_key row = row.key

-- a key is its own key
abbrev pub own_key : SliceKey → SliceKey
own_key key = key

-- These are exactly the values with the property, and their keys have the right widths.
pub record AreExactly {X : Type 0} (key_of : X → SliceKey) (IsOne : X → Type 0) (xs : List X) : Type 0 where
  pub exactly : (x : X) → Contains xs x ↔ IsOne x
  pub are_keyed : All (λ x. IsKey (key_of x)) xs

-- one of these rows is for the slice of this one
abbrev pub HasSlice : List FindRow → FindRow → Type 0
HasSlice rows row = (other : FindRow) × Contains rows other × AreOfOneSlice other row

-- one of these rows has the key
abbrev pub HasKey : List FindRow → SliceKey → Type 0
HasKey rows key = (row : FindRow) × Contains rows row × (row.key ≡ key)

-- the row is for a slice that none of these retirements covers
abbrev pub LivesBeside : List FindRow → FindRow → Type 0
LivesBeside retired row = (row.state ≢ Retired) × (HasSlice retired row → ⊥)

-- the row is for a companion, or none of these companions has its key
abbrev pub AnswersBeside : List FindRow → FindRow → Type 0
AnswersBeside companions row = (row.state ≡ Dsym) ⊎ (HasKey companions row.key → ⊥)

-- the row is for a companion, or no companion among these has its key
abbrev pub AnswersIn : List FindRow → FindRow → Type 0
AnswersIn live row = (row.state ≡ Dsym) ⊎ ((other : FindRow) → Contains live other → other.key ≡ row.key
    → other.state ≢ Dsym)
