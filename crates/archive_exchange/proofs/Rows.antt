-- What becomes of a part of a file that is taken.
use Rattle.std.proofs.Common.{◌≡◌, ℕ, zero, suc, List, [], ◌∷◌, length, take, slice_get, refl, ap}
use Rattle.std.specs.declared.option.Option.{Option}
use Rattle.std.specs.declared.option.Option.TheVariants.{None, Some}
use Rattle.archive_core.specs.Content.{Operations, with_record, with_records}
use Rattle.archive_exchange.specs.World.{row_of, rows, records, Skipped}

-- a row a part
pub number : (o : Operations) (parts : List (Option (List ℕ))) → length (rows o parts) ≡ length parts
number o [] = refl
number o (None ∷ parts) = ap suc (number o parts)
number o (Some r ∷ parts) = ap suc (number (with_record o r) parts)

pub skipped_at : (o : Operations) (parts : List (Option (List ℕ))) (i : ℕ) → slice_get parts i ≡ Some None → slice_get (rows o parts) i ≡ Some Skipped
skipped_at o [] i h = cc
skipped_at o (None ∷ parts) zero h = refl
skipped_at o (Some s ∷ parts) zero h = cc
skipped_at o (None ∷ parts) (suc i) h = skipped_at o parts i h
skipped_at o (Some s ∷ parts) (suc i) h = skipped_at (with_record o s) parts i h

-- the row of a record, over what the records before it made
pub row_at : (o : Operations) (parts : List (Option (List ℕ))) (i : ℕ) (r : List ℕ) → slice_get parts i ≡ Some (Some r)
    → slice_get (rows o parts) i ≡ Some (row_of (with_records o (records (take i parts))) r)
row_at o [] i r h = cc
row_at o (None ∷ parts) zero r h = cc
row_at o (Some s ∷ parts) zero r h = let e : s ≡ r = cc in ap (λ t. Some (row_of o t)) e
row_at o (None ∷ parts) (suc i) r h = row_at o parts i r h
row_at o (Some s ∷ parts) (suc i) r h = row_at (with_record o s) parts i r h
