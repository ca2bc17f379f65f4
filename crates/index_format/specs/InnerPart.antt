-- A part of an index that is read from pages: the terms of the inner functions. No contract of a public function has them.
use Rattle.std.specs.Prelude.{◌≡◌, ℕ, List, Option, Some, None, Vec}
use Rattle.index_format.specs.InnerPaged.{bytes_of, numbers_of}
use Rattle.index_format.specs.Paged.{only}
use Rattle.index_format.specs.Spread.{spread}
use Rattle.index_format.specs.Tree.{is_under_one}
use Rattle.index_format.specs.declared.paged_entry.PagedEntry.{PagedEntry}

-- of so many entries, those under these UUIDs were read; or none, since another number of them are retirements
abbrev pub AreUnder : {A : Type 0} → ℕ → List (List ℕ) → List (List ℕ) → Option (Vec PagedEntry A) → Type 0
AreUnder count uuids entries (Some read) =
    spread count (numbers_of read.items) (bytes_of read.items) ≡ only (is_under_one uuids) entries
AreUnder count uuids entries None = ⊥
