-- The rows of a name while records are read: the terms of inner functions. No contract of a public function has them.
use Rattle.std.specs.Prelude.{ℕ, List, [], drop, filter, not, if◌then◌else◌}
use Rattle.std.specs.List.{flat_map}
use Rattle.archive_core.specs.Content.{is_admission}
use Rattle.archive_core.specs.Names.{NameRecord, names_in}

-- the rows of a name in the slice of a record; the slice of an admission begins at offset 33
unfoldable pub names_of : List ℕ → List ℕ → List NameRecord
names_of name r = if is_admission r then names_in name (drop 33 r) else []

-- the rows of a name in records, one after another
unfoldable pub names_among : List ℕ → List (List ℕ) → List NameRecord
names_among name records = flat_map (names_of name) records

-- the retirements among records, in their order
unfoldable pub retirements_among : List (List ℕ) → List (List ℕ)
retirements_among records = filter (λ r. not (is_admission r)) records
