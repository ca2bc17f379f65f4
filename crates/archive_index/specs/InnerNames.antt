-- The rows of a name in an archive's operations: the terms of inner functions. No contract of a public function has
-- them.
use Rattle.std.specs.Prelude.{ℕ, List, []}
use Rattle.std.specs.List.{flat_map}
use Rattle.archive_core.specs.Names.{NameRecord, names_in}
use Rattle.archive_core.specs.declared.operations.Operation.{Operation}
use Rattle.archive_core.specs.declared.operations.Operation.TheVariants.{Admit, Retire}

-- the rows of a name in the slice of an operation: an archive holds no retired slice
abbrev pub names_of : List ℕ → Operation → List NameRecord
names_of name (Admit slice) = names_in name slice
names_of name (Retire key digest) = []

-- the rows of a name in operations, one after another
unfoldable pub names_among : List ℕ → List Operation → List NameRecord
names_among name operations = flat_map (names_of name) operations
