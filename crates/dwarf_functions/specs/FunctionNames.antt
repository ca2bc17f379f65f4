-- The numbers of the names of functions.
use Rattle.std.specs.Prelude.{ℕ, List, ◌≡◌, slice_get, Option, Some}
use Rattle.std.specs.Option.{option_map}
use Rattle.dwarf_functions.specs.declared.functions.Function.{Function}

-- the name of a function, without its address in memory
abbrev pub name_of : Function → Option (List ℕ)
name_of function = option_map (λ n. n.now) function.name

-- the function at an index has this name
abbrev pub HasName : List Function → ℕ → Option (List ℕ) → Type 0
HasName functions index name = option_map name_of (slice_get functions index) ≡ Some name

-- the number of each name is the index of a function with this name, so functions with one number have the same name
abbrev pub AreNumbered : List Function → Type 0
AreNumbered functions =
    (i : ℕ) (f : Function) → slice_get functions i ≡ Some f → HasName functions f.name_number (name_of f)
