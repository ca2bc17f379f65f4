-- Links that are being built, one after another: definitions of inner functions. No contract of a public function uses
-- them.
use Rattle.std.specs.Prelude.{ℕ, zero, suc, List, ◌≡◌, ◌≤◌, length, slice_get, Option, Some, None, if◌then◌else◌}
use Rattle.std.specs.Option.{option_map_or}
use Rattle.dwarf_functions.specs.declared.links.Link.{Link}
use Rattle.dwarf_functions.specs.declared.functions.Function.{Function}

-- the link with a number, from 1 on
abbrev pub made_at : List Link → ℕ → Option Link
made_at links zero = None
made_at links (suc index) = slice_get links index

-- the number of links from the one with this number to the outermost
abbrev pub count_at : List Link → ℕ → ℕ
count_at links number = option_map_or (λ link. link.count) (made_at links number) 0

-- the number of the last link that is nested in the link with a number; for 0 the last link that is nested in none
abbrev pub child_at : List Link → ℕ → ℕ → ℕ
child_at links last zero = last
child_at links last (suc index) = option_map_or (λ link. link.child) (slice_get links index) 0

-- the number is that of the link of a function that is nested in another link
pub record IsLinkIn (links : List Link) (outer index number : ℕ) : Type 0 where
  pub link : Link
  pub there : made_at links number ≡ Some link
  pub is_in : link.outer ≡ outer
  pub function : link.function ≡ index

-- 0, or the number of a link that is nested in another link
abbrev pub IsChild : List Link → ℕ → ℕ → Type 0
IsChild links caller zero = Unit {0}
IsChild links caller (suc index) = (link : Link) × (slice_get links index ≡ Some link) × (link.outer ≡ caller)

-- the number of the link that calls a function, which is nested in the link `outer`
abbrev pub caller_of : Function → ℕ → ℕ
caller_of function outer = if function.is_subprogram then 0 else outer

-- the link at an index is that of its function, and is nested in none or in an earlier link
pub record IsMadeLink (functions : List Function) (links : List Link) (index : ℕ) (link : Link) : Type 0 where
  pub before : link.outer ≤ index
  pub of : Function
  pub there : slice_get functions link.function ≡ Some of
  pub name : link.name ≡ of.name
  pub name_number : link.name_number ≡ of.name_number
  pub call : link.call ≡ of.call
  pub caller : link.caller ≡ caller_of of link.outer
  pub count : link.count ≡ suc (count_at links link.outer)
  pub child : IsChild links (suc index) link.child

-- links of functions, with the number of the last one that is nested in none, or 0
pub record AreMade (functions : List Function) (links : List Link) (last : ℕ) : Type 0 where
  pub each : (index : ℕ) (link : Link) → slice_get links index ≡ Some link → IsMadeLink functions links index link
  pub outermost : IsChild links 0 last

-- the links are unchanged, but for the last links that are nested in them
pub record AreKept (old new : List Link) : Type 0 where
  pub count : length old ≤ length new
  pub each : (index : ℕ) (link : Link) → slice_get old index ≡ Some link
      → (child : ℕ) × (slice_get new index ≡ Some (record link { child = child }))
