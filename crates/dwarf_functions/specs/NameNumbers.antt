-- The numbers of the names of links.
use Rattle.std.specs.Prelude.{ℕ, List, ◌≡◌, length, slice_get, Option, Some}
use Rattle.dwarf_functions.specs.LinkViews.{link_view}
use Rattle.dwarf_functions.specs.declared.links.Link.{Link}

-- the names of links are those of their numbers among `count` names, so links with one number have one name
pub record AreNamesNumbered (count : ℕ) (links : List Link) : Type 0 where
  pub names : List (Option (List ℕ))
  pub count_is : length names ≡ count
  pub each : (i : ℕ) (link : Link) → slice_get links i ≡ Some link
      → slice_get names link.name_number ≡ Some ((link_view link).name)
