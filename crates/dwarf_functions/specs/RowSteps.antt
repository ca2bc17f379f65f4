-- The rows that cover each address, step by step.
use Rattle.std.specs.Prelude.{ℕ, List, ◌≡◌, ◌↔◌, length, map, Option, None}
use Rattle.std.specs.List.{Contains}
use Rattle.dwarf_lines.specs.Covering.{IsCovering}
use Rattle.dwarf_lines.specs.declared.registers.Row.{Row}
use Rattle.dwarf_functions.specs.AddressSteps.{at_step}
use Rattle.dwarf_asked_addresses.specs.Rising.{AreRising}

-- a step at exactly the addresses of rows, ascending, each with the row that covers the addresses from there up to the
-- next step, or none
pub record AreRowSteps (all : List Row) (starts : List ℕ) (rows : List (Option Row)) : Type 0 where
  pub rising : AreRising starts
  pub same : (a : ℕ) → Contains starts a ↔ Contains (map (λ row. row.registers.address) all) a
  pub count : length rows ≡ length starts
  pub each : (a : ℕ) → IsCovering all a (at_step None starts rows a)
