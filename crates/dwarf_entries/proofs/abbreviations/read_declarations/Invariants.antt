use Rattle.std.proofs.Common.{◌≡◌, ◌≤◌, ℕ, length}
use Rattle.std.specs.Option.{option_map, option_or}
use Rattle.dwarf_entries.specs.Abbreviations.{declared, declarations_from, declaration_of}
use Rattle.dwarf_entries.specs.DeclarationViews.{declaration_in, declaration_view}
use Rattle.dwarf_entries.proofs.abbreviations.read_declarations.Given as goal

abbrev pub invariant-declarations : goal.invariant-declarations
invariant-declarations l = record {
  within : length l.rest ≤ length l.section;
  each : (table code : ℕ) →
      option_or (option_map declaration_view (declaration_in l.declarations table code))
      (declared table code (declarations_from (length l.section) l.table l.rest))
      ≡ declaration_of l.section table code;
}

abbrev pub decreases-declarations : goal.decreases-declarations
decreases-declarations l = length l.rest
