-- Declarations and their tables in the code, as the definitions have them.
use Rattle.std.specs.Prelude.{ℕ, zero, suc, List, [], ◌≡◌, slice_get, Option, Some, None}
use Rattle.std.specs.Option.{option_map, option_or}
use Rattle.std.specs.Ordering.{nat_cmp, ordering_then}
use Rattle.std.specs.declared.cmp.Ordering.{Ordering}
use Rattle.std.specs.BTreeMap as tree_map
use Rattle.dwarf_entries.specs.Abbreviations.{DeclarationRecord, declaration_of}
use Rattle.dwarf_entries.specs.ShapeViews.{shape_view}
use Rattle.dwarf_entries.specs.declared.declaration.Declaration.{Declaration}
use Rattle.dwarf_entries.specs.declared.declarations.Declarations.{Declarations}
use Rattle.dwarf_entries.specs.declared.declarations.Rows.{Rows}

-- a declaration, without the addresses of its parts in memory
abbrev pub declaration_view : Declaration → DeclarationRecord
declaration_view d = record { tag = d.tag; has_children = d.has_children; shape = shape_view d.shape }

-- the order by the offset of the table, then by the code
abbrev pub key_cmp : ℕ × ℕ → ℕ × ℕ → Ordering
key_cmp a b = ordering_then (nat_cmp a.0 b.0) (nat_cmp a.1 b.1)

-- the declaration with a code in rows, whose codes begin with 1
abbrev pub row_in : List Declaration → ℕ → Option Declaration
row_in rows zero = None
row_in rows (suc index) = slice_get rows index

-- the rows of a table, or none
abbrev pub rows_or_none : Option Rows → List Declaration
rows_or_none None = []
rows_or_none (Some rows) = rows.rows.items

-- the declaration with a code in a table: in its rows, else among the others
abbrev pub declaration_in : Declarations → ℕ → ℕ → Option Declaration
declaration_in declarations table code =
    option_or
    (row_in (rows_or_none (tree_map.get nat_cmp declarations.rows table)) code)
    (tree_map.get key_cmp declarations.others (table, code))

-- the declarations of a section by their tables and codes
pub record AreDeclarations (section : List ℕ) (declarations : Declarations) : Type 0 where
  pub each : (table code : ℕ) →
      option_map declaration_view (declaration_in declarations table code) ≡ declaration_of section table code
