-- The names of links by number.
use Rattle.std.proofs.Common.{◌≡◌, ◌∙◌, ℕ, List, length, map, slice_get, Some, ap, sym}
use Rattle.std.specs.Option.{option_map}
use Rattle.std.proofs.lemmas.List.{length-map}
use Rattle.std.proofs.lemmas.Option.{slice_get-map}
use Rattle.dwarf_functions.specs.FunctionNames.{AreNumbered, name_of}
use Rattle.dwarf_functions.specs.declared.functions.Function.{Function}
use Rattle.dwarf_functions.specs.Making.{AreMade}
use Rattle.dwarf_functions.specs.NameNumbers.{AreNamesNumbered}
use Rattle.dwarf_functions.specs.declared.links.Link.{Link}

-- the numbers of functions are those of their links
pub names_numbered : (functions : List Function) (links : List Link) (last count : ℕ) → AreNumbered functions
    → AreMade functions links last → count ≡ length functions → AreNamesNumbered count links
names_numbered functions links last count numbered made is_count = record {
  names = map name_of functions;
  count_is = length-map functions name_of ∙ sym is_count;
  each = λ i link there.
      let m = made.each i link there in
      ap (λ n. slice_get (map name_of functions) n) m.name_number
      ∙ (slice_get-map name_of functions m.of.name_number ∙ (numbered link.function m.of m.there ∙ ap (λ n. Some (option_map (λ t. t.now) n)) (sym m.name)));
}
