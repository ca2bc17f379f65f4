-- What a row of an image says, with its name, and what is found by it.
use Rattle.std.proofs.Common.{◌≡◌, ◌≢◌, ℕ, zero, suc, ◌==◌, ◌<◌, ◌-◌, true, [], List, length, drop, refl, sym, ap, ◌∙◌, arith, Option, Some, None}
use Rattle.std.specs.List.{before_first}
use Rattle.std.specs.Option.{option_map_or}
use Rattle.macho_image.specs.Sections.{section_of}
use Rattle.macho_symbols.specs.Found.{FindsNearest, FoundRecord, found_of}
use Rattle.std.proofs.lemmas.Option.{cond_some}
use Rattle.std.proofs.lemmas.Bool.Decides.{nat_tests}
use Rattle.macho_symbols.specs.Nlist.{n_strx}
use Rattle.macho_symbols.specs.Symbols.{Tuple, strings_of, name_of, name_in, is_candidate, tuple_in, candidate_in}
use Rattle.macho_symbols.specs.Nearest.{IsNearest}
use Rattle.macho_symbols.proofs.Stands.{none_at_start}
use Rattle.macho_symbols.specs.declared.row.Row.{Row}
use Rattle.macho_symbols.specs.Steps.{SaysNearest, Says, IsLeastIndexOf}

-- a name that is not empty stands at its place
name_there : (strings : List ℕ) (place : ℕ) → 0 < length (name_of strings place) → name_of strings place ≡ before_first (λ b. b == 0) (drop place strings)
name_there strings zero h = absurd (omega (arith, h))
name_there strings (suc place) h = grind (arith, nat_tests)

named : (image entry : List ℕ) → is_candidate image entry ≡ true → 0 < length (name_in image entry)
unfolding is_candidate
named image entry h = grind (arith, nat_tests)

name_of_entry : (image entry : List ℕ) → 0 < length (name_in image entry) → name_in image entry
    ≡ before_first (λ b. b == 0) (drop (n_strx entry) (strings_of image))
unfolding name_in
name_of_entry image entry h = name_there (strings_of image) (n_strx entry) h

name_of_tuple : (image entry : List ℕ) → (tuple_in image entry).name ≡ name_in image entry
unfolding tuple_in
name_of_tuple image entry = refl

-- the name that stands at the place of a candidate
place_name : (image : List ℕ) (c : Tuple) (place : ℕ) → IsLeastIndexOf image c place → name_of (strings_of image) place ≡ c.name
unfolding candidate_in name_in
place_name image c place is =
    let entry : List ℕ = is.some.0 in
    let parts = cond_some (is_candidate image entry) (tuple_in image entry) c is.some.2 in
    ap (name_of (strings_of image)) (sym is.some.3) ∙ sym (name_of_tuple image entry) ∙ ap (λ t. t.name) parts.1

place_named : (image : List ℕ) (c : Tuple) (place : ℕ) → IsLeastIndexOf image c place → before_first (λ b. b == 0) (drop place (strings_of image)) ≡ c.name
unfolding candidate_in
place_named image c place is =
    let entry : List ℕ = is.some.0 in
    let parts = cond_some (is_candidate image entry) (tuple_in image entry) c is.some.2 in
    let there = name_of_entry image entry (named image entry parts.0) in
    ap (λ n. before_first (λ b. b == 0) (drop n (strings_of image))) (sym is.some.3) ∙ sym there ∙ sym (name_of_tuple image entry) ∙ ap (λ t. t.name) parts.1

pub none_said : (image : List ℕ) (address : ℕ) (row : Row) → SaysNearest image address row → row.sect ≡ 0 → IsNearest image address None
none_said image address row says e = by_nearest says.0 says.1 says.2
  where
    by_nearest : (nearest : Option Tuple) → IsNearest image address nearest → Says image row nearest → IsNearest image address None
    by_nearest None is s = is
    by_nearest (Some c) is s = absurd (none_at_start image address c (is.member, omega (arith, s.2, e)))

pub some_said : (image : List ℕ) (address : ℕ) (row : Row) (name : List ℕ) → SaysNearest image address row → row.sect ≢ 0
    → name ≡ before_first (λ b. b == 0) (drop row.n_strx (strings_of image))
    → (c : Tuple) × IsNearest image address (Some c) × (row.value ≡ c.value) × (row.sect ≡ c.sect) × (name ≡ c.name)
some_said image address row name says ne is_name = by_nearest says.0 says.1 says.2
  where
    by_nearest : (nearest : Option Tuple) → IsNearest image address nearest → Says image row nearest
        → (c : Tuple) × IsNearest image address (Some c) × (row.value ≡ c.value) × (row.sect ≡ c.sect) × (name ≡ c.name)
    by_nearest None is s = absurd (ne s.2)
    by_nearest (Some c) is s = (c, is, s.0, s.2, is_name ∙ place_named image c row.n_strx s.1)

-- what is found of a row that says a candidate
pub found_said : (image : List ℕ) (address : ℕ) (row : Row) (f : FoundRecord) → SaysNearest image address row
    → row.sect ≢ 0 → f.name ≡ name_of (strings_of image) row.n_strx
    → f.address ≡ row.value → f.offset ≡ address - row.value → f.sect ≡ row.sect → f.segment ≡ option_map_or (λ s. s.segment) (section_of image row.sect) []
    → f.section ≡ option_map_or (λ s. s.section) (section_of image row.sect) [] → FindsNearest image address (Some f)
unfolding found_of
found_said image address row f says ne name at offset sect segment section = by_nearest says.0 says.1 says.2
  where
    by_nearest : (nearest : Option Tuple) → IsNearest image address nearest → Says image row nearest → FindsNearest image address (Some f)
    by_nearest None is s = absurd (ne s.2)
    by_nearest (Some c) is s = (
      Some c,
      is,
      λ i. Some (record {
        name = (name ∙ place_name image c row.n_strx s.1) i;
        address = (at ∙ s.0) i;
        offset = (offset ∙ ap (λ v. address - v) s.0) i;
        sect = (sect ∙ s.2) i;
        segment = (segment ∙ ap (λ n. option_map_or (λ s. s.segment) (section_of image n) []) s.2) i;
        section = (section ∙ ap (λ n. option_map_or (λ s. s.section) (section_of image n) []) s.2) i;
      }),
    )
