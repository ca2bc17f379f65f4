-- Steps over the candidates of a name.
use Rattle.std.proofs.Common.{◌≡◌, ℕ, List, [], ◌∷◌, ◌++◌, true, false, Option, Some, None, length, ◌≤◌, map, not, ap, ◌∙◌, refl, arith}
use Rattle.std.specs.List.{filter, filter_map}
use Rattle.std.specs.Option.{option_map, option_to_list}
use Rattle.std.proofs.lemmas.List.{length-map, map-append}
use Rattle.std.proofs.lemmas.List.Elements.{filter-append}
use Rattle.std.proofs.lemmas.List.Filters.{length-filter_both}
use Rattle.macho_symbols.specs.Symbols.{Tuple, candidate_in}
use Rattle.macho_symbols.specs.Found.{found_of, has_name, named_among}
use Rattle.macho_symbols.specs.Views.{found_view}
use Rattle.macho_symbols.specs.declared.found.Found.{Found}
use Rattle.macho_symbols.proofs.Members.{option_front}

-- none of no entries
pub none_named : (image name : List ℕ) (es : List (List ℕ)) → es ≡ [] → named_among image name (filter_map (candidate_in image) es) ≡ []
unfolding named_among
none_named image name es h = rw h refl

-- what is found of one entry
pub not_named : (image name : List ℕ) (o : Option Tuple) → o ≡ None → named_among image name (option_to_list o) ≡ []
unfolding named_among
not_named image name o h = rw h refl

pub named_other : (image name : List ℕ) (c : Tuple) (o : Option Tuple) → o ≡ Some c → has_name name c ≡ false → named_among image name (option_to_list o) ≡ []
unfolding named_among
named_other image name c o h e = rw (h, e) refl

pub named_one : (image name : List ℕ) (c : Tuple) (o : Option Tuple) → o ≡ Some c → has_name name c ≡ true
    → named_among image name (option_to_list o) ≡ found_of image c.value c ∷ []
unfolding named_among
named_one image name c o h e = rw (h, e) refl

-- one entry more
named_entry : (image name e : List ℕ) (es : List (List ℕ))
    → named_among image name (filter_map (candidate_in image) (e ∷ es))
    ≡ named_among image name (option_to_list (candidate_in image e)) ++ named_among image name (filter_map (candidate_in image) es)
unfolding named_among
named_entry image name e es =
    ap (λ cs. map (λ c. found_of image c.value c) (filter (has_name name) cs)) (option_front (candidate_in image e) (filter_map (candidate_in image) es))
    ∙ simp (filter-append, map-append)

-- one step over the entries, which finds something or not
pub named_step : (image name : List ℕ) (es rest : List (List ℕ)) (e : List ℕ) (o found : Option Found) → es ≡ e ∷ rest
    → option_to_list (option_map found_view o) ≡ named_among image name (option_to_list (candidate_in image e)) → o ≡ found
    → named_among image name (filter_map (candidate_in image) es)
    ≡ option_to_list (option_map found_view found) ++ named_among image name (filter_map (candidate_in image) rest)
named_step image name es rest e o found steps told is = rw (steps, ← is, told) (named_entry image name e rest)

pub ruleset of_names = (none_named)

-- no more than there are candidates
pub length-named : (image name : List ℕ) (cs : List Tuple) → length (named_among image name cs) ≤ length cs
unfolding named_among
length-named image name cs =
    let found = length-map (filter (has_name name) cs) (λ c. found_of image c.value c) in
    omega (arith, found, length-filter_both (has_name name) (λ c. not (has_name name c)) (λ c. refl) cs)
