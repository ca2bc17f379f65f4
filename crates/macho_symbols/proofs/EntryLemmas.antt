-- Steps over the entries of a symbol table.
use Rattle.std.proofs.Common.{◌≡◌, ◌≤◌, ℕ, zero, suc, ◌-◌, ◌<◌, List, [], ◌∷◌, take, drop, Some, refl, ap, ◌∙◌, ◌*◌}
use Rattle.std.proofs.Common.{length, slice_get, arith, sub-one, length-take, length-drop}
use Rattle.std.proofs.lemmas.List.{drop-drop}
use Rattle.std.specs.List.{AllByRecursion, filter_map}
use Rattle.macho_symbols.specs.Nlist.{IsEntry}
use Rattle.macho_symbols.specs.Symbols.{table_of, entries, entries_of, candidate_in, candidates}

-- none is left
pub no_entry : (count : ℕ) (bytes : List ℕ) → count ≡ 0 → entries count bytes ≡ []
unfolding entries
no_entry count bytes h = rw h refl

-- the first of those that are left
pub one_entry : (count : ℕ) (bytes : List ℕ) → 0 < count → entries count bytes ≡ take 16 bytes ∷ entries (count - 1) (drop 16 bytes)
unfolding entries
one_entry zero bytes h = absurd (omega arith)
one_entry (suc count) bytes h = rw sub-one refl

pub ruleset of_entries = (no_entry, one_entry)

-- each has its bytes
pub entries_long : (count : ℕ) (bytes : List ℕ) → 16 * count ≤ length bytes → AllByRecursion IsEntry (entries count bytes)
unfolding entries
entries_long zero bytes h = tt
entries_long (suc count) bytes h = (omega (arith, length-take 16 bytes), entries_long count (drop 16 bytes) (omega (arith, length-drop 16 bytes)))

pub length-entries : (count : ℕ) (bytes : List ℕ) → length (entries count bytes) ≡ count
unfolding entries
length-entries zero bytes = refl
length-entries (suc count) bytes = omega (arith, length-entries count (drop 16 bytes))

pub entry_at : (count : ℕ) (bytes : List ℕ) (i : ℕ) → i < count → slice_get (entries count bytes) i ≡ Some (take 16 (drop (16 * i) bytes))
unfolding entries
entry_at zero bytes i h = absurd (omega arith)
entry_at (suc count) bytes zero h = refl
entry_at (suc count) bytes (suc i) h =
    entry_at count (drop 16 bytes) i (omega arith) ∙ ap (λ rest. Some (take 16 rest)) (drop-drop (16 * i) 16 bytes ∙ ap (λ n. drop n bytes) (omega arith))

-- at most one candidate an entry
length-candidates_in : (image : List ℕ) (es : List (List ℕ)) → length (filter_map (candidate_in image) es) ≤ length es
length-candidates_in image [] = omega arith
length-candidates_in image (e ∷ es) = grind (arith, length-candidates_in image es)

pub length-candidates : (image : List ℕ) → length (candidates image) ≤ length (entries_of image)
unfolding candidates
length-candidates image = length-candidates_in image (entries_of image)

pub entries_fit : (image : List ℕ) (room : ℕ) → 16 * (table_of image).nsyms ≤ room → 16 * length (entries_of image) ≤ room
entries_fit image room h = omega (arith, h, length-entries (table_of image).nsyms (drop (table_of image).symoff image))
