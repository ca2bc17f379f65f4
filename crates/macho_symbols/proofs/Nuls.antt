-- The first NUL at or after a place of a string table, and the name that it ends.
use Rattle.std.proofs.Common.{◌≡◌, ◌+◌, ◌-◌, ◌*◌, ◌<◌, ◌≤◌, inl, inr, ℕ, List, [], ◌∷◌, ◌++◌, length, take, drop}
use Rattle.std.proofs.Common.{slice_index, sym, ap, ◌∙◌, arith, length-append, length-take, length-drop}
use Rattle.std.proofs.lemmas.Bool.{cases_lt}
use Rattle.std.proofs.lemmas.List.{drop-drop, take_all, get_or_append_left, get_or_push}
use Rattle.macho_symbols.specs.NulPlaces.{nul_from}
use Rattle.macho_symbols.proofs.Pieces.{before}
use Rattle.macho_symbols.proofs.SuffixLemmas.{before_drop, before_take}

-- it is the same from all places between another one and it
pub same_nul : (strings : List ℕ) (earlier index : ℕ) → earlier ≤ index → index ≤ nul_from strings earlier → nul_from strings index ≡ nul_from strings earlier
same_nul strings earlier index h l =
    let k = index - earlier in
    let behind : drop k (drop earlier strings) ≡ drop index strings = drop-drop k earlier strings ∙ ap (λ n. drop n strings) (omega (arith, h)) in
    let rest : before (drop index strings) ≡ drop k (before (drop earlier strings)) =
    ap before (sym behind) ∙ sym (before_drop k (drop earlier strings) (omega (arith, h, l))) in
    omega (arith, h, l, ap length rest, length-drop k (before (drop earlier strings)))

-- where the first bytes from a place have one, it is there
pub nul_within : (strings : List ℕ) (index size : ℕ) → length (before (take size (drop index strings))) < size
    → index + length (before (take size (drop index strings))) ≡ nul_from strings index
nul_within strings index size h =
    omega (arith, h, ap length (before_take size (drop index strings)), length-take size (before (drop index strings)))

-- and where they have none, it is the one after them
pub nul_behind : (strings : List ℕ) (index size : ℕ) → size ≤ length (before (take size (drop index strings)))
    → nul_from strings (index + size) ≡ nul_from strings index
nul_behind strings index size h =
    same_nul strings index (index + size) (omega arith)
    (omega (
      arith,
      h,
      ap length (before_take size (drop index strings)),
      length-take size (before (drop index strings)),
    ))

-- the places of the blocks before a place, and that of the first NUL at or after an earlier one
pub record NulPlacesTo (strings places : List ℕ) (index known : ℕ) : Type 0 where
  pub at : index ≡ 4096 * length places
  pub each : (block : ℕ) → block < length places → slice_index places block ≡ nul_from strings (4096 * block)
  pub last : (earlier : ℕ) × (earlier ≤ index) × (known ≡ nul_from strings earlier)

pub nul_places_none : (strings : List ℕ) (known : ℕ) → known ≡ length (before strings) → NulPlacesTo strings [] 0 known
nul_places_none strings known h =
    record { at = omega arith; each = λ block l. absurd (omega (arith, l)); last = (0, omega arith, omega (arith, h)) }

pub nul_places_pushed : (strings places : List ℕ) (index known next : ℕ) → NulPlacesTo strings places index known → next ≡ nul_from strings index
    → NulPlacesTo strings (places ++ next ∷ []) (index + 4096) next
nul_places_pushed strings places index known next p h =
    record {
      at = omega (arith, p.at, length-append places (next ∷ []));
      each = λ block l. elim (cases_lt block (length places)) [
        | inl b ↦ get_or_append_left places (next ∷ []) 0 block b ∙ p.each block b
        | inr b ↦
            let here : block ≡ length places = omega (arith, b, l, length-append places (next ∷ [])) in
            get_or_push places next 0 block (sym here) ∙ h ∙ ap (nul_from strings) (omega (arith, here, p.at))
      ];
      last = (index, omega arith, h);
    }

-- all that there is from a place on tells the same
pub nul_in_all : (strings : List ℕ) (index size : ℕ) → size ≡ length (drop index strings)
    → index + length (before (take size (drop index strings))) ≡ nul_from strings index
nul_in_all strings index size h =
    ap (λ rest. index + length (before rest)) (take_all size (drop index strings) (omega (arith, h)))
