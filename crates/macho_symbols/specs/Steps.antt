-- The nearest candidate of each address of an image, step by step.
use Rattle.std.specs.Prelude.{◌≡◌, ◌<◌, ◌≤◌, ◌+◌, ◌^◌, ◌↔◌, ℕ, List, [], ◌∷◌, ◌++◌, map, take, flat_map, All, Contains}
use Rattle.std.specs.Prelude.{Option, Some, None}
use Rattle.macho_image.specs.Sections.{SectionRecord, sections}
use Rattle.macho_symbols.specs.Nlist.{n_strx}
use Rattle.macho_symbols.specs.Symbols.{Tuple, candidates, candidate_in, entries_of}
use Rattle.macho_symbols.specs.Nearest.{IsNearest}
use Rattle.macho_symbols.specs.Rows.{AreRising}
use Rattle.macho_symbols.specs.declared.row.Row.{Row}

-- the first address of a section, and its end
abbrev pub ends_of : SectionRecord → List ℕ
ends_of s = s.addr ∷ ((s.addr + s.size) ∷ [])

-- the addresses at which the nearest candidate may change: the values of candidates, and the first addresses and ends
-- of the sections that a symbol can name
abbrev pub turns : List ℕ → List ℕ
turns image = map (λ c. c.value) (candidates image) ++ flat_map ends_of (take 255 (sections image))

-- the least n_strx of the entries for this candidate
pub record IsLeastIndexOf (image : List ℕ) (c : Tuple) (index : ℕ) : Type 0 where
  pub some : (e : List ℕ) × Contains (entries_of image) e × (candidate_in image e ≡ Some c) × (n_strx e ≡ index)
  pub least : (e : List ℕ) → Contains (entries_of image) e → candidate_in image e ≡ Some c → index ≤ n_strx e

-- a row has this candidate, or none
abbrev pub Says : List ℕ → Row → Option Tuple → Type 0
Says image row None = (row.value ≡ 0) × (row.n_strx ≡ 0) × (row.sect ≡ 0)
Says image row (Some c) = (row.value ≡ c.value) × IsLeastIndexOf image c row.n_strx × (row.sect ≡ c.sect)

-- a row has the nearest candidate of an address
abbrev pub SaysNearest : List ℕ → ℕ → Row → Type 0
SaysNearest image address row = (nearest : Option Tuple) × IsNearest image address nearest × Says image row nearest

-- the rows of an image: one at each turn, ascending, with the nearest candidate there
pub record AreSteps (image : List ℕ) (rows : List Row) : Type 0 where
  pub rising : AreRising rows
  pub exactly : (a : ℕ) → Contains (map (λ r. r.start) rows) a ↔ (Contains (turns image) a × (a < 2 ^ 64))
  pub each : All (λ r. SaysNearest image r.start r) rows
