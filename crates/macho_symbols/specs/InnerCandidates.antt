-- The candidates of an image with the offsets of their names, and the first of several: definitions of inner functions.
-- No contract of a public function uses them.
use Rattle.std.specs.Prelude.{◌≡◌, ◌<◌, ◌≤◌, ◌==◌, ◌+◌, ◌^◌, ℕ, Bool, true, false, List, [], ◌∷◌, bit_and}
use Rattle.std.specs.Prelude.{Contains, length, nat_lt, slice_get, slice_index_or, Option, Some, None, MatchOption}
use Rattle.std.specs.Prelude.{◌&&◌, if◌then◌else◌, cond}
use Rattle.std.specs.Option.{option_map_or}
use Rattle.std.specs.Ordering.{ordering_then, nat_cmp, is_lt}
use Rattle.std.specs.declared.cmp.Ordering.{Ordering}
use Rattle.macho_image.specs.Sections.{SectionRecord}
use Rattle.macho_image.specs.declared.section.Section.{Section}
use Rattle.macho_symbols.specs.Nlist.{n_strx, n_type, n_sect, n_value}
use Rattle.macho_symbols.specs.Symbols.{table_of, entry_of, entries_of, is_candidate, is_in_section, strings_of}
use Rattle.macho_symbols.specs.Nearest.{is_eligible, tuple_cmp}
use Rattle.macho_symbols.specs.Views.{tuple_of}
use Rattle.macho_symbols.specs.SectionNumbers.{AreSectionsOf}
use Rattle.macho_symbols.specs.Steps.{turns}
use Rattle.macho_symbols.specs.declared.row.Row.{Row}
use Rattle.macho_symbols.specs.declared.candidate.Candidate.{Candidate}

-- whether an entry is a candidate if it has a name
unfoldable pub is_placed : List ℕ → List ℕ → Bool
is_placed image entry =
    (bit_and (n_type entry) 0xe0 == 0) && (bit_and (n_type entry) 0x0e == 0x0e)
    && is_in_section image (n_sect entry) (n_value entry)

-- an entry that is a candidate, with the offset of its name
unfoldable pub numbered_in : List ℕ → List ℕ → Option Candidate
numbered_in image entry =
    if is_candidate image entry
    then Some (record {
      value = n_value entry;
      n_strx = n_strx entry;
      sect = n_sect entry;
      external = bit_and (n_type entry) 0x01 == 1;
    })
    else None

-- the candidate at an index, if there is such an entry and it is a candidate
abbrev pub numbered_at : List ℕ → ℕ → Option Candidate
numbered_at image i = option_map_or (numbered_in image) (slice_get (entries_of image) i) None

-- the candidate at an index, if it is eligible for an address
abbrev pub eligible_at : List ℕ → ℕ → ℕ → Option Candidate
eligible_at image address i =
    option_map_or (λ c. cond (is_eligible image address (tuple_of (strings_of image) c)) (Some c) None)
    (numbered_at image i) None

-- a candidate at some index
abbrev pub IsAt : (ℕ → Option Candidate) → Candidate → Type 0
IsAt at c = (i : ℕ) × (at i ≡ Some c)

-- these are the candidates among the first `count` entries of an image
pub record AreCandidatesBelow (image : List ℕ) (count : ℕ) (candidates : List Candidate) : Type 0 where
  pub from : (c : Candidate) → Contains candidates c
      → (i : ℕ) × (i < count) × (numbered_in image (entry_of image i) ≡ Some c)
  pub each : (i : ℕ) (c : Candidate) → i < count → numbered_in image (entry_of image i) ≡ Some c
      → Contains candidates c
  pub small : (c : Candidate) → Contains candidates c → c.sect < 2 ^ 8

-- these are the candidates among all entries of an image
abbrev pub AreCandidates : List ℕ → List Candidate → Type 0
AreCandidates image candidates = AreCandidatesBelow image (table_of image).nsyms candidates

-- the order of candidates, and then that of the offsets of their names
abbrev pub entry_cmp : List ℕ → Candidate → Candidate → Ordering
entry_cmp strings c d =
    ordering_then (tuple_cmp (tuple_of strings c) (tuple_of strings d)) (nat_cmp c.n_strx d.n_strx)

-- whether one candidate comes before another in that order
abbrev pub is_before : List ℕ → Candidate → Candidate → Bool
is_before strings c d = is_lt (entry_cmp strings c d)

-- the first candidate in that order among several
pub record IsLeast (strings : List ℕ) (among : Candidate → Type 0) (found : Candidate) : Type 0 where
  pub member : among found
  pub least : (other : Candidate) → among other → is_before strings other found ≡ false

-- the first candidate among several, or none if there are none
abbrev pub IsLeastOrNone : List ℕ → (Candidate → Type 0) → Option Candidate → Type 0
IsLeastOrNone strings among found = MatchOption found ((c : Candidate) → among c → ⊥) (IsLeast strings among)

-- the first candidate so far, if there is one, and the next, if there is one
abbrev pub first_of : List ℕ → Option Candidate → Option Candidate → Option Candidate
first_of strings best None = best
first_of strings None (Some c) = Some c
first_of strings (Some b) (Some c) = Some (cond (is_before strings c b) c b)

-- the values never decrease
abbrev pub AreByValue : List Candidate → Type 0
AreByValue candidates = (i j : ℕ) (d : Candidate) → i < j → j < length candidates
    → (slice_index_or candidates i d).value ≤ (slice_index_or candidates j d).value

-- the first address of a section, and its end, if that is an address
abbrev pub ends_below : SectionRecord → List ℕ
ends_below s = s.addr ∷ (if nat_lt (s.addr + s.size) (2 ^ 64) then (s.addr + s.size) ∷ [] else [])

-- the turns of an image that are addresses, ascending
pub record AreTurns (image : List ℕ) (all : List ℕ) : Type 0 where
  pub rising : (i j d : ℕ) → i < j → j < length all → slice_index_or all i d < slice_index_or all j d
  pub from : (a : ℕ) → Contains all a → Contains (turns image) a
  pub each : (a : ℕ) → Contains (turns image) a → a < 2 ^ 64 → Contains all a

-- one of the first `count` candidates
abbrev pub IsNoted : List Candidate → ℕ → Candidate → Type 0
IsNoted candidates count c = (i : ℕ) × (i < count) × (slice_get candidates i ≡ Some c)

-- the first `count` candidates are not above an address
abbrev pub AreUpTo : List Candidate → ℕ → ℕ → Type 0
AreUpTo candidates count address =
    (i : ℕ) (c : Candidate) → i < count → slice_get candidates i ≡ Some c → c.value ≤ address

-- the candidates after the first `count` are above an address
abbrev pub AreAbove : List Candidate → ℕ → ℕ → Type 0
AreAbove candidates count address =
    (i : ℕ) (c : Candidate) → count ≤ i → slice_get candidates i ≡ Some c → address < c.value

-- the first candidate of each section, among the first `count` candidates
abbrev pub AreFirstsOf : List ℕ → List Candidate → ℕ → List (Option Candidate) → Type 0
AreFirstsOf strings candidates count firsts = (k : ℕ) → k < length firsts
    → IsLeastOrNone strings (λ c. IsNoted candidates count c × (c.sect ≡ k + 1)) (slice_index_or firsts k None)

-- each candidate has the number of a section
abbrev pub AreNumbered : List Candidate → ℕ → Type 0
AreNumbered candidates count = (c : Candidate) → Contains candidates c → (0 < c.sect) × (c.sect ≤ count)

-- a candidate that is eligible for an address
abbrev pub IsEligibleAmong : List ℕ → List Candidate → ℕ → Candidate → Type 0
IsEligibleAmong image candidates address c =
    Contains candidates c × (is_eligible image address (tuple_of (strings_of image) c) ≡ true)

-- the row of a turn with the nearest candidate there
abbrev pub row_saying : ℕ → Option Candidate → Row
row_saying start None = record { start = start; value = 0; n_strx = 0; sect = 0 }
row_saying start (Some c) = record { start = start; value = c.value; n_strx = c.n_strx; sect = c.sect }

-- the inputs of a sweep over an image
pub record AreSwept (image strings : List ℕ) (all : List Section) (candidates : List Candidate) (turned : List ℕ)
    : Type 0 where
  pub strings_are : strings ≡ strings_of image
  pub sections_are : AreSectionsOf image all
  pub candidates_are : AreCandidates image candidates
  pub turns_are : AreTurns image turned
