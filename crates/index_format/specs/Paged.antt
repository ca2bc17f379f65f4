-- The entries of an index, where their bytes are stored in pages.
use Rattle.std.specs.Prelude.{◌≡◌, ◌≤◌, ℕ, Bool, true, false, List, [], ◌∷◌, length, map, take, if◌then◌else◌}
use Rattle.std.specs.List.{AllByRecursion, AllWithin, concat}
use Rattle.std.specs.Ordering.{is_le, is_lt, nat_cmp}
use Rattle.std.specs.Cmp.Lexicographic.{slice_cmp}
use Rattle.std.specs.declared.cmp.Ordering.{Ordering}
use Rattle.std.specs.declared.cmp.Ordering.TheVariants.{Less, Equal, Greater}

-- so many entries of 122 bytes, one after another, are these bytes
pub record FillBytes (entries : List (List ℕ)) (count : ℕ) (all : List ℕ) : Type 0 where
  pub whole : concat entries ≡ all
  pub many : length entries ≡ count
  pub long : AllByRecursion (λ e. length e ≡ 122) entries

-- below, or below and equal too
abbrev pub is_up_to : Bool → Ordering → Bool
is_up_to true order = is_le order
is_up_to false order = is_lt order

-- an entry that passes, and of another no bytes
abbrev pub kept : (List ℕ → Bool) → List ℕ → List ℕ
kept passes e = if passes e then e else []

-- these entries as far as they pass: of the others no bytes
abbrev pub only : (List ℕ → Bool) → List (List ℕ) → List (List ℕ)
only passes entries = map (kept passes) entries

-- how the tag and the UUID in an entry compare with these
abbrev pub begins_as : ℕ → List ℕ → List ℕ → Ordering
begins_as tag uuid e = slice_cmp nat_cmp (take 17 e) (tag ∷ uuid)

-- Of the entries from one number up to another, those with this tag and UUID are those from `start` up to `stop`; those
-- before them begin lower, and those after them higher.
pub record IsRunWithin (tag : ℕ) (uuid : List ℕ) (entries : List (List ℕ)) (from to start stop : ℕ) : Type 0 where
  pub least : from ≤ start
  pub ordered : start ≤ stop
  pub most : stop ≤ to
  pub before : AllWithin (λ e. begins_as tag uuid e ≡ Less) entries from start
  pub inside : AllWithin (λ e. begins_as tag uuid e ≡ Equal) entries start stop
  pub behind : AllWithin (λ e. begins_as tag uuid e ≡ Greater) entries stop to
