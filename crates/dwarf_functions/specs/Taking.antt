-- Starts, to which the links of the functions that contain them are assigned, one function after another: definitions
-- of inner functions. No contract of a public function uses them.
use Rattle.std.specs.Prelude.{ℕ, List, [], ◌∷◌, ◌++◌, ◌≡◌, ◌≢◌, ◌≤◌, ◌<◌, ◌+◌, ◌-◌, ◌⊎◌, length, drop, flat_map}
use Rattle.std.specs.Prelude.{reverse}
use Rattle.std.specs.Prelude.{slice_get, slice_index, take, Option, Some, None}
use Rattle.dwarf_ranges.specs.declared.range.CodeRange.{CodeRange}
use Rattle.dwarf_functions.specs.Making.{AreKept, AreMade, IsLinkIn, count_at, made_at}
use Rattle.dwarf_functions.specs.declared.links.Link.{Link}
use Rattle.dwarf_functions.specs.declared.taking.Taking.{Taking}
use Rattle.dwarf_functions.specs.UnitFunctions.{FunctionRecord, functions_after}
use Rattle.dwarf_functions.specs.declared.functions.Function.{Function}
use Rattle.dwarf_asked_addresses.specs.Rising.{AreRising}
use Rattle.dwarf_asked_addresses.specs.Waiting.{Waits}

-- the ranges of functions, one after another: the last range of each function precedes those of the next function
pub record AreParts (functions : List Function) (ranges : List CodeRange) : Type 0 where
  pub within : (i : ℕ) (f : Function) → slice_get functions i ≡ Some f → f.ranges_end ≤ length ranges
  pub rise : (i : ℕ) (f g : Function) → slice_get functions i ≡ Some f → slice_get functions (i + 1) ≡ Some g
      → f.ranges_end ≤ g.ranges_end

-- functions and their ranges are those of these records
pub record AreOf (of : List FunctionRecord) (functions : List Function) (ranges : List CodeRange) : Type 0 where
  pub count : length functions ≡ length of
  pub end : (i : ℕ) (r : FunctionRecord) (f : Function) → slice_get of i ≡ Some r → slice_get functions i ≡ Some f
      → f.end ≡ r.end
  pub ranges_are : ranges ≡ flat_map (λ r. r.ranges) of
  pub ends : (i : ℕ) (f : Function) → slice_get functions i ≡ Some f
      → f.ranges_end ≡ length (flat_map (λ r. r.ranges) (take (i + 1) of))

-- each start has the number of a link, or 0; a waiting start has fewer links than an address may have
pub record IsTaking (t : Taking) : Type 0 where
  pub made : AreMade t.making.all.now.functions.items t.making.links.items t.making.last
  pub rising : AreRising t.starts.items
  pub count : length t.numbers.items ≡ length t.starts.items
  pub nexts : length t.waiting.next.items ≡ length t.starts.items + 1
  pub within : (i : ℕ) → i < length t.starts.items → slice_index t.numbers.items i ≤ length t.making.links.items
  pub few : (i : ℕ) → i < length t.starts.items → Waits t.waiting.next.items i
      → count_at t.making.links.items (slice_index t.numbers.items i) < 256

-- the starts and the functions are unchanged
pub record HasSame (old new : Taking) : Type 0 where
  pub starts : new.starts ≡ old.starts
  pub all : new.making.all ≡ old.making.all

-- the start at an index gets the link of a function in its own link, and waits unless it has the largest number of
-- links
pub record Extends (index at : ℕ) (old new : Taking) : Type 0 where
  pub kept : AreKept old.making.links.items new.making.links.items
  pub link : IsLinkIn new.making.links.items (slice_index old.numbers.items at) index
      (slice_index new.numbers.items at)
  pub others : (i : ℕ) → i ≢ at → slice_index new.numbers.items i ≡ slice_index old.numbers.items i
  pub still : (i : ℕ) → i < length old.starts.items → i ≢ at → Waits old.waiting.next.items i
      → Waits new.waiting.next.items i
  pub only : (i : ℕ) → i < length old.starts.items → Waits new.waiting.next.items i → Waits old.waiting.next.items i
  pub few : Waits new.waiting.next.items at
      → count_at new.making.links.items (slice_index new.numbers.items at) < 256
  pub full : (Waits new.waiting.next.items at → ⊥)
      → count_at new.making.links.items (slice_index new.numbers.items at) ≡ 256

-- the link with a number has these functions, the innermost first, and 0 has none
abbrev pub AreFunctionsOfLink : List FunctionRecord → List Link → ℕ → List FunctionRecord → Type 0
AreFunctionsOfLink of links number [] = number ≡ 0
AreFunctionsOfLink of links number (f ∷ fs) =
    (link : Link) × (made_at links number ≡ Some link) × (link.outer < number)
    × (slice_get of link.function ≡ Some f) × AreFunctionsOfLink of links link.outer fs

-- the end of the innermost of these functions
abbrev pub end_of : List FunctionRecord → Option ℕ
end_of [] = None
end_of (f ∷ fs) = Some f.end

-- the functions of the chain of an address, the outermost first
abbrev pub chain_in : List FunctionRecord → ℕ → List FunctionRecord
chain_in of address = functions_after 256 address None 0 of

-- the link with a number has the functions of the chain of an address that are before an index; if the address does not
-- wait, it has all
pub record IsUpTo (of : List FunctionRecord) (links : List Link) (waits : Type 0) (address number index : ℕ)
    : Type 0 where
  pub chain : List FunctionRecord
  pub are : AreFunctionsOfLink of links number chain
  pub before : (link : Link) → made_at links number ≡ Some link → link.function < index
  pub more : waits → reverse chain
      ++ functions_after (256 - length chain) address (end_of chain) index (drop index of) ≡ chain_in of address
  pub all : (waits → ⊥) → reverse chain ≡ chain_in of address

-- the link has the functions up to and with an index; if the address waits, the function at the index is the last
pub record HasTaken (of : List FunctionRecord) (links : List Link) (waits : Type 0) (address number index : ℕ)
    : Type 0 where
  pub up_to : IsUpTo of links waits address number (index + 1)
  pub last : waits → (link : Link) × (made_at links number ≡ Some link) × (link.function ≡ index)

-- a start has the functions before an index
abbrev pub HasBefore : List FunctionRecord → Taking → ℕ → ℕ → Type 0
HasBefore of t index at =
    IsUpTo of t.making.links.items (Waits t.waiting.next.items at) (slice_index t.starts.items at)
    (slice_index t.numbers.items at) index

-- a start has the functions up to and with an index, whose function contains it
abbrev pub HasIt : List FunctionRecord → Taking → ℕ → ℕ → Type 0
HasIt of t index at =
    HasTaken of t.making.links.items (Waits t.waiting.next.items at) (slice_index t.starts.items at)
    (slice_index t.numbers.items at) index

-- a start has the functions before an index, with or without the function at the index
abbrev pub HasEither : List FunctionRecord → Taking → ℕ → ℕ → Type 0
HasEither of t index at = HasBefore of t index at ⊎ HasIt of t index at

-- the starts at some indexes get a function, if they do not have it
pub record Takes (of : List FunctionRecord) (index : ℕ) (here : ℕ → Type 0) (old new : Taking) : Type 0 where
  pub either : (i : ℕ) → i < length old.starts.items → HasEither of old index i → HasEither of new index i
  pub still : (i : ℕ) → i < length old.starts.items → HasIt of old index i → HasIt of new index i
  pub taken : (i : ℕ) → i < length old.starts.items → here i → HasEither of old index i → HasIt of new index i
