-- The part of a content that a query needs.
use Rattle.std.specs.Prelude.{◌≡◌, ℕ, List, Bool, true, length, take, drop, Contains}
use Rattle.std.specs.Str.{bytes_eq}
use Rattle.std.specs.FinSet as set
use Rattle.macho_symbols.specs.Found.{FoundRecord, named}
use Rattle.archive_core.specs.declared.keys.SliceKey.{SliceKey}
use Rattle.archive_core.specs.Record.{admission_record, retirement_record}
use Rattle.archive_core.specs.Content.{Operations}

-- the bytes after the tag of a record begin with this prefix: a UUID, or a key
unfoldable pub is_under : List ℕ → List ℕ → Bool
is_under prefix r = bytes_eq prefix (take (length prefix) (drop 1 r))

-- the operations of a content whose records the predicate accepts
abbrev pub part : Operations → (List ℕ → Bool) → Operations
part o picks = set.retain o picks

-- the two contents have the same records with this prefix after the tag
abbrev pub AreAlikeUnder : List ℕ → Operations → Operations → Type 0
AreAlikeUnder prefix o p = (r : List ℕ) → is_under prefix r ≡ true → set.contains o r ≡ set.contains p r

-- the two contents have the same retirements, and the same admissions of slices with a candidate of the name
pub record AreAlikeNamed (name : List ℕ) (o p : Operations) : Type 0 where
  pub retirements : (key : SliceKey) (digest : List ℕ)
      → set.contains o (retirement_record key digest) ≡ set.contains p (retirement_record key digest)
  pub admissions : (slice : List ℕ) (found : FoundRecord) → Contains (named slice name) found
      → set.contains o (admission_record slice) ≡ set.contains p (admission_record slice)
