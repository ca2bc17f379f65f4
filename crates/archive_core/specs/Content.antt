-- The content of an archive: operations without the admissions that a retirement covers. The order on such sets, and
-- the live slices of a content.
use Rattle.std.specs.Prelude.{◌≡◌, ◌↔◌, ℕ, ◌+◌, List, [], ◌∷◌, ◌++◌, Bool, true, false, not, ◌&&◌, ◌||◌, ◌==◌}
use Rattle.std.specs.Prelude.{if◌then◌else◌, fold, take, drop, slice_index, Contains}
use Rattle.std.specs.Ordering.{nat_cmp}
use Rattle.std.specs.Cmp.Lexicographic.{slice_cmp}
use Rattle.std.specs.FinSet as set
use Rattle.sha2.specs.Sha256.{sha256}
use Rattle.macho_image.specs.Contents.{is_dsym_image}
use Rattle.archive_core.specs.Valid.{key_of}
use Rattle.archive_core.specs.Record.{IsRecord, admission_record, retirement_record}
use Rattle.archive_core.specs.declared.keys.SliceKey.{SliceKey}

-- a finite set of operations, each by its record, in byte order
abbrev pub Operations : Type 0
Operations = set.FinSet (slice_cmp nat_cmp)

-- the bytes are the record of an admission: the tag is 2
abbrev pub is_admission : List ℕ → Bool
is_admission r = slice_index r 0 == 2

-- the key in an admission's record and the SHA-256 of its slice: the key follows the tag, the slice begins at offset 33
unfoldable pub key_and_digest : List ℕ → List ℕ
key_and_digest r = take 24 (drop 1 r) ++ sha256 (drop 33 r)

-- the record of the retirement that covers an admission: tag 1, its key, the SHA-256 of its slice
abbrev pub covering : List ℕ → List ℕ
covering r = 1 ∷ key_and_digest r

-- a set of operations covers an admission if it contains the retirement that covers it
abbrev pub is_covered : Operations → List ℕ → Bool
is_covered o r = is_admission r && set.contains o (covering r)

-- the content of a set of operations: the set without the admissions that it covers. A retired slice never comes back,
-- as in the two-phase set (INRIA RR-7506, 2P-Set), and is not kept
abbrev pub content_of : Operations → Operations
content_of o = set.retain o (λ r. not (is_covered o r))

-- a set that is its own content
abbrev pub IsMade : Operations → Type 0
IsMade o = content_of o ≡ o

-- a content: a set of records that is its own content
pub record IsContent (o : Operations) : Type 0 where
  pub itself : IsMade o
  pub records : (r : List ℕ) → set.contains o r ≡ true → IsRecord r

-- the order on contents: the second has each retirement of the first, and has or covers each live slice of the first
pub record IsBelow (o p : Operations) : Type 0 where
  pub retirements : (r : List ℕ) → is_admission r ≡ false → set.contains o r ≡ true → set.contains p r ≡ true
  pub live : (r : List ℕ) → is_admission r ≡ true → set.contains o r ≡ true → set.contains o (covering r) ≡ false
      → (set.contains p r || set.contains p (covering r)) ≡ true

-- the content after one operation
abbrev pub with_record : Operations → List ℕ → Operations
with_record o r = content_of (set.insert o r)

-- whether an operation changes a content: it does if the content neither has it nor covers it
unfoldable pub changes : Operations → List ℕ → Bool
changes o r = not (set.contains o r || is_covered o r)

-- the content after operations, one after another
abbrev pub with_records : Operations → List (List ℕ) → Operations
with_records o rs = fold with_record o rs

-- the number of records that are new: each changes the content after those before it
unfoldable pub new_among : Operations → List (List ℕ) → ℕ
new_among o [] = 0
new_among o (r ∷ rs) = (if changes o r then 1 else 0) + new_among (with_record o r) rs

-- the content after some of the records: it is above the content before, and below the one with all records
pub record IsTakenInPart (o : Operations) (rs : List (List ℕ)) (mid : Operations) : Type 0 where
  pub content : IsContent mid
  pub above_old : IsBelow o mid
  pub below_all : IsBelow mid (with_records o rs)

-- the join of two contents: the content of their union
abbrev pub joined : Operations → Operations → Operations
joined o p = content_of (set.union o p)

-- the same operations, in any order and with any number of repeats
abbrev pub HaveSameMembers : List (List ℕ) → List (List ℕ) → Type 0
HaveSameMembers rs ss = (r : List ℕ) → Contains rs r ↔ Contains ss r

-- a live slice of a key: it was admitted, and no retirement covers it
pub record IsLive (o : Operations) (key : SliceKey) (slice : List ℕ) : Type 0 where
  pub admitted : set.contains o (admission_record slice) ≡ true
  pub under : key_of slice ≡ key
  pub kept : set.contains o (retirement_record key (sha256 slice)) ≡ false

-- an answering slice of a key: the live companions of the key answer alone; if there are none, its other live slices
-- answer
pub record IsAnswering (o : Operations) (key : SliceKey) (slice : List ℕ) : Type 0 where
  pub live : IsLive o key slice
  pub companions_first : (companion : List ℕ) → IsLive o key companion → is_dsym_image companion ≡ true
      → is_dsym_image slice ≡ true
