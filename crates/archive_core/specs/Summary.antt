-- The entries of a content in a summary, and the part of a content that a summary lacks.
use Rattle.std.specs.Prelude.{◌≡◌, ℕ, List, ◌∷◌, Bool, true, not, ◌||◌, if◌then◌else◌, map, drop}
use Rattle.std.specs.Ordering.{nat_cmp}
use Rattle.std.specs.Cmp.Lexicographic.{slice_cmp}
use Rattle.std.specs.FinSet as set
use Rattle.sha2.specs.Sha256.{sha256}
use Rattle.join_core.specs.Listing.{listing}
use Rattle.archive_core.specs.Record.{admission_record}
use Rattle.archive_core.specs.Content.{Operations, is_admission, key_and_digest}

-- a finite set of entries, in byte order
abbrev pub Entries : Type 0
Entries = set.FinSet (slice_cmp nat_cmp)

-- the entry of an operation, from its record: that of an admission is tag 2, the key and the SHA-256 of the slice,
-- without its length and bytes; that of a retirement is its record
unfoldable pub entry : List ℕ → List ℕ
entry r = if is_admission r then 2 ∷ key_and_digest r else r

-- the entries of the operations of a content
unfoldable pub summary : Operations → Entries
summary o = set.from_list (map entry (listing o))

-- a content knows an entry: the entry is that of an operation in the content, or of a slice that a retirement in it
-- covers; the record of that retirement is the entry with tag 1
abbrev pub is_known : Operations → List ℕ → Bool
is_known o e = set.contains (summary o) e || set.contains o (1 ∷ drop 1 e)

-- the operations of a content whose entries are not in this set
unfoldable pub delta : Operations → Entries → Operations
delta o s = set.retain o (λ r. not (set.contains s (entry r)))

-- no slice of the first content has the SHA-256 of a different slice of the second
abbrev pub DigestsDiffer : Operations → Operations → Type 0
DigestsDiffer o p = (a b : List ℕ) → set.contains o (admission_record a) ≡ true
    → set.contains p (admission_record b) ≡ true → sha256 a ≡ sha256 b → a ≡ b
