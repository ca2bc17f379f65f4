-- Bytes that are stored with the digests of their pages, and the bytes that these digests vouch for.
use Rattle.std.specs.Prelude.{◌≡◌, ◌<◌, ◌≤◌, ◌+◌, ◌-◌, ◌*◌, ◌/◌, ◌++◌, ℕ, zero, suc, List, [], length, take, drop, min}
use Rattle.std.specs.Prelude.{if◌then◌else◌, nat_le, slice_index_or}
use Rattle.sha2.specs.Sha256.{sha256}

-- a page of bytes: 4096 of them, or the rest for the last page
abbrev pub page_of : List ℕ → ℕ → List ℕ
page_of all i = take 4096 (drop (4096 * i) all)

-- the number of pages of bytes of this size
abbrev pub pages_in : ℕ → ℕ
pages_in size = (size + 4095) / 4096

-- the digests of `count` pages, from page `i` on
unfoldable pub digests_from : ℕ → ℕ → List ℕ → List ℕ
digests_from zero i all = []
digests_from (suc count) i all = sha256 (page_of all i) ++ digests_from count (i + 1) all

-- the SHA-256 of each page of the bytes, one after another
abbrev pub page_digests : List ℕ → List ℕ
page_digests all = digests_from (pages_in (length all)) 0 all

-- the number of levels above bytes of this size, counted in at most `steps` steps: none above one page, otherwise that
-- of their page digests and the levels above these
unfoldable pub height_in : ℕ → ℕ → ℕ
height_in zero size = 0
height_in (suc steps) size = if nat_le size 4096 then 0 else suc (height_in steps (32 * pages_in size))

-- the number of levels above bytes of this size
abbrev pub height : ℕ → ℕ
height size = height_in size size

-- a level: the bytes themselves, and above each level its page digests
abbrev pub level_of : ℕ → List ℕ → List ℕ
level_of zero all = all
level_of (suc k) all = page_digests (level_of k all)

-- the bytes after `n` levels above them, the highest first
unfoldable pub stored_in : ℕ → List ℕ → List ℕ
stored_in zero all = all
stored_in (suc n) all = stored_in n (page_digests all) ++ all

-- the bytes as they are stored: at most one page as itself, more bytes after their page digests, which are stored in
-- the same way (`laws::stored_after_digests`)
abbrev pub stored : List ℕ → List ℕ
stored all = stored_in (height (length all)) all

-- the SHA-256 of the highest level, which is one page
abbrev pub root_of : List ℕ → List ℕ
root_of all = sha256 (level_of (height (length all)) all)

-- the size of a level above bytes of this size
abbrev pub level_size : ℕ → ℕ → ℕ
level_size zero size = size
level_size (suc k) size = 32 * pages_in (level_size k size)

-- the size of `n` levels above bytes of this size
unfoldable pub digests_size_in : ℕ → ℕ → ℕ
digests_size_in zero size = 0
digests_size_in (suc n) size = digests_size_in n (32 * pages_in size) + 32 * pages_in size

-- the size of all digests that are stored before bytes of this size
abbrev pub digests_size : ℕ → ℕ
digests_size size = digests_size_in (height size) size

-- the place in a text at which bytes are said to be stored, their number, and their root
pub record Claim : Type 0 where
  pub offset : ℕ
  pub size : ℕ
  pub root : List ℕ

-- the offset of the first byte of a level
abbrev pub first_of : Claim → ℕ → ℕ
first_of claim k = claim.offset + digests_size (level_size k claim.size)

-- the bytes of the text at the place of a page of a level
abbrev pub page_in : List ℕ → Claim → ℕ → ℕ → List ℕ
page_in text claim k i =
    take (min 4096 (level_size k claim.size - 4096 * i)) (drop (first_of claim k + 4096 * i) text)

-- these bytes are stored where the claim says
pub record AreStored (text : List ℕ) (claim : Claim) (all : List ℕ) : Type 0 where
  pub size : length all ≡ claim.size
  pub root : root_of all ≡ claim.root
  pub within : claim.offset + length (stored all) ≤ length text
  pub bytes : take (length (stored all)) (drop claim.offset text) ≡ stored all

-- the assumption about SHA-256: if the bytes of the text at the place of a page of a level have the digest of that page
-- of these bytes, they are that page
unfoldable pub DigestsDecidePages : List ℕ → Claim → List ℕ → Type 0
DigestsDecidePages text claim all =
    (k i : ℕ) → k ≤ height claim.size → 4096 * i < level_size k claim.size
    → sha256 (page_in text claim k i) ≡ sha256 (page_of (level_of k all) i)
    → page_in text claim k i ≡ page_of (level_of k all) i

-- As far as SHA-256 decides, these bytes are stored where the claim says. If they are stored there, this assumes
-- nothing (`laws::stored_may_be`); otherwise it assumes that no two of the pages that it names have the same digest.
pub record MayBeStored (text : List ℕ) (claim : Claim) (all : List ℕ) : Type 0 where
  pub size : length all ≡ claim.size
  pub root : root_of all ≡ claim.root
  pub tells : DigestsDecidePages text claim all

-- each kept page is a page of these bytes; a list without bytes is no kept page
abbrev pub AreKept : List (List ℕ) → List ℕ → Type 0
AreKept kept all = (i : ℕ) → 0 < length (slice_index_or kept i []) → slice_index_or kept i [] ≡ page_of all i

-- the kept pages, by their levels and numbers, are pages of the levels of these bytes
unfoldable pub AreKeptLevels : List (List (List ℕ)) → List ℕ → Type 0
AreKeptLevels kept all = (k : ℕ) → AreKept (slice_index_or kept k []) (level_of k all)
