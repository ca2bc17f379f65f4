-- The types of the code, as the definitions have them.
use Rattle.std.specs.Prelude.{◌≡◌, List, [], ℕ, Option, Some, map, slice_index_or}
use Rattle.table_checked_pages.specs.Pages.{AreKeptLevels, Claim, MayBeStored}
use Rattle.table_checked_pages.specs.declared.claim.Claim.{Claim as ClaimFields}
use Rattle.table_checked_pages.specs.declared.level.Level.{Level}
use Rattle.table_checked_pages.specs.declared.pages.Pages.{Pages as PagesFields}

-- a claim
abbrev pub claim_view : ClaimFields → Claim
claim_view c = record { offset = c.offset; size = c.size; root = c.root }

-- the kept pages of a level, by their numbers
abbrev pub level_view : Level → List (List ℕ)
level_view level = map (λ page. page.items) level.kept.items

-- the kept pages, by their levels and numbers
abbrev pub kept_view : PagesFields → List (List (List ℕ))
kept_view pages = map level_view pages.levels.items

-- a kept page; empty if it is not kept
abbrev pub page_at : PagesFields → ℕ → ℕ → List ℕ
page_at pages k i = slice_index_or (slice_index_or (kept_view pages) k []) i []

-- The pages are those of these bytes, which may be stored in the text: the kept pages are pages of their levels.
pub record ArePagesOf (pages : PagesFields) (text all : List ℕ) : Type 0 where
  pub stored : MayBeStored text (claim_view pages.claim) all
  pub kept : AreKeptLevels (kept_view pages) all

-- if the bytes of the device are known, the pages are still those of all bytes of which they were pages
abbrev pub KeepsPages : {D : Type 0} → (D → Option (List ℕ)) → D → PagesFields → PagesFields → Type 0
KeepsPages whole device old new =
    (text all : List ℕ) → whole device ≡ Some text → ArePagesOf old text all → ArePagesOf new text all
