-- The levels above so many bytes, and how many bytes they have.
use Rattle.std.proofs.Common.{◌≡◌, ℕ, ◌+◌, ◌*◌, ◌<◌, ◌≤◌, zero, suc, refl, sym, ap, ◌∙◌, arith, inl, inr, cond, true, false}
use Rattle.std.specs.Prelude.{nat_le}
use Rattle.std.proofs.lemmas.Bool.{cases_lt, le-leb, lt-leb}
use Rattle.table_checked_pages.specs.Pages.{digests_size, digests_size_in, height, height_in, level_size, pages_in}

-- ---- the height

-- more steps do not count more
same_height : (m n size : ℕ) → size ≤ m → size ≤ n → height_in m size ≡ height_in n size
unfolding height_in
same_height zero zero size a b = refl
same_height zero (suc n) size a b =
    let yes : nat_le size 4096 ≡ true = le-leb size 4096 (omega (arith, a)) in
    sym (ap (λ t. cond t 0 (suc (height_in n (32 * pages_in size)))) yes)
same_height (suc m) zero size a b =
    let yes : nat_le size 4096 ≡ true = le-leb size 4096 (omega (arith, b)) in
    ap (λ t. cond t 0 (suc (height_in m (32 * pages_in size)))) yes
same_height (suc m) (suc n) size a b = elim (cases_lt 4096 size) [
  | inl large ↦
      let no : nat_le size 4096 ≡ false = lt-leb size 4096 large in
      let next : ℕ = 32 * pages_in size in
      ap (λ t. cond t 0 (suc (height_in m next))) no ∙ ap suc (same_height m n next (omega (arith, large, a)) (omega (arith, large, b)))
      ∙ sym (ap (λ t. cond t 0 (suc (height_in n next))) no)
  | inr small ↦
      let yes : nat_le size 4096 ≡ true = le-leb size 4096 small in
      ap (λ t. cond t 0 (suc (height_in m (32 * pages_in size)))) yes ∙ sym (ap (λ t. cond t 0 (suc (height_in n (32 * pages_in size)))) yes)
]

height_in_most : (n size : ℕ) → height_in n size ≤ n
unfolding height_in
height_in_most zero size = omega arith
height_in_most (suc n) size = elim (cases_lt 4096 size) [
  | inl large ↦ omega (arith, height_in_most n (32 * pages_in size), ap (λ t. cond t 0 (suc (height_in n (32 * pages_in size)))) (lt-leb size 4096 large))
  | inr small ↦ omega (arith, ap (λ t. cond t 0 (suc (height_in n (32 * pages_in size)))) (le-leb size 4096 small))
]

-- fewer than the bytes
pub height_most : (size : ℕ) → height size ≤ size
height_most size = height_in_most size size

-- at most one page
pub one_page : (size : ℕ) → size ≤ 4096 → height size ≡ 0
unfolding height_in
one_page zero small = refl
one_page (suc n) small = ap (λ t. cond t 0 (suc (height_in n (32 * pages_in (suc n))))) (le-leb (suc n) 4096 small)

-- more than one
pub more_pages : (size : ℕ) → 4096 < size → height size ≡ suc (height (32 * pages_in size))
unfolding height_in
more_pages zero large = absurd (omega (arith, large))
more_pages (suc n) large =
    let next : ℕ = 32 * pages_in (suc n) in
    ap (λ t. cond t 0 (suc (height_in n next))) (lt-leb (suc n) 4096 large) ∙ ap suc (same_height n next next (omega (arith, large)) (omega arith))

-- the levels above a level
pub height_level : (k size : ℕ) → k ≤ height size → height size ≡ k + height (level_size k size)
height_level zero size h = omega arith
height_level (suc k) size h =
    let here : ℕ = level_size k size in
    let so : height size ≡ k + height here = height_level k size (omega (arith, h)) in
    elim (cases_lt 4096 here) [
      | inl large ↦ omega (arith, so, more_pages here large)
      | inr small ↦ absurd (omega (arith, so, one_page here small, h))
    ]

-- above more than one page is a level
pub level_more : (k size : ℕ) → k ≤ height size → 4096 < level_size k size → k + 1 ≤ height size
level_more k size h large = omega (arith, height_level k size h, more_pages (level_size k size) large)

-- above one page is none
pub level_last : (k size : ℕ) → k ≤ height size → level_size k size ≤ 4096 → k ≡ height size
level_last k size h small = omega (arith, height_level k size h, one_page (level_size k size) small)

-- ---- how many bytes the levels have

pub digests_none : (size : ℕ) → size ≤ 4096 → digests_size size ≡ 0
unfolding digests_size_in
digests_none size small = ap (λ n. digests_size_in n size) (one_page size small)

pub digests_more : (size : ℕ) → 4096 < size → digests_size size ≡ digests_size (32 * pages_in size) + 32 * pages_in size
unfolding digests_size_in
digests_more size large = ap (λ n. digests_size_in n size) (more_pages size large)

digests_most_in : (n size : ℕ) → size ≤ n → digests_size size ≤ size
digests_most_in zero size h = omega (arith, digests_none size (omega (arith, h)))
digests_most_in (suc n) size h = elim (cases_lt 4096 size) [
  | inl large ↦ omega (arith, large, digests_more size large, digests_most_in n (32 * pages_in size) (omega (arith, large, h)))
  | inr small ↦ omega (arith, digests_none size small)
]

-- no more than those below them
pub digests_most : (size : ℕ) → digests_size size ≤ size
digests_most size = digests_most_in size size (omega arith)

-- a level and those above it are among all
pub level_within : (k size : ℕ) → k ≤ height size → digests_size (level_size k size) + level_size k size ≤ digests_size size + size
level_within zero size h = omega arith
level_within (suc k) size h =
    let here : ℕ = level_size k size in
    elim (cases_lt 4096 here) [
      | inl large ↦ omega (arith, level_within k size (omega (arith, h)), digests_more here large)
      | inr small ↦ absurd (omega (arith, height_level k size (omega (arith, h)), one_page here small, h))
    ]

-- one level more
pub level_next : (k size : ℕ) → level_size (k + 1) size ≡ 32 * pages_in (level_size k size)
level_next k size =
    let next : k + 1 ≡ suc k = omega arith in
    ap (λ n. level_size n size) next
