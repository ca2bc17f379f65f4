-- Pages of bytes that are stored in a text.
use Rattle.std.proofs.Common.{◌≡◌, ℕ, ◌+◌, ◌-◌, ◌*◌, ◌/◌, ◌%◌, ◌<◌, ◌≤◌, List, length, take, drop, ◌++◌, refl, sym, ap, ◌∙◌}
use Rattle.std.proofs.Common.{subst, arith, length-drop, length-take, length-append, min, inl, inr, zero, suc, [], ◌∷◌, ◌≢◌, set}
use Rattle.std.specs.Prelude.{slice_index_or}
use Rattle.std.proofs.lemmas.List.{append-nil, append_assoc, get_or-set_other, get_or-set_same, drop-drop, drop-take, take-take, take_all, take_at, drop_at}
use Rattle.std.proofs.lemmas.Bool.{cases_eq, cases_lt}
use Rattle.std.proofs.Math.Seq.{take-add}
use Rattle.sha2.specs.Sha256.{sha256}
use Rattle.sha2.proofs.Facts256.{length-sha256}
use Rattle.table_checked_pages.specs.Pages.{AreKept, AreKeptLevels, AreStored, Claim, DigestsDecidePages, MayBeStored, digests_from, digests_size}
use Rattle.table_checked_pages.specs.Pages.{digests_size_in, first_of, height, level_of, level_size, page_digests, page_in}
use Rattle.table_checked_pages.specs.Pages.{page_of, pages_in, root_of, stored, stored_in}
use Rattle.table_checked_pages.proofs.LevelLemmas.{height_level, level_last, level_within, more_pages, one_page}

-- ---- page digests

pub length-digests : (count i : ℕ) (all : List ℕ) → length (digests_from count i all) ≡ 32 * count
unfolding digests_from
length-digests zero i all = refl
length-digests (suc count) i all = omega (
  arith,
  length-append (sha256 (page_of all i))
      (digests_from count (i + 1) all),
  length-sha256 (page_of all i),
  length-digests count (i + 1) all,
)

-- the digest of a page stands at its offset
digest_from : (count i k : ℕ) (all : List ℕ) → k < count → take 32 (drop (32 * k) (digests_from count i all)) ≡ sha256 (page_of all (i + k))
unfolding digests_from
digest_from zero i k all h = absurd (omega arith)
digest_from (suc count) i zero all h = take_at (sha256 (page_of all i)) (digests_from count (i + 1) all) 32
    (length-sha256 (page_of all i)) ∙ ap (λ n. sha256 (page_of all n)) (omega arith)
digest_from (suc count) i (suc k) all h =
    let rest : List ℕ = digests_from count (i + 1) all in
    let first : List ℕ = sha256 (page_of all i) in
    let far : 32 * suc k ≡ 32 + 32 * k = omega arith in
    let next : i + 1 + k ≡ i + suc k = omega arith in
    ap (λ n. take 32 (drop n (first ++ rest))) far ∙ ap (take 32) (sym (drop-drop (32 * k) 32 (first ++ rest)))
    ∙ ap (λ b. take 32 (drop (32 * k) b)) (drop_at first rest 32 (length-sha256 (page_of all i)))
    ∙ digest_from count (i + 1) k all (omega arith) ∙ ap (λ n. sha256 (page_of all n)) next

pub digest_of_page : (all : List ℕ) (i : ℕ) → 4096 * i < length all → take 32 (drop (32 * i) (page_digests all)) ≡ sha256 (page_of all i)
digest_of_page all i h = digest_from (pages_in (length all)) 0 i all (omega (arith, h)) ∙ ap (λ n. sha256 (page_of all n)) (omega arith)

-- ---- what stands in a text

take_both : (m n : ℕ) (xs : List ℕ) → take m (take n xs) ≡ take (min m n) xs
take_both m n xs = elim (cases_lt m n) [
  | inl l ↦
      let least : min m n ≡ m = omega arith in
      take-take m n xs (omega arith) ∙ ap (λ k. take k xs) (sym least)
  | inr l ↦
      let least : min m n ≡ n = omega arith in
      take_all m (take n xs) (omega (arith, length-take n xs)) ∙ ap (λ k. take k xs) (sym least)
]

-- no more than there are
pub take_least : (xs : List ℕ) (n : ℕ) → take (min (length xs) n) xs ≡ take n xs
take_least xs n = sym (take_both (length xs) n xs) ∙ take_all (length xs) (take n xs) (omega (arith, length-take n xs))

-- a part of bytes that stand in a text
part_stands : (text all : List ℕ) (at size n long : ℕ) → length all ≡ size → take (length all) (drop at text) ≡ all → n ≤ size
    → take (min long (size - n)) (drop (at + n) text) ≡ take long (drop n all)
part_stands text all at size n long is stands within =
    let rest : ℕ = size - n in
    let whole : length all ≡ n + rest = omega arith in
    let here : drop n all ≡ take rest (drop (at + n) text) =
    ap (drop n) (sym stands) ∙ ap (λ k. drop n (take k (drop at text))) whole ∙ drop-take n rest (drop at text) ∙ ap (take rest) (drop-drop n at text) in
    sym (take_both long rest (drop (at + n) text)) ∙ ap (take long) (sym here)

-- of what stands in two parts in a text, the first
first_stands : (text a b : List ℕ) (at n : ℕ) → length a ≡ n → take (length (a ++ b)) (drop at text) ≡ a ++ b → take n (drop at text) ≡ a
first_stands text a b at n is stands =
    let long : n ≤ length (a ++ b) = omega (arith, is, length-append a b) in
    sym (take-take n (length (a ++ b)) (drop at text) long) ∙ ap (take n) stands ∙ take_at a b n is

-- and the second
second_stands : (text a b : List ℕ) (at n : ℕ) → length a ≡ n → take (length (a ++ b)) (drop at text) ≡ a ++ b → take (length b) (drop (at + n) text) ≡ b
second_stands text a b at n is stands =
    let long : length (a ++ b) ≡ n + length b = omega (arith, is, length-append a b) in
    ap (take (length b)) (sym (drop-drop n at text)) ∙ sym (drop-take n (length b) (drop at text)) ∙ ap (λ k. drop n (take k (drop at text))) (sym long)
    ∙ ap (drop n) stands ∙ drop_at a b n is

-- a part of a page
pub part_of_page : (all : List ℕ) (i skip n : ℕ) → skip + n ≤ 4096 → take n (drop skip (page_of all i)) ≡ take n (drop (4096 * i + skip) all)
part_of_page all i skip n within =
    let rest : ℕ = 4096 - skip in
    let whole : 4096 ≡ skip + rest = omega arith in
    let here : drop skip (take 4096 (drop (4096 * i) all)) ≡ take rest (drop (4096 * i + skip) all) =
    ap (λ k. drop skip (take k (drop (4096 * i) all))) whole ∙ drop-take skip rest (drop (4096 * i) all) ∙ ap (take rest) (drop-drop skip (4096 * i) all) in
    ap (take n) here ∙ take-take n rest (drop (4096 * i + skip) all) (omega arith)

-- ---- where a level is stored

pub length-stored_in : (n : ℕ) (all : List ℕ) → length (stored_in n all) ≡ digests_size_in n (length all) + length all
unfolding stored_in digests_size_in
length-stored_in zero all = omega arith
length-stored_in (suc n) all =
    let long : length (page_digests all) ≡ 32 * pages_in (length all) = length-digests (pages_in (length all)) 0 all in
    omega (
      arith,
      length-append (stored_in n (page_digests all)) all,
      length-stored_in n (page_digests all),
      long,
      ap (λ s. digests_size_in n s) long,
    )

-- how many bytes are stored
pub length-stored : (all : List ℕ) → length (stored all) ≡ digests_size (length all) + length all
length-stored all = length-stored_in (height (length all)) all

pub length-level : (k : ℕ) (all : List ℕ) → length (level_of k all) ≡ level_size k (length all)
length-level zero all = refl
length-level (suc k) all = length-digests (pages_in (length (level_of k all))) 0 (level_of k all) ∙ ap (λ n. 32 * pages_in n) (length-level k all)

-- where bytes are stored, a level begins with those above it
level_begins : (k n h : ℕ) (text all : List ℕ) (at : ℕ) → h ≡ k + n → take (length (stored_in h all)) (drop at text) ≡ stored_in h all
    → take (length (stored_in n (level_of k all))) (drop at text) ≡ stored_in n (level_of k all)
unfolding stored_in
level_begins zero n h text all at is stands =
    let same : h ≡ n = omega (arith, is) in
    subst (λ (m : ℕ). take (length (stored_in m all)) (drop at text) ≡ stored_in m all) same stands
level_begins (suc k) n h text all at is stands =
    let here : take (length (stored_in (suc n) (level_of k all))) (drop at text) ≡ stored_in (suc n) (level_of k all) =
    level_begins k (suc n) h text all at (omega (arith, is)) stands in
    first_stands text (stored_in n (page_digests (level_of k all))) (level_of k all) at
    (length (stored_in n (page_digests (level_of k all)))) refl here

-- and then it is there itself
level_after : (n : ℕ) (text here : List ℕ) (at : ℕ) → take (length (stored_in n here)) (drop at text) ≡ stored_in n here
    → take (length here) (drop (at + digests_size_in n (length here)) text) ≡ here
unfolding stored_in digests_size_in
level_after zero text here at stands =
    let same : at + 0 ≡ at = omega arith in
    ap (λ o. take (length here) (drop o text)) same ∙ stands
level_after (suc n) text here at stands =
    second_stands text (stored_in n (page_digests here)) here at
    (digests_size_in n (32 * pages_in (length here)) + 32 * pages_in (length here))
    (length-stored_in n (page_digests here) ∙ ap (λ s. digests_size_in n s + s) (length-digests (pages_in (length here)) 0 here)) stands

pub page_stands : (text all : List ℕ) (claim : Claim) → AreStored text claim all → (k i : ℕ) → k ≤ height claim.size
    → 4096 * i < level_size k claim.size → page_in text claim k i ≡ page_of (level_of k all) i
page_stands text all claim are k i low inside =
    let size : ℕ = level_size k claim.size in
    let here : List ℕ = level_of k all in
    let long : length here ≡ size = length-level k all ∙ ap (level_size k) are.size in
    let above : height (length all) ≡ k + height size = ap height are.size ∙ height_level k claim.size low in
    let begins = level_begins k (height size) (height (length all)) text all claim.offset above are.bytes in
    let there : take (length here) (drop (first_of claim k) text) ≡ here =
    subst (λ (s : ℕ). take (length here) (drop (claim.offset + digests_size_in (height size) s) text) ≡ here) long
    (level_after (height size) text here claim.offset begins) in
    part_stands text here (first_of claim k) size (4096 * i) 4096 long there (omega (arith, inside))

pub may_be : (text all : List ℕ) (claim : Claim) → AreStored text claim all → MayBeStored text claim all
unfolding DigestsDecidePages
may_be text all claim are = record {
  size = are.size;
  root = are.root;
  tells = λ k i low inside same. page_stands text all claim are k i low inside;
}

-- what is stored lies within the text
pub lies_within : (text all : List ℕ) (claim : Claim) → AreStored text claim all → claim.offset + digests_size claim.size + claim.size ≤ length text
lies_within text all claim are = omega (arith, length-stored all, ap (λ s. digests_size s) are.size, are.size, are.within)

-- ---- all bytes of a claim

-- what stands before the same bytes
pub same_before : (a b c : List ℕ) → a ++ c ≡ b ++ c → a ≡ b
same_before a b c e =
    let long : length a ≡ length b = omega (arith, ap length e, length-append a c, length-append b c) in
    sym (take_at a c (length a) refl) ∙ (λ i. take (long i) (e i)) ∙ take_at b c (length b) refl

-- bytes that are in a text after their digests, and have the root, are stored there
pub all_stored : (text digests bytes : List ℕ) (claim : Claim) → length digests ≡ digests_size claim.size → length bytes ≡ claim.size
    → digests ≡ take (digests_size claim.size) (drop claim.offset text)
    → bytes ≡ take claim.size (drop (claim.offset + digests_size claim.size) text)
    → stored bytes ≡ digests ++ bytes → root_of bytes ≡ claim.root → claim.offset ≤ length text → AreStored text claim bytes
all_stored text digests bytes claim long size before these are root inside =
    let d : ℕ = digests_size claim.size in
    let rest : List ℕ = drop (claim.offset + d) text in
    let count : length (stored bytes) ≡ d + claim.size = length-stored bytes ∙ ap (λ n. digests_size n + n) size in
    record {
      size = size;
      root = root;
      within = omega (
        arith,
        count,
        long,
        size,
        ap length before,
        length-take d (drop claim.offset text),
        length-drop claim.offset text,
        ap length these,
        length-take claim.size rest,
        length-drop (claim.offset + d) text,
        inside,
      );
      bytes = ap (λ n. take n (drop claim.offset text)) count ∙ take-add d claim.size (drop claim.offset text)
          ∙ ap (λ (xs : List ℕ). take d (drop claim.offset text) ++ take claim.size xs) (drop-drop d claim.offset text)
          ∙ (λ i. sym before i ++ sym these i) ∙ sym are;
    }

-- stored bytes are in the text after their digests
pub bytes_stand : (text all : List ℕ) (claim : Claim) → AreStored text claim all
    → take claim.size (drop (claim.offset + digests_size claim.size) text) ≡ all
bytes_stand text all claim are = subst (λ (n : ℕ). take n (drop (claim.offset + digests_size n) text) ≡ all) are.size
    (level_after (height (length all)) text all claim.offset are.bytes)

-- bytes that are in a text where others are stored, after their digests, are these
pub all_refused : (text digests bytes all : List ℕ) (claim : Claim)
    → digests ≡ take (digests_size claim.size) (drop claim.offset text)
    → bytes ≡ take claim.size (drop (claim.offset + digests_size claim.size) text) → AreStored text claim all
    → (stored bytes ≡ digests ++ bytes → root_of bytes ≡ claim.root → ⊥) → ⊥
all_refused text digests bytes all claim before these are refused =
    let d : ℕ = digests_size claim.size in
    let there : take claim.size (drop (claim.offset + d) text) ≡ all = bytes_stand text all claim are in
    let same : bytes ≡ all = these ∙ there in
    let count : length (stored all) ≡ d + claim.size = length-stored all ∙ ap (λ n. digests_size n + n) are.size in
    let whole : stored all ≡ digests ++ all =
    sym are.bytes ∙ ap (λ n. take n (drop claim.offset text)) count ∙ take-add d claim.size (drop claim.offset text)
    ∙ ap (λ (xs : List ℕ). take d (drop claim.offset text) ++ take claim.size xs) (drop-drop d claim.offset text)
    ∙ (λ i. sym before i ++ there i) in
    refused (ap (λ (b : List ℕ). stored b) same ∙ whole ∙ ap (λ (b : List ℕ). digests ++ b) (sym same))
    (ap (λ (b : List ℕ). root_of b) same ∙ are.root)

-- ---- the digest of a page

-- that of the highest level is the root
pub root_is : (all root : List ℕ) (size k i : ℕ) → root_of all ≡ root → length all ≡ size → k ≤ height size
    → level_size k size ≤ 4096 → 4096 * i < level_size k size → root ≡ sha256 (page_of (level_of k all) i)
root_is all root size k i is long low small inside =
    let here : List ℕ = level_of k all in
    let last : height (length all) ≡ k = ap height long ∙ sym (level_last k size low small) in
    let first : 4096 * i ≡ 0 = omega (arith, small, inside) in
    let few : length here ≤ 4096 = omega (arith, small, length-level k all, ap (level_size k) long) in
    sym is ∙ ap (λ n. sha256 (level_of n all)) last ∙ ap sha256 (sym (take_all 4096 here few))
    ∙ ap (λ n. sha256 (take 4096 (drop n here))) (sym first)

-- that of another is in the page above it
pub digest_is : (all : List ℕ) (size k i : ℕ) → length all ≡ size → 4096 * i < level_size k size
    → take 32 (drop (32 * (i % 128)) (page_of (level_of (k + 1) all) (i / 128))) ≡ sha256 (page_of (level_of k all) i)
digest_is all size k i long inside =
    let next : k + 1 ≡ suc k = omega arith in
    let place : 4096 * (i / 128) + 32 * (i % 128) ≡ 32 * i = omega arith in
    let within : 4096 * i < length (level_of k all) = omega (arith, inside, length-level k all, ap (level_size k) long) in
    part_of_page (level_of (k + 1) all) (i / 128) (32 * (i % 128)) 32 (omega arith)
    ∙ ap (λ n. take 32 (drop (4096 * (i / 128) + 32 * (i % 128)) (level_of n all))) next
    ∙ ap (λ n. take 32 (drop n (page_digests (level_of k all)))) place
    ∙ digest_of_page (level_of k all) i within

-- what stands there and has the digest of a page is that page
pub page_is : (text all bytes digest : List ℕ) (claim : Claim) (k i offset n : ℕ) → MayBeStored text claim all
    → k ≤ height claim.size → 4096 * i < level_size k claim.size
    → offset ≡ first_of claim k + 4096 * i → n ≡ min 4096 (level_size k claim.size - 4096 * i) → bytes ≡ take n (drop offset text)
    → sha256 bytes ≡ digest → digest ≡ sha256 (page_of (level_of k all) i) → bytes ≡ page_of (level_of k all) i
unfolding DigestsDecidePages
page_is text all bytes digest claim k i offset n may low inside at long stands has is =
    let here : bytes ≡ page_in text claim k i = stands ∙ ap (λ m. take m (drop offset text)) long
    ∙ ap (λ o. take (min 4096 (level_size k claim.size - 4096 * i)) (drop o text)) at in
    here ∙ may.tells k i low inside (ap sha256 (sym here) ∙ has ∙ is)

-- a page that is stored is there, and has its digest
pub page_is_there : (text all digest : List ℕ) (claim : Claim) (k i offset n : ℕ) → AreStored text claim all
    → k ≤ height claim.size → 4096 * i < level_size k claim.size
    → offset ≡ first_of claim k + 4096 * i → n ≡ min 4096 (level_size k claim.size - 4096 * i)
    → digest ≡ sha256 (page_of (level_of k all) i)
    → (offset + n ≤ length text → sha256 (take n (drop offset text)) ≡ digest → ⊥) → ⊥
page_is_there text all digest claim k i offset n are low inside at long is absent =
    let here : take n (drop offset text) ≡ page_in text claim k i = ap (λ m. take m (drop offset text)) long
    ∙ ap (λ o. take (min 4096 (level_size k claim.size - 4096 * i)) (drop o text)) at in
    absent (omega (arith, at, long, inside, level_within k claim.size low, lies_within text all claim are))
    (ap sha256 (here ∙ page_stands text all claim are k i low inside) ∙ sym is)

-- ---- pages that are kept

one_empty_more : {A : Type 0} (kept : List (List A)) (i : ℕ) → slice_index_or (kept ++ [] ∷ []) i [] ≡ slice_index_or kept i []
one_empty_more [] zero = refl
one_empty_more [] (suc i) = refl
one_empty_more (page ∷ kept) zero = refl
one_empty_more (page ∷ kept) (suc i) = one_empty_more kept i

-- room for one page more
pub kept_room : (kept : List (List ℕ)) (all : List ℕ) → AreKept kept all → AreKept (kept ++ [] ∷ []) all
kept_room kept all are i h = one_empty_more kept i ∙ are i (subst (λ (page : List ℕ). 0 < length page) (one_empty_more kept i) h)

-- one page more
pub kept_more : (kept : List (List ℕ)) (all page : List ℕ) (i : ℕ) → i < length kept → page ≡ page_of all i → AreKept kept all → AreKept (set kept i page) all
kept_more kept all page i l e are j h = elim (cases_lt i j) [
  | inl k ↦ other (omega arith)
  | inr k ↦ elim (cases_lt j i) [
    | inl k ↦ other (omega arith)
    | inr m ↦
        let same : j ≡ i = omega arith in
        ap (λ n. slice_index_or (set kept i page) n []) same ∙ get_or-set_same kept i page [] l ∙ e ∙ ap (page_of all) (sym same)
  ]
]
  where
    other : j ≢ i → slice_index_or (set kept i page) j [] ≡ page_of all j
    other ne =
        let same : slice_index_or (set kept i page) j [] ≡ slice_index_or kept j [] = get_or-set_other kept i j page [] ne in
        same ∙ are j (subst (λ (p : List ℕ). 0 < length p) same h)

-- room for one level more
pub levels_room : (kept : List (List (List ℕ))) (all : List ℕ) → AreKeptLevels kept all → AreKeptLevels (kept ++ [] ∷ []) all
unfolding AreKeptLevels
levels_room kept all are k = subst (λ (pages : List (List ℕ)). AreKept pages (level_of k all)) (sym (one_empty_more kept k)) (are k)

-- other pages of one level
pub levels_more : (kept : List (List (List ℕ))) (all : List ℕ) (pages : List (List ℕ)) (k : ℕ) → k < length kept
    → AreKept pages (level_of k all) → AreKeptLevels kept all → AreKeptLevels (set kept k pages) all
unfolding AreKeptLevels
levels_more kept all pages k l here are j = elim (cases_eq j k) [
  | inl same ↦
      let is : slice_index_or (set kept k pages) j [] ≡ pages =
      ap (λ n. slice_index_or (set kept k pages) n []) same ∙ get_or-set_same kept k pages [] l in
      subst (λ (p : List (List ℕ)). AreKept p (level_of j all)) (sym is) (subst (λ n. AreKept pages (level_of n all)) (sym same) here)
  | inr other ↦ subst (λ (p : List (List ℕ)). AreKept p (level_of j all)) (sym (get_or-set_other kept k j pages [] other)) (are j)
]

-- one part more
pub more_came : (all before part : List ℕ) (offset next done n : ℕ) → next ≡ offset + done → before
    ≡ take done (drop offset all) → part ≡ take n (drop next all)
    → before ++ part ≡ take (done + n) (drop offset all)
more_came all before part offset next done n there e p =
    let moved : drop next all ≡ drop done (drop offset all) = ap (λ k. drop k all) there ∙ sym (drop-drop done offset all) in
    (λ i. e i ++ (p ∙ ap (take n) moved) i) ∙ sym (take-add done n (drop offset all))

-- ---- pages that are stored

-- the same from any page on
one_more : (count i : ℕ) (all : List ℕ) → digests_from (suc count) i all ≡ digests_from count i all ++ sha256 (page_of all (i + count))
unfolding digests_from
one_more zero i all = append-nil (sha256 (page_of all i)) ∙ ap (λ n. sha256 (page_of all n)) (omega arith)
one_more (suc count) i all =
    ap (λ rest. sha256 (page_of all i) ++ rest) (one_more count (i + 1) all ∙ ap (λ n. digests_from count (i + 1) all ++ sha256 (page_of all n)) (omega arith))
    ∙ sym (append_assoc (sha256 (page_of all i)) (digests_from count (i + 1) all) (sha256 (page_of all (i + suc count))))

-- the page digests of one page more
pub next_page : (count : ℕ) (all : List ℕ) → digests_from (count + 1) 0 all ≡ digests_from count 0 all ++ sha256 (page_of all count)
next_page count all =
    let next : count + 1 ≡ suc count = omega arith in
    ap (λ n. digests_from n 0 all) next ∙ one_more count 0 all ∙ ap (λ n. digests_from count 0 all ++ sha256 (page_of all n)) (omega arith)

-- ---- the recursion of what is stored

-- the levels of the page digests
level_above : (k : ℕ) (all : List ℕ) → level_of (suc k) all ≡ level_of k (page_digests all)
level_above zero all = refl
level_above (suc k) all = ap (λ (here : List ℕ). page_digests here) (level_above k all)

pub one_stored : (all : List ℕ) → length all ≤ 4096 → stored all ≡ all
unfolding stored_in
one_stored all small = ap (λ n. stored_in n all) (one_page (length all) small)

pub one_root : (all : List ℕ) → length all ≤ 4096 → root_of all ≡ sha256 all
one_root all small = ap (λ n. sha256 (level_of n all)) (one_page (length all) small)

above : (all : List ℕ) → 4096 < length all → height (length all) ≡ suc (height (length (page_digests all)))
above all large = more_pages (length all) large ∙ ap (λ n. suc (height n)) (sym (length-digests (pages_in (length all)) 0 all))

pub more_stored : (all : List ℕ) → 4096 < length all → stored all ≡ stored (page_digests all) ++ all
unfolding stored_in
more_stored all large = ap (λ n. stored_in n all) (above all large)

pub more_root : (all : List ℕ) → 4096 < length all → root_of all ≡ root_of (page_digests all)
more_root all large = ap (λ n. sha256 (level_of n all)) (above all large) ∙ ap sha256 (level_above (height (length (page_digests all))) all)
