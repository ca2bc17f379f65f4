-- Parts of bytes, by their offsets.
use Rattle.std.proofs.Common.{◌≡◌, ℕ, ◌+◌, ◌-◌, ◌≤◌, List, ◌++◌, length, take, drop, sym, ap, ◌∙◌, arith}
use Rattle.std.proofs.lemmas.List.{drop_at, drop-drop, drop-take, take-take}
use Rattle.table_checked_pages.specs.Standing.{Stands}

front_part : (at len n : ℕ) (all : List ℕ) → at + len ≤ n → take len (drop at (take n all)) ≡ take len (drop at all)
front_part at len n all within =
    let split : n ≡ at + (n - at) = omega (arith, within) in
    ap (λ k. take len (drop at (take k all))) split ∙ ap (take len) (drop-take at (n - at) all)
    ∙ take-take len (n - at) (drop at all) (omega (arith, within))

-- a part of bytes that were read from an offset on
pub part_read : (at len n offset : ℕ) (all bytes : List ℕ) → at + len ≤ n → bytes ≡ take n (drop offset all)
    → take len (drop at bytes) ≡ take len (drop (offset + at) all)
part_read at len n offset all bytes within came =
    ap (λ b. take len (drop at b)) came ∙ front_part at len n (drop offset all) within
    ∙ ap (take len) (drop-drop at offset all)

-- a part of bytes that stand among others
pub part_stands : (all part : List ℕ) (first m n : ℕ) → Stands all first part → m + n ≤ length part → take n (drop (first + m) all) ≡ take n (drop m part)
part_stands all part first m n stands within = sym (part_read m n (length part) first all part within (sym stands.1))

-- bytes after others
pub drop_past : (a b : List ℕ) (n m : ℕ) → length a ≡ n → drop (n + m) (a ++ b) ≡ drop m b
drop_past a b n m is = sym (drop-drop m n (a ++ b)) ∙ ap (drop m) (drop_at a b n is)
