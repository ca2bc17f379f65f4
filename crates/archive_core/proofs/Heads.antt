-- Parts that are laid after one another.
use Rattle.std.proofs.Common.{◌≡◌, ℕ, ◌-◌, List, [], ◌∷◌, ◌++◌, length, take, drop, refl, sym, ap, ◌∙◌, arith, append_assoc, length-append, length-drop}
use Rattle.std.proofs.lemmas.List.{append-nil, take_at, drop-drop}
use Rattle.std.proofs.Math.Seq.{take-add}
use Rattle.std.proofs.Math.ListN.{drop_of_length-le}
use Rattle.std.specs.Int.{w32, to_be_bytes}
use Rattle.archive_core.specs.Key.{key_bytes}
use Rattle.archive_core.specs.declared.keys.SliceKey.{SliceKey}

pub two : (tag : ℕ) (a b d e : List ℕ) → a ≡ d → b ≡ e → tag ∷ (a ++ b) ≡ tag ∷ (d ++ e)
two tag a b d e p q = cc

-- the last part is laid after the others
pub laid_last : (prefix rest part : List ℕ) (at k : ℕ) → length prefix ≡ at → length rest ≡ k → take at (prefix ++ rest)
    ++ (part ++ drop k (drop at (prefix ++ rest))) ≡ prefix ++ part
laid_last prefix rest part at k len long =
    let none : drop k (drop at (prefix ++ rest)) ≡ [] =
    drop_of_length-le (drop at (prefix ++ rest)) (omega
    (arith, length-drop at (prefix ++ rest), length-append prefix rest)) in
    rw (take_at prefix rest at len, none, append-nil part) refl

-- the three parts of a key
pub laid_key : (old uuid cputype cpusubtype : List ℕ) → length old ≡ 24 → length uuid ≡ 16 → length cputype ≡ 4
    → length cpusubtype ≡ 4 → (x : List ℕ) → x ≡ take 16 (uuid ++ drop 16 old)
    ++ (cputype ++ drop 4 (drop 16 (uuid ++ drop 16 old)))
    → take 20 x ++ (cpusubtype ++ drop (length x - 20) (drop 20 x)) ≡ uuid ++ (cputype ++ cpusubtype)
laid_key old uuid cputype cpusubtype long u a b x e =
    let prefix : x ≡ (uuid ++ cputype) ++ drop 4 (drop 16 (uuid ++ drop 16 old)) = e
    ∙ ap (λ (t : List ℕ). t ++ (cputype ++ drop 4 (drop 16 (uuid ++ drop 16 old))))
    (take_at uuid (drop 16 old) 16 u) ∙ sym (append_assoc uuid cputype (drop 4 (drop 16 (uuid ++ drop 16 old)))) in
    let tail : List ℕ = drop 4 (drop 16 (uuid ++ drop 16 old)) in
    let four : length tail ≡ 4 = omega (
      arith,
      length-drop 4 (drop 16 (uuid ++ drop 16 old)),
      length-drop 16 (uuid ++ drop 16 old),
      length-append uuid (drop 16 old),
      length-drop 16 old,
    ) in
    let whole : length x ≡ 24 = ap length prefix ∙ omega (arith, length-append (uuid ++ cputype) tail, length-append uuid cputype) in
    rw (whole, prefix) (laid_last (uuid ++ cputype) tail cpusubtype 20 4 (omega (arith, length-append uuid cputype))
    four ∙ append_assoc uuid cputype cpusubtype)

-- the three parts of a key, read one after the other
pub read_key : (bytes : List ℕ) (key : SliceKey) → key.uuid ≡ take 16 (drop 1 bytes) → to_be_bytes w32 key.arch.cputype
    ≡ take 4 (drop 17 bytes) → to_be_bytes w32 key.arch.cpusubtype ≡ take 4 (drop 21 bytes) → key_bytes key
    ≡ take 24 (drop 1 bytes)
unfolding key_bytes
read_key bytes key u a b =
    let xs : List ℕ = drop 1 bytes in
    let d16 : drop 17 bytes ≡ drop 16 xs = sym (drop-drop 16 1 bytes) in
    let d20 : drop 21 bytes ≡ drop 4 (drop 16 xs) = sym (drop-drop 4 17 bytes) ∙ ap (drop 4) d16 in
    let whole : take 24 xs ≡ take 16 xs ++ (take 4 (drop 16 xs) ++ take 4 (drop 4 (drop 16 xs))) = take-add 16 8 xs
    ∙ ap (λ (t : List ℕ). take 16 xs ++ t) (take-add 4 4 (drop 16 xs)) in
    cc (u, a, b, d16, d20, whole)

-- the last part of a record is laid after its tag and its key
pub laid_behind : (tag : ℕ) (key rest part : List ℕ) (k : ℕ) → length key ≡ 24 → length rest ≡ k
    → take 25 (tag ∷ (key ++ rest)) ++ (part ++ drop k (drop 25 (tag ∷ (key ++ rest)))) ≡ tag ∷ (key ++ part)
laid_behind tag key rest part k len long = laid_last (tag ∷ key) rest part 25 k (omega arith) long
