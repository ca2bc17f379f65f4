-- The entries of a part: those that were read have tags.
use Rattle.std.proofs.Common.{◌≡◌, ℕ, zero, suc, ◌<◌, Bool, true, cond, eqb, ◌||◌, List, [], ◌∷◌, ◌++◌, length, map, get_or}
use Rattle.std.proofs.Common.{refl, sym, ap, ◌∙◌, subst, inl, inr, arith}
use Rattle.std.specs.Prelude.{All}
use Rattle.std.specs.List.{AllByRecursion, range_with_len}
use Rattle.std.proofs.lemmas.List.Elements.{All-map, recursion_from_All}
use Rattle.archive_core.proofs.Made.{by_test}
use Rattle.index_format.specs.Entry.{HasItsFields, entry_bytes, has_tag, placed_bytes}
use Rattle.index_format.specs.Spread.{HasTagIfRead, entry_with, spread}
use Rattle.index_format.specs.declared.entry.IndexEntry.{IndexEntry}

first_of : (xs ys : List ℕ) → 0 < length xs → get_or (xs ++ ys) 0 0 ≡ get_or xs 0 0
first_of [] ys lt = absurd (omega (arith, lt))
first_of (x ∷ xs) ys lt = refl

record HasTag (e : List ℕ) : Type 0 where
  tag : has_tag e ≡ true

tag_with_claim : (a b : List ℕ) → length a ≡ 74 → has_tag a ≡ true → HasTag (a ++ b)
tag_with_claim a b long is = record { tag = ap (λ (n : ℕ). eqb n 1 || eqb n 2) (first_of a b (omega (arith, long))) ∙ is }

tagged : (x : IndexEntry) → HasItsFields x → HasTag (entry_bytes x)
unfolding entry_bytes
tagged x fields = tag_with_claim (placed_bytes x) _ fields.placed.long fields.placed.tag

one_tagged : (ns : List ℕ) (es : List IndexEntry) (k : ℕ) → AllByRecursion HasItsFields es → HasTagIfRead (entry_with ns (map entry_bytes es) k)
one_tagged [] es k all = inl refl
one_tagged (n ∷ ns) [] k all = inl refl
one_tagged (n ∷ ns) (e ∷ es) k all = by_test _ (eqb n k)
    (λ yes. subst HasTagIfRead (sym (ap (λ (b : Bool). cond b (entry_bytes e) (entry_with ns (map entry_bytes es) k)) yes))
    (inr (tagged e all.0).tag))
    (λ no. subst HasTagIfRead (sym (ap (λ (b : Bool). cond b (entry_bytes e) (entry_with ns (map entry_bytes es) k)) no))
    (one_tagged ns es k all.1))

pub part_tags : (count : ℕ) (ns : List ℕ) (es : List IndexEntry) → All HasItsFields es → All HasTagIfRead (spread count ns (map entry_bytes es))
part_tags count ns es fields = All-map HasTagIfRead (entry_with ns (map entry_bytes es)) (range_with_len 0 count)
    (λ k d lt. one_tagged ns es (get_or (range_with_len 0 count) k d) (recursion_from_All HasItsFields es fields))
