-- The rows of the entries under a UUID, in an order of their own.
use Rattle.std.proofs.Common.{◌≡◌, ℕ, ◌<◌, ◌≤◌, Bool, true, false, cond, ◌&&◌, ◌||◌, List, [], ◌∷◌, ◌++◌, length, map, take, drop}
use Rattle.std.proofs.Common.{get_or, refl, sym, ap, ◌∙◌, subst, inl, inr, arith, eqb}
use Rattle.std.specs.Prelude.{All, filter}
use Rattle.std.specs.List.{AllByRecursion}
use Rattle.std.specs.List.Sorted.{IsPermutation}
use Rattle.std.specs.Str.{bytes_eq}
use Rattle.std.proofs.lemmas.Bool.{eqb-true, true≢false}
use Rattle.std.proofs.lemmas.List.{drop-take, map-append, take-take}
use Rattle.std.proofs.lemmas.List.Elements.{recursion_from_All}
use Rattle.std.proofs.lemmas.List.Sorted.{IsPermutation-cons, IsPermutation-map, IsPermutation-middle, IsPermutation-refl, IsPermutation-sym}
use Rattle.std.proofs.lemmas.List.Sorted.{IsPermutation-trans}
use Rattle.archive_core.specs.Part.{is_under}
use Rattle.archive_core.specs.declared.find.FindRow.{FindRow}
use Rattle.index_format.specs.Entry.{HasItsFields, entry_bytes, placed_bytes}
use Rattle.index_format.specs.Places.{entries_under}
use Rattle.index_format.specs.Runs.{is_tagged}
use Rattle.index_format.specs.Spread.{AreNumbered, HasTagIfRead}
use Rattle.index_format.specs.Text.{placed_in}
use Rattle.index_format.specs.declared.entry.IndexEntry.{IndexEntry}
use Rattle.index_format.proofs.Fronts.{fronts}
use Rattle.command_given_indexes.specs.Rows.{AreIndexRows}
use Rattle.command_given_indexes.proofs.RowsAmong.{map_cond, none_under, run_is}

-- every entry is under the empty prefix
pub all_under : (es : List (List ℕ)) → entries_under [] es ≡ es
unfolding is_under
all_under [] = refl
all_under (e ∷ es) = ap (λ (l : List (List ℕ)). e ∷ l) (all_under es)

-- the rows of the same entries in another order
pub rows_moved : (prefix : List ℕ) (all es : List (List ℕ)) (rows : List FindRow) → IsPermutation (entries_under prefix all) es
    → AreIndexRows [] es rows → AreIndexRows prefix all rows
rows_moved prefix all es rows moved h = record {
  placed = h.placed;
  moved = IsPermutation-trans _ _ _ moved (subst (λ (l : List (List ℕ)). IsPermutation l h.placed) (all_under es) h.moved);
  by_offset = h.by_offset;
  told = h.told;
  each = h.each;
  by_key = h.by_key;
  stable = h.stable;
}

-- ---- the entries under a prefix are the retirements and the admissions

one_parted : (u a b : Bool) (e : List ℕ) (us first second : List (List ℕ)) → (a || b) ≡ u → (a && b) ≡ false
    → IsPermutation us (first ++ second)
    → IsPermutation (cond u (e ∷ us) us) (cond a (e ∷ first) first ++ cond b (e ∷ second) second)
one_parted false false false e us first second either both h = h
one_parted true true false e us first second either both h = IsPermutation-cons e us (first ++ second) h
one_parted true false true e us first second either both h =
    IsPermutation-trans _ _ _ (IsPermutation-cons e us (first ++ second) h) (IsPermutation-sym _ _ (IsPermutation-middle first e second))
one_parted false true b e us first second either both h = absurd (true≢false either)
one_parted false false true e us first second either both h = absurd (true≢false either)
one_parted true true true e us first second either both h = absurd (true≢false both)
one_parted true false false e us first second either both h = absurd (true≢false (sym either))

-- one of two tags
either_tag : (x y u : Bool) → (x || y) ≡ true → ((x && u) || (y && u)) ≡ u
either_tag true true true h = refl
either_tag true true false h = refl
either_tag true false true h = refl
either_tag true false false h = refl
either_tag false true u h = refl
either_tag false false u h = absurd (true≢false (sym h))

no_tag : (x y u : Bool) → u ≡ false → ((x && u) || (y && u)) ≡ u
no_tag true true true h = refl
no_tag true true false h = refl
no_tag true false true h = refl
no_tag true false false h = refl
no_tag false true u h = refl
no_tag false false u h = sym h

both_tags : (x y u : Bool) (n : ℕ) → eqb n 1 ≡ x → eqb n 2 ≡ y → ((x && u) && (y && u)) ≡ false
both_tags true true u n first second = absurd (omega (arith, eqb-true n 1 first, eqb-true n 2 second))
both_tags true false true n first second = refl
both_tags true false false n first second = refl
both_tags false y u n first second = refl

two_tags : (n : ℕ) (u : Bool) → ((eqb n 1 && u) && (eqb n 2 && u)) ≡ false
two_tags n u = both_tags (eqb n 1) (eqb n 2) u n refl refl

module _ (prefix : List ℕ) (some : 0 < length prefix) (short : length prefix ≤ 24) where
  one_tag : (e : List ℕ) → HasTagIfRead e → (is_tagged 1 prefix e || is_tagged 2 prefix e) ≡ is_under prefix e
  one_tag e (inl none) = no_tag (eqb (get_or e 0 0) 1) (eqb (get_or e 0 0) 2) (is_under prefix e) (ap (is_under prefix) none ∙ none_under prefix some)
  one_tag e (inr tag) = either_tag (eqb (get_or e 0 0) 1) (eqb (get_or e 0 0) 2) (is_under prefix e) tag

  parted : (es : List (List ℕ)) → AllByRecursion HasTagIfRead es
      → IsPermutation (filter (is_under prefix) es) (filter (is_tagged 1 prefix) es ++ filter (is_tagged 2 prefix) es)
  parted [] tags = IsPermutation-refl []
  parted (e ∷ es) tags = one_parted (is_under prefix e) (is_tagged 1 prefix e) (is_tagged 2 prefix e) e _ _ _
      (one_tag e tags.0) (two_tags (get_or e 0 0) (is_under prefix e)) (parted es tags.1)

  -- without their claims
  front_under : (e : List ℕ) → is_under prefix (take 74 e) ≡ is_under prefix e
  unfolding is_under
  front_under e =
      ap (λ (l : List ℕ). bytes_eq prefix (take (length prefix) l)) (drop-take 1 73 e)
      ∙ ap (bytes_eq prefix) (take-take (length prefix) 73 (drop 1 e) (omega (arith, short)))

  fronts_under : (es : List (List ℕ)) → entries_under prefix (placed_in es) ≡ map (take 74) (filter (is_under prefix) es)
  fronts_under [] = refl
  fronts_under (e ∷ es) =
      (λ i. cond (front_under e i) (take 74 e ∷ fronts_under es i) (fronts_under es i))
      ∙ sym (map_cond (take 74) (is_under prefix e) e (filter (is_under prefix) es))

  run_fronts : (tag : ℕ) (es : List (List ℕ)) (numbers : List ℕ) (run : List IndexEntry) → All HasItsFields run
      → AreNumbered (is_tagged tag prefix) es numbers (map entry_bytes run)
      → map (take 74) (filter (is_tagged tag prefix) es) ≡ map placed_bytes run
  run_fronts tag es numbers run fields h =
      ap (map (take 74)) (sym (run_is (is_tagged tag prefix) es numbers (map entry_bytes run) h))
      ∙ sym (fronts run (recursion_from_All HasItsFields run fields))

  -- the rows of both
  pub rows_of_both : (es : List (List ℕ)) (numbers others : List ℕ) (first second all : List IndexEntry) (rows : List FindRow)
      → All HasTagIfRead es → All HasItsFields first → All HasItsFields second
      → AreNumbered (is_tagged 1 prefix) es numbers (map entry_bytes first)
      → AreNumbered (is_tagged 2 prefix) es others (map entry_bytes second) → all ≡ first ++ second
      → AreIndexRows [] (map placed_bytes all) rows → AreIndexRows prefix (placed_in es) rows
  rows_of_both es numbers others first second all rows tags fields more one two are h =
      let parts : List (List ℕ) = filter (is_tagged 1 prefix) es ++ filter (is_tagged 2 prefix) es in
      let same : map (take 74) parts ≡ map placed_bytes all =
      map-append (take 74) (filter (is_tagged 1 prefix) es) (filter (is_tagged 2 prefix) es)
      ∙ (λ i. run_fronts 1 es numbers first fields one i ++ run_fronts 2 es others second more two i)
      ∙ sym (map-append placed_bytes first second) ∙ ap (map placed_bytes) (sym are) in
      rows_moved prefix (placed_in es) (map placed_bytes all) rows
      (subst (λ (l : List (List ℕ)). IsPermutation l (map placed_bytes all)) (sym (fronts_under es))
      (subst (λ (l : List (List ℕ)). IsPermutation (map (take 74) (filter (is_under prefix) es)) l) same
      (IsPermutation-map (take 74) _ _ (parted es (recursion_from_All HasTagIfRead es tags))))) h
