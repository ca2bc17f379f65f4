use Rattle.std.proofs.Common.{◌≡◌, ◌≢◌, ◌∙◌, ℕ, false, cond, List, [], ◌∷◌, ◌++◌, map, refl, sym, ap, subst, arith, Ordering, Less, Equal, Greater, bytes_eq}
use Rattle.std.specs.Ordering.{nat_cmp, ordering_then, ordering_reverse, is_eq}
use Rattle.std.specs.Cmp.Lexicographic.{slice_cmp, nat_list_cmp_total}
use Rattle.std.specs.List.{AllByRecursion, flat_map}
use Rattle.std.specs.List.Sorted.{IsStrictlySortedBy}
use Rattle.std.proofs.lemmas.Bool.{cond_both}
use Rattle.std.proofs.lemmas.Map.Text.{is_eq-slice_cmp}
use Rattle.std.proofs.lemmas.Slice.Eq.{bytes_eq-Decides}
use Rattle.archive_core.specs.Find.{key_in, find_cmp, row_of}
use Rattle.archive_core.specs.Lists.{list_cmp, rows_under}
use Rattle.archive_core.specs.declared.find.FindRow.{FindRow}
use Rattle.archive_core.specs.declared.operations.Operation.{Operation}
use Rattle.archive_index.proofs.Held.{bytes_same}
use Rattle.archive_index.proofs.Listed.{part_of_list}
use Rattle.laws_archive.proofs.content_laws.finds_are_parts.Goals as goal

-- UUIDs that are all above one
abbrev Above : List ℕ → List (List ℕ) → Type 0
Above u vs = AllByRecursion (λ v. slice_cmp nat_cmp u v ≡ Less) vs

-- a UUID in front of others, unless it is the first of them
abbrev put : List ℕ → List (List ℕ) → List (List ℕ)
put u [] = u ∷ []
put u (v ∷ vs) = cond (bytes_eq u v) (v ∷ vs) (u ∷ v ∷ vs)

-- the UUIDs of rows that ascend by them
abbrev uuids_of : List FindRow → List (List ℕ)
uuids_of [] = []
uuids_of (row ∷ rows) = put row.key.uuid (uuids_of rows)

-- rows that ascend by UUID
abbrev Ascend : List FindRow → Type 0
Ascend [] = Unit {0}
Ascend (row ∷ rows) = AllByRecursion (λ other. slice_cmp nat_cmp row.key.uuid other.key.uuid ≢ Greater) rows × Ascend rows

-- what holds of the UUIDs of rows holds of their list, and the other way round
all_put : (P : List ℕ → Type 0) (u : List ℕ) (vs : List (List ℕ)) → P u → AllByRecursion P vs → AllByRecursion P (put u vs)
all_put P u [] p all = (p, tt)
all_put P u (v ∷ vs) p all = cond_both (bytes_eq u v) _ _ (AllByRecursion P) (λ e. all) (λ e. (p, all))

off_put : (P : List ℕ → Type 0) (u : List ℕ) (vs : List (List ℕ)) → AllByRecursion P (put u vs) → P u × AllByRecursion P vs
off_put P u [] all = all
off_put P u (v ∷ vs) all = cond_both (bytes_eq u v) (v ∷ vs) (u ∷ v ∷ vs)
    (λ ws. AllByRecursion P ws → P u × AllByRecursion P (v ∷ vs))
    (λ e h. (subst P (sym ((bytes_eq-Decides u v).0 e)) h.0, h)) (λ e h. h) all

from_rows : (P : List ℕ → Type 0) (rows : List FindRow) → AllByRecursion (λ row. P row.key.uuid) rows → AllByRecursion P (uuids_of rows)
from_rows P [] all = tt
from_rows P (row ∷ rows) all = all_put P row.key.uuid (uuids_of rows) all.0 (from_rows P rows all.1)

to_rows : (P : List ℕ → Type 0) (rows : List FindRow) → AllByRecursion P (uuids_of rows) → AllByRecursion (λ row. P row.key.uuid) rows
to_rows P [] all = tt
to_rows P (row ∷ rows) all = let parts = off_put P row.key.uuid (uuids_of rows) all in (parts.0, to_rows P rows parts.1)

-- they ascend
less_by : (u v : List ℕ) (o : Ordering) → slice_cmp nat_cmp u v ≡ o → o ≢ Greater → bytes_eq u v ≡ false → slice_cmp nat_cmp u v ≡ Less
less_by u v Less e low differ = e
less_by u v Equal e low differ = cc ((bytes_eq-Decides u v).1 (bytes_same u v e))
less_by u v Greater e low differ = absurd (low refl)

all_above : (u v : List ℕ) → slice_cmp nat_cmp u v ≡ Less → (ws : List (List ℕ)) → Above v ws → Above u ws
all_above u v less [] above = tt
all_above u v less (w ∷ ws) above = (nat_list_cmp_total.trans u v w less above.0, all_above u v less ws above.1)

ascending_put : (u : List ℕ) (vs : List (List ℕ)) → AllByRecursion (λ v. slice_cmp nat_cmp u v ≢ Greater) vs
    → IsStrictlySortedBy (slice_cmp nat_cmp) vs → IsStrictlySortedBy (slice_cmp nat_cmp) (put u vs)
unfolding IsStrictlySortedBy
ascending_put u [] low up = (tt, tt)
ascending_put u (v ∷ vs) low up = cond_both (bytes_eq u v) _ _ (IsStrictlySortedBy (slice_cmp nat_cmp)) (λ e. up)
    (λ e. let less = less_by u v (slice_cmp nat_cmp u v) refl low.0 e in ((less, all_above u v less vs up.0), up))

ascending_uuids : (rows : List FindRow) → Ascend rows → IsStrictlySortedBy (slice_cmp nat_cmp) (uuids_of rows)
unfolding IsStrictlySortedBy
ascending_uuids [] up = tt
ascending_uuids (row ∷ rows) up = ascending_put row.key.uuid (uuids_of rows)
    (from_rows (λ v. slice_cmp nat_cmp row.key.uuid v ≢ Greater) rows up.0) (ascending_uuids rows up.1)

-- a UUID differs from those above it
differs : (u v : List ℕ) → slice_cmp nat_cmp u v ≡ Less → bytes_eq u v ≡ false
differs u v e = sym (is_eq-slice_cmp u v) ∙ ap is_eq e

differs_back : (u v : List ℕ) → slice_cmp nat_cmp u v ≡ Less → bytes_eq v u ≡ false
differs_back u v e = sym (is_eq-slice_cmp v u) ∙ ap is_eq (nat_list_cmp_total.antisymm v u ∙ ap ordering_reverse e)

-- a row changes nothing of the rows of UUIDs above its own
passed : (row : FindRow) (rows : List FindRow) (vs : List (List ℕ)) → Above row.key.uuid vs
    → flat_map (λ v. rows_under v (row ∷ rows)) vs ≡ flat_map (λ v. rows_under v rows) vs
passed row rows [] above = refl
passed row rows (v ∷ vs) above = λ i. cond (differs row.key.uuid v above.0 i) (row ∷ rows_under v rows) (rows_under v rows) ++ passed row rows vs above.1 i

none_under : (u : List ℕ) (rows : List FindRow) → AllByRecursion (λ row. slice_cmp nat_cmp u row.key.uuid ≡ Less) rows → rows_under u rows ≡ []
none_under u [] above = refl
none_under u (row ∷ rows) above = ap (λ b. cond b (row ∷ rows_under u rows) (rows_under u rows))
    (differs_back u row.key.uuid above.0) ∙ none_under u rows above.1

own_under : (row : FindRow) (rows : List FindRow) → rows_under row.key.uuid (row ∷ rows) ≡ row ∷ rows_under row.key.uuid rows
own_under row rows = ap (λ b. cond b (row ∷ rows_under row.key.uuid rows) (rows_under row.key.uuid rows)) ((bytes_eq-Decides row.key.uuid row.key.uuid).1 refl)

-- rows that ascend by UUID are the rows of each UUID, one after another
one_more : (row : FindRow) (rows : List FindRow) (vs : List (List ℕ)) → uuids_of rows ≡ vs → flat_map (λ v. rows_under v rows) vs ≡ rows
    → IsStrictlySortedBy (slice_cmp nat_cmp) vs → AllByRecursion (λ v. slice_cmp nat_cmp row.key.uuid v ≢ Greater) vs
    → flat_map (λ v. rows_under v (row ∷ rows)) (put row.key.uuid vs) ≡ row ∷ rows
unfolding IsStrictlySortedBy
one_more row rows [] is whole up low =
    let none : rows_under row.key.uuid rows ≡ [] = sym (ap (rows_under row.key.uuid) whole) in
    ap (λ rs. rs ++ []) (own_under row rows ∙ ap (λ rs. row ∷ rs) none) ∙ ap (λ rs. row ∷ rs) whole
one_more row rows (v ∷ vs) is whole up low = cond_both (bytes_eq row.key.uuid v) _ _ (λ ws. flat_map (λ w. rows_under w (row ∷ rows)) ws ≡ row ∷ rows)
    (λ e.
    let same : row.key.uuid ≡ v = (bytes_eq-Decides row.key.uuid v).0 e in
    let front : rows_under v (row ∷ rows) ≡ row ∷ rows_under v rows =
    subst (λ w. rows_under w (row ∷ rows) ≡ row ∷ rows_under w rows) same (own_under row rows) in
    let rest = passed row rows vs (subst (λ w. Above w vs) (sym same) up.0) in
    (λ i. front i ++ rest i) ∙ ap (λ rs. row ∷ rs) whole)
    (λ e.
    let less = less_by row.key.uuid v (slice_cmp nat_cmp row.key.uuid v) refl low.0 e in
    let above : Above row.key.uuid (v ∷ vs) = (less, all_above row.key.uuid v less vs up.0) in
    let none : rows_under row.key.uuid rows ≡ [] = none_under row.key.uuid rows
    (to_rows (λ w. slice_cmp nat_cmp row.key.uuid w ≡ Less) rows (subst (Above row.key.uuid) (sym is) above)) in
    let front : rows_under row.key.uuid (row ∷ rows) ≡ row ∷ [] = own_under row rows ∙ ap (λ rs. row ∷ rs) none in
    let rest = passed row rows (v ∷ vs) above in
    (λ i. front i ++ rest i) ∙ ap (λ rs. row ∷ rs) whole)

whole_by_uuid : (rows : List FindRow) → Ascend rows → flat_map (λ u. rows_under u rows) (uuids_of rows) ≡ rows
whole_by_uuid [] up = refl
whole_by_uuid (row ∷ rows) up =
    one_more row rows (uuids_of rows) refl (whole_by_uuid rows up.1) (ascending_uuids rows up.1)
    (from_rows (λ v. slice_cmp nat_cmp row.key.uuid v ≢ Greater) rows up.0)

-- the rows of a list ascend by UUID
not_greater : (o p : Ordering) → ordering_then o p ≡ Less → o ≢ Greater
not_greater o p e g = grind arith

ascend_from : (operations : List Operation) → IsStrictlySortedBy list_cmp operations → Ascend (map row_of operations)
unfolding IsStrictlySortedBy
ascend_from [] up = tt
ascend_from (x ∷ xs) up = (each xs up.0, ascend_from xs up.1)
  where
    each : (ys : List Operation) → AllByRecursion (λ y. list_cmp x y ≡ Less) ys
        → AllByRecursion (λ other. slice_cmp nat_cmp (key_in x).uuid other.key.uuid ≢ Greater) (map row_of ys)
    each [] g = tt
    each (y ∷ ys) g = (not_greater (slice_cmp nat_cmp (key_in x).uuid (key_in y).uuid) (find_cmp x y) g.0, each ys g.1)

pub returns : goal.returns
returns c = record {
  part = part_of_list;
  found = λ o uuid rows found list finds. c.one_find.ensures.one o uuid found (rows_under uuid rows) finds (part_of_list o uuid rows list);
  parts = λ o rows list.
      let up : Ascend rows = subst (λ rs. Ascend rs) (sym list.rows_are) (ascend_from list.operations list.ascending) in
      (uuids_of rows, ascending_uuids rows up, sym (whole_by_uuid rows up));
}
