-- The entries of the index of a content, without their claims.
use Rattle.std.proofs.Common.{◌≡◌, ℕ, ◌+◌, List, [], ◌∷◌, ◌++◌, length, map, take, refl, sym, ap, ◌∙◌, subst}
use Rattle.std.specs.Prelude.{Contains}
use Rattle.std.specs.List.{AllByRecursion, AllZip}
use Rattle.std.specs.Cmp.{both_ways}
use Rattle.std.specs.Cmp.Lexicographic.{nat_list_cmp_total}
use Rattle.std.specs.FinSet as set
use Rattle.std.specs.FinSet.{same_set}
use Rattle.std.proofs.Math.Seq.{take-append_seam}
use Rattle.join_core.specs.Listing.{listing}
use Rattle.join_core.proofs.Listing.{any_listing}
use Rattle.table_checked_pages.specs.Pages.{stored}
use Rattle.archive_core.specs.Content.{IsContent, Operations}
use Rattle.archive_core.specs.Record.{IsRecord}
use Rattle.archive_core.proofs.Members.{in_map, in_order, to_map}
use Rattle.archive_core.proofs.Made.{bytes_same}
use Rattle.archive_records.proofs.Contents.{along, order}
use Rattle.index_format.specs.Entry.{claim_bytes, placed_entry}
use Rattle.index_format.specs.Index.{index, placed_entries}
use Rattle.index_format.specs.Text.{placed_of}
use Rattle.index_format.proofs.Kept.{in_made}
use Rattle.index_format.proofs.Placed.{entry_long}
use Rattle.index_build.specs.Content.{IsTableOf, claim_of, entries_of, table_entries, table_entry}

front_is : (offset at : ℕ) (r t : List ℕ) → IsRecord r → take 74 (table_entry offset at r t) ≡ placed_entry offset r
unfolding table_entry
front_is offset at r t is =
    ap (λ (n : ℕ). take n (placed_entry offset r ++ claim_bytes (claim_of at r t))) (sym (entry_long offset r is))
    ∙ take-append_seam (placed_entry offset r) (claim_bytes (claim_of at r t))

fronts_are : (offset at : ℕ) (rs ts : List (List ℕ)) → AllZip IsTableOf rs ts → AllByRecursion IsRecord rs
    → map (take 74) (table_entries offset at rs ts) ≡ placed_entries offset rs
fronts_are offset at [] ts each all = refl
fronts_are offset at (r ∷ rs) [] each all = absurd each
fronts_are offset at (r ∷ rs) (t ∷ ts) each all = λ i. front_is offset at r t all.0 i
    ∷ fronts_are (offset + length r) (at + length (stored t)) rs ts each.1 all.1 i

placed_same : (es placed : List (List ℕ)) → map (take 74) es ≡ placed
    → set.from_list {R = order} (map (take 74) (listing (set.from_list {R = order} es)))
    ≡ set.from_list {R = order} placed
placed_same es placed same =
    let sorted : List (List ℕ) = listing (set.from_list {R = order} es) in
    same_set nat_list_cmp_total bytes_same (set.from_list (map (take 74) sorted)) (set.from_list placed) (λ q. both_ways _ _
    (λ h.
    let m = in_map (take 74) sorted q ((in_made (map (take 74) sorted) q).1 h) in
    let there : Contains (map (take 74) es) (take 74 m.0) = to_map (take 74) es m.0 ((in_order nat_list_cmp_total bytes_same es m.0).0 m.1) in
    (in_made placed q).0 (subst (λ (ys : List (List ℕ)). Contains ys q) same (subst (Contains (map (take 74) es)) (sym m.2) there)))
    (λ h.
    let m = in_map (take 74) es q (subst (λ (ys : List (List ℕ)). Contains ys q) (sym same) ((in_made placed q).1 h)) in
    let there : Contains (map (take 74) sorted) (take 74 m.0) = to_map (take 74) sorted m.0 ((in_order nat_list_cmp_total bytes_same es m.0).1 m.1) in
    (in_made (map (take 74) sorted) q).0 (subst (Contains (map (take 74) sorted)) (sym m.2) there)))

records_of : (o : Operations) → IsContent o → AllByRecursion IsRecord (listing o)
records_of o content = along IsRecord (listing o) (λ r h. content.records r (sym (any_listing nat_list_cmp_total o r) ∙ h))

pub placed_index : (o : Operations) (tables : List (List ℕ)) → IsContent o → AllZip IsTableOf (listing o) tables
    → placed_of (entries_of (listing o) tables) ≡ index o
unfolding entries_of index
placed_index o tables content each =
    placed_same (table_entries 8 8 (listing o) tables) (placed_entries 8 (listing o)) (fronts_are 8 8 (listing o) tables each (records_of o content))
