-- Entries in byte order, and their bytes.
use Rattle.std.proofs.Common.{◌≡◌, ℕ, ◌+◌, ◌<◌, List, [], ◌∷◌, ◌++◌, length, map, get_or, take, sym, ap, ◌∙◌, refl, subst, append_assoc}
use Rattle.std.specs.Int.{w64, to_be_bytes}
use Rattle.std.specs.Ordering.{eq_by_cmp, is_lt}
use Rattle.std.specs.Cmp.{on_total}
use Rattle.std.specs.Cmp.Lexicographic.{nat_list_cmp_total}
use Rattle.std.specs.List.{concat, dedup}
use Rattle.std.specs.List.Sorted.{IsPermutation, IsSortedBy, IsStrictlySortedBy}
use Rattle.std.specs.FinSet as set
use Rattle.std.proofs.lemmas.List.{get_or-map, take_more}
use Rattle.std.proofs.lemmas.List.Kept.{IsStrictlySortedBy-dedup}
use Rattle.join_core.specs.Listing.{listing}
use Rattle.join_core.proofs.Listing.{listing_ascending}
use Rattle.archive_core.proofs.Members.{ascending_map}
use Rattle.archive_core.proofs.Made.{bytes_same}
use Rattle.archive_records.proofs.Contents.{order}
use Rattle.archive_records.proofs.Puts.{concat-push}
use Rattle.table_checked_pages.specs.Pages.{root_of, stored}
use Rattle.archive_records.specs.Text.{end_record}
use Rattle.index_format.proofs.Kept.{set_kept}
use Rattle.index_format.specs.Entry.{entry_bytes}
use Rattle.index_format.specs.Text.{archive_length, end_of, retired_in}
use Rattle.index_format.specs.declared.entry.IndexEntry.{IndexEntry}

-- what sorting and dropping repeats leaves is the listing
pub listing_kept : {E : Type 0} (bytes_of : E → List ℕ) (gathered moved kept : List E) → IsPermutation gathered moved
    → kept ≡ dedup (λ x y. eq_by_cmp order (bytes_of x) (bytes_of y)) moved
    → IsSortedBy (λ x y. is_lt (order (bytes_of x) (bytes_of y))) moved
    → map bytes_of kept ≡ listing (set.from_list {R = order} (map bytes_of gathered))
listing_kept bytes_of gathered moved kept permuted once sorted =
    let strictly : IsStrictlySortedBy (λ x y. order (bytes_of x) (bytes_of y)) kept =
    subst (IsStrictlySortedBy (λ x y. order (bytes_of x) (bytes_of y))) (sym once)
    (IsStrictlySortedBy-dedup (on_total bytes_of nat_list_cmp_total) (λ x y. refl) moved sorted) in
    sym (ap listing (sym (set_kept bytes_of gathered moved kept permuted once))
    ∙ listing_ascending nat_list_cmp_total bytes_same (map bytes_of kept)
    (ascending_map order bytes_of kept strictly))

-- the bytes of an entry among those of all
pub bytes_at : (entries : List IndexEntry) (i : ℕ) (e : IndexEntry) (bytes : List ℕ) → i < length entries → e
    ≡ get_or entries i e → bytes ≡ entry_bytes e → bytes ≡ get_or (map entry_bytes entries) i []
bytes_at entries i e bytes lt at of = of ∙ ap entry_bytes at ∙ sym (get_or-map entry_bytes entries i e [] lt)

-- the bytes of one entry more
pub concat_next : (xs : List (List ℕ)) (i : ℕ) (item : List ℕ) → i < length xs → item ≡ get_or xs i [] → concat (take i xs) ++ item ≡ concat (take (i + 1) xs)
concat_next xs i item lt is = sym (ap concat (take_more xs i [] lt) ∙ concat-push (take i xs) (get_or xs i [])
    ∙ ap (λ (t : List ℕ). concat (take i xs) ++ t) (sym is))

-- the end record after the stored entries, part by part
parts_joined : (all count retired long root : List ℕ)
    → (((all ++ (3 ∷ count)) ++ retired) ++ long) ++ root ≡ all ++ (3 ∷ (count ++ (retired ++ (long ++ root))))
parts_joined all count retired long root =
    append_assoc ((all ++ (3 ∷ count)) ++ retired) long root ∙ append_assoc (all ++ (3 ∷ count)) retired (long ++ root)
    ∙ append_assoc all (3 ∷ count) (retired ++ (long ++ root))

pub ended : (es : List (List ℕ)) (made head numbers long root first second third last : List ℕ)
    → made ≡ stored (concat es) → root ≡ root_of (concat es) → head ≡ end_record (length es)
    → numbers ≡ to_be_bytes w64 (retired_in es) → long ≡ to_be_bytes w64 (archive_length es) → first ≡ made ++ head
    → second ≡ first ++ numbers → third ≡ second ++ long → last ≡ third ++ root → last ≡ stored (concat es) ++ end_of es
unfolding end_of end_record
ended es made head numbers long root first second third last m r h n l a b c d =
    d ∙ ap (λ (t : List ℕ). t ++ root) (c ∙ ap (λ (t : List ℕ). t ++ long) (b ∙ ap (λ (t : List ℕ). t ++ numbers) a))
    ∙ (λ i. (((m i ++ h i) ++ n i) ++ l i) ++ r i)
    ∙ parts_joined (stored (concat es)) (to_be_bytes w64 (length es)) (to_be_bytes w64 (retired_in es))
    (to_be_bytes w64 (archive_length es)) (root_of (concat es))
