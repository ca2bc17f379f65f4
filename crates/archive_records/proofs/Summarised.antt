-- The entries that a summary keeps.
use Rattle.std.proofs.Common.{◌≡◌, ℕ, ◌+◌, ◌<◌, Bool, true, false, cond, ◌||◌, List, [], ◌∷◌, ◌++◌, length, map, take}
use Rattle.std.proofs.Common.{get_or, refl, sym, ap, ◌∙◌, subst, inl, inr, ◌⊎◌, Result, Ok, Err, arith}
use Rattle.std.specs.Ordering.{eq_by_cmp, is_lt}
use Rattle.std.specs.declared.cmp.Ordering.TheVariants.{Less}
use Rattle.std.specs.Cmp.{on_total}
use Rattle.std.specs.Cmp.Lexicographic.{nat_list_cmp_total}
use Rattle.std.specs.List.{AllByRecursion, list_any, dedup, dedup_from}
use Rattle.std.specs.List.Sorted.{IsPermutation, IsSortedBy, IsStrictlySortedBy}
use Rattle.std.specs.FinSet as set
use Rattle.std.specs.FinSet.{contains-from_list, same_set}
use Rattle.std.proofs.lemmas.List.{map-append, take_more, get_or-map}
use Rattle.std.proofs.lemmas.List.Kept.{IsStrictlySortedBy-dedup}
use Rattle.std.proofs.lemmas.List.Sorted.{IsPermutation-map, list_any-IsPermutation}
use Rattle.std.specs.Prelude.{Result, Ok, Err, is_ok, map}
use Rattle.join_core.specs.Listing.{listing}
use Rattle.join_core.specs.InnerSearch.{IsFound}
use Rattle.archive_core.specs.Record.{IsRecord}
use Rattle.archive_core.specs.Content.{Operations, IsContent}
use Rattle.archive_core.specs.Summary.{entry, summary}
use Rattle.archive_core.proofs.Entries.{admission_entry, retirement_entry, length-entry}
use Rattle.archive_core.proofs.Summaries.{member_of_entry}
use Rattle.archive_core.proofs.Made.{bytes_same}
use Rattle.archive_records.specs.declared.entry.Entry.{Entry}
use Rattle.archive_records.specs.Entry.{entry_bytes, IsEntry, AreEntries}
use Rattle.archive_records.specs.declared.format.Format.TheVariants.{Archive, Summary}
use Rattle.archive_records.specs.Text.{InOrder}
use Rattle.archive_records.specs.Reader.{AreListed}
use Rattle.archive_records.proofs.Contents.{order, along, each, items_of, same_bytes, sorted-entries, InOrder-listing}

-- the entry of a record
tag_of : (r : List ℕ) → IsRecord r → (get_or (entry r) 0 0 ≡ 1) ⊎ (get_or (entry r) 0 0 ≡ 2)
tag_of r (inl a) = inr (ap (λ (x : List ℕ). get_or (entry x) 0 0) a.is ∙ ap (λ (x : List ℕ). get_or x 0 0) (admission_entry a.slice a.valid))
tag_of r (inr t) = inl (ap (λ (x : List ℕ). get_or (entry x) 0 0) t.is ∙ ap (λ (x : List ℕ). get_or x 0 0) (retirement_entry t.key t.digest))

pub is_entry : (r : List ℕ) → IsRecord r → IsEntry (entry r)
is_entry r is = record { tag = tag_of r is; long = length-entry r is }

-- the summary of a content has entries alone
pub AreEntries-summary : (o : Operations) → IsContent o → AreEntries (summary o)
AreEntries-summary o content e h =
    let found : (r : List ℕ) × (set.contains o r ≡ true) × (entry r ≡ e) = member_of_entry o e h in
    subst IsEntry found.2 (is_entry found.0 (content.records found.0 found.1))

-- what is listed has entries alone
pub AreEntries-listed : (xs : List (List ℕ)) → AllByRecursion IsEntry xs → AreEntries (set.from_list xs)
AreEntries-listed xs all q h = each IsEntry xs q all (sym (contains-from_list nat_list_cmp_total xs q) ∙ h)

-- what a search says of the set
pub found_is : (xs : List (List ℕ)) (q : List ℕ) (r : Result ℕ ℕ) → IsFound order xs q r → is_ok r ≡ set.contains (set.from_list {R = order} xs) q
found_is xs q (Ok i) found = sym found.present
found_is xs q (Err i) found = sym found.absent.absent

-- the entry of one record more
pub entries_more : (before after : List Entry) (e : Entry) (records : List (List ℕ)) (r : List ℕ) → after ≡ before ++ e
    ∷ [] → entry_bytes e ≡ entry r → map entry_bytes before ≡ map entry records → map entry_bytes after
    ≡ map entry (records ++ r ∷ [])
entries_more before after e records r grown of are =
    ap (map entry_bytes) grown ∙ map-append entry_bytes before (e ∷ []) ∙ (λ i. are i ++ of i ∷ []) ∙ sym (map-append entry records (r ∷ []))

pub one_more : (records : List (List ℕ)) (i : ℕ) (r : List ℕ) → i < length records → r ≡ get_or records i []
    → (before after : List Entry) (e : Entry) → after ≡ before ++ e ∷ [] → entry_bytes e ≡ entry r
    → map entry_bytes before ≡ map entry (take i records) → map entry_bytes after ≡ map entry (take (i + 1) records)
one_more records i r lt at before after e grown of are =
    entries_more before after e (take i records) r grown of are
    ∙ ap (map entry) (sym (take_more records i [] lt ∙ ap (λ (x : List ℕ). take i records ++ x ∷ []) (sym at)))

-- the bytes of an entry among those of all
pub bytes_at : (entries : List Entry) (i : ℕ) (e : Entry) (bytes : List ℕ) → i < length entries → e ≡ get_or entries i e
    → bytes ≡ entry_bytes e → bytes ≡ get_or (map entry_bytes entries) i []
bytes_at entries i e bytes lt at of = of ∙ ap entry_bytes at ∙ sym (get_or-map entry_bytes entries i e [] lt)

-- ---- sorted, and each once

abbrev tie : Entry → Entry → Bool
tie x y = eq_by_cmp order (entry_bytes x) (entry_bytes y)

twice : (a c : Bool) → (a || (a || c)) ≡ (a || c)
twice a c = grind arith

any_dedup_from : (p : List ℕ → Bool) (k : Entry) (xs : List Entry) → list_any p (map entry_bytes (dedup_from tie k xs))
    ≡ (p (entry_bytes k) || list_any p (map entry_bytes xs))
any_dedup_from p k [] = refl
any_dedup_from p k (x ∷ xs) =
    elim (tie x k) as (λ b. tie x k ≡ b → list_any p (map entry_bytes
    (cond b (dedup_from tie k xs) (k ∷ dedup_from tie x xs)))
    ≡ (p (entry_bytes k) || (p (entry_bytes x) || list_any p (map entry_bytes xs)))) [
      | true ↦ λ e.
          any_dedup_from p k xs ∙ sym (twice (p (entry_bytes k)) (list_any p (map entry_bytes xs)))
          ∙ ap (λ (t : List ℕ). p (entry_bytes k) || (p t || list_any p (map entry_bytes xs))) (sym (same_bytes (entry_bytes x) (entry_bytes k) e))
      | false ↦ λ _. ap (λ b. p (entry_bytes k) || b) (any_dedup_from p x xs)
    ] refl

any_dedup : (p : List ℕ → Bool) (xs : List Entry) → list_any p (map entry_bytes (dedup tie xs)) ≡ list_any p (map entry_bytes xs)
any_dedup p [] = refl
any_dedup p (x ∷ xs) = any_dedup_from p x xs

below_each : (x : Entry) (xs : List Entry) → AllByRecursion (λ y. order (entry_bytes x) (entry_bytes y) ≡ Less) xs
    → AllByRecursion (λ b. order (entry_bytes x) b ≡ Less) (map entry_bytes xs)
below_each x [] h = tt
below_each x (y ∷ ys) h = (h.0, below_each x ys h.1)

sorted_bytes : (xs : List Entry) → IsStrictlySortedBy (λ x y. order (entry_bytes x) (entry_bytes y)) xs → IsStrictlySortedBy order (map entry_bytes xs)
unfolding IsStrictlySortedBy
sorted_bytes [] h = tt
sorted_bytes (x ∷ xs) h = (below_each x xs h.0, sorted_bytes xs h.1)

-- what sorting and dropping repeats leaves
module _ (gathered moved kept : List Entry) (permuted : IsPermutation gathered moved) (once : kept ≡ dedup tie moved) where
  any_kept : (p : List ℕ → Bool) → list_any p (map entry_bytes kept) ≡ list_any p (map entry_bytes gathered)
  any_kept p =
      ap (λ (xs : List Entry). list_any p (map entry_bytes xs)) once ∙ any_dedup p moved
      ∙ sym (list_any-IsPermutation p (map entry_bytes gathered) (map entry_bytes moved) (IsPermutation-map entry_bytes gathered moved permuted))

  pub set_kept : set.from_list {R = order} (map entry_bytes kept) ≡ set.from_list (map entry_bytes gathered)
  set_kept = same_set nat_list_cmp_total bytes_same (set.from_list (map entry_bytes kept)) (set.from_list (map entry_bytes gathered)) (λ q.
      contains-from_list nat_list_cmp_total (map entry_bytes kept) q ∙ any_kept (eq_by_cmp order q)
      ∙ sym (contains-from_list nat_list_cmp_total (map entry_bytes gathered) q))

  pub listed_kept : AllByRecursion IsEntry (map entry_bytes gathered)
      → IsSortedBy (λ x y. is_lt (order (entry_bytes x) (entry_bytes y))) moved → AreListed (map entry_bytes kept)
  listed_kept all sorted = record {
    ascending = sorted_bytes kept (subst (IsStrictlySortedBy (λ x y. order (entry_bytes x) (entry_bytes y))) (sym once)
        (IsStrictlySortedBy-dedup (on_total entry_bytes nat_list_cmp_total) (λ x y. refl) moved sorted));
    are = along IsEntry (map entry_bytes kept) (λ q e. AreEntries-listed (map entry_bytes gathered) all q
        (contains-from_list nat_list_cmp_total (map entry_bytes gathered) q ∙ sym (any_kept (eq_by_cmp order q)) ∙ e));
  }

-- entries that ascend may be kept
pub AreListed-ordered : (xs : List (List ℕ)) → InOrder Summary [] xs → AreListed xs
AreListed-ordered xs a = record { ascending = (sorted-entries [] xs a).1; are = items_of Summary [] xs a }

-- ---- the entries of a content

ordered_entries : (low : List ℕ) (rs : List (List ℕ)) → InOrder Archive low rs → AllByRecursion IsEntry (map entry rs)
ordered_entries low [] a = tt
ordered_entries low (r ∷ rs) a = (is_entry r a.0, ordered_entries r rs a.2)

pub entries_of_content : (o : Operations) (entries : List Entry) → IsContent o → map entry_bytes entries
    ≡ map entry (listing o) → AllByRecursion IsEntry (map entry_bytes entries)
entries_of_content o entries content are = subst (AllByRecursion IsEntry) (sym are) (ordered_entries [] (listing o) (InOrder-listing o content))

pub summary_of_entries : (o : Operations) (entries : List Entry) → map entry_bytes entries ≡ map entry (listing o)
    → set.from_list (map entry_bytes entries) ≡ summary o
unfolding summary
summary_of_entries o entries are = ap set.from_list are

-- one entry more
pub named_more : (xs grown : List Entry) (e : Entry) (records : List (List ℕ)) (bytes : List ℕ) → grown ≡ xs ++ e ∷ []
    → entry_bytes e ≡ bytes → map entry_bytes xs ≡ records → map entry_bytes grown ≡ records ++ bytes ∷ []
named_more xs grown e records bytes more is l = ap (map entry_bytes) more ∙ map-append entry_bytes xs (e ∷ [])
    ∙ ap (λ (t : List ℕ). map entry_bytes xs ++ t ∷ []) is ∙ ap (λ (rs : List (List ℕ)). rs ++ bytes ∷ []) l
