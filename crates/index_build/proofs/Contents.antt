-- The index of a content: that there is one, and what stands in it.
use Rattle.std.proofs.Common.{◌≡◌, ℕ, ◌+◌, ◌<◌, ◌^◌, true, false, ◌||◌, List, [], ◌∷◌, ◌++◌, length, refl, sym, ap, ◌∙◌, arith, length-append, zero, suc}
use Rattle.std.proofs.Common.{cond, take, drop, get_or, subst, inl, inr, append_assoc}
use Rattle.std.specs.Int.{from_be_bytes, to_be_bytes, w64}
use Rattle.std.specs.List.{All, AllZip, concat, list_any, Contains, sum_by}
use Rattle.std.specs.List.Sorted.{IsPermutation}
use Rattle.std.specs.Ordering.{is_eq, match_ordering}
use Rattle.std.specs.declared.cmp.Ordering.TheVariants.{Less, Equal, Greater}
use Rattle.std.proofs.lemmas.List.Sorted.{IsPermutation-cons, IsPermutation-middle, IsPermutation-refl, IsPermutation-trans}
use Rattle.std.proofs.lemmas.List.Sorted.{length_permutation, sum_by-IsPermutation}
use Rattle.std.proofs.lemmas.List.Sums.{sum_by-cons}
use Rattle.join_core.specs.Listing.{ascending_of, put, listing}
use Rattle.table_checked_pages.specs.Pages.{stored, AreStored, digests_size}
use Rattle.archive_core.specs.Key.{key_bytes}
use Rattle.archive_core.specs.Record.{IsRecord, admission, admission_record}
use Rattle.archive_core.specs.Valid.{key_of}
use Rattle.archive_core.proofs.Taken.{tied_is}
use Rattle.archive_records.specs.Text.{InOrder}
use Rattle.archive_records.specs.declared.format.Format.TheVariants.{Archive}
use Rattle.archive_records.proofs.Contents.{order, members_listed}
use Rattle.index_format.specs.Entry.{length_in, offset_in, placed_entry}
use Rattle.index_format.proofs.Placed.{entry_long, length_is, offset_is, entry_front}
use Rattle.index_format.proofs.Sums.{AreApart as AreDistinct, any_ascending_of, is_same, listing_of, nonempty}
use Rattle.index_format.proofs.Fields.{number_kept, claim_read}
use Rattle.index_build.specs.Content.{IsTableOf, claim_of, entries_of, table_entries, table_entry, tables_text, HasByteSlices, HasTable, IsIndexOf}
use Rattle.index_build.specs.Making.{AreNear}
use Rattle.std.specs.Prelude.{Option}
use Rattle.std.proofs.lemmas.Bool.{cases_Bool}
use Rattle.std.proofs.Math.Seq.{drop-cons}
use Rattle.std.proofs.lemmas.List.{drop_at, get_or-append-add, get_or_default, take-append-drop, take-append-le, take_at}
use Rattle.std.proofs.lemmas.List.Concat.{flat_map-append}
use Rattle.std.proofs.lemmas.List.Elements.{All-contains, AllZip-get_or, Contains-get_or}
use Rattle.std.proofs.lemmas.Slice.Zip.{AllZip-long}
use Rattle.table_checked_pages.proofs.PageLemmas.{length-stored, may_be}
use Rattle.table_symbols.specs.Found.{IsSaid}
use Rattle.table_symbols.specs.Steps.{AreBytes}
use Rattle.table_symbols.specs.Table.{IsTableText}
use Rattle.table_symbols.specs.declared.nearest.NearestSymbol.{NearestSymbol}
use Rattle.table_source_frames.specs.SliceTable.{IsSliceTable}
use Rattle.std.specs.FinSet as set
use Rattle.archive_core.specs.Content.{IsContent, Operations, is_admission}
use Rattle.index_format.proofs.Kept.{in_made}
use Rattle.archive_core.specs.Summary.{entry}
use Rattle.index_format.specs.Text.{index_magic}
use Rattle.index_build.specs.Asked.{IsToldBy}
use Rattle.index_format.specs.Entry.{claim_at, claim_bytes, claim_in, no_claim}
use Rattle.index_format.specs.Text.{archive_length, end_of, index_text}

-- ---- records and tables that begin below 2^64

pub near_all : (offset at : ℕ) (rs ts : List (List ℕ)) → offset + length (concat rs) < 2 ^ 64 → at + length (tables_text ts) < 2 ^ 64 → AreNear offset at rs ts
near_all offset at (r ∷ rs) (t ∷ ts) of fits =
    let longer = length-append r (concat rs) in
    let more = length-append (stored t) (tables_text ts) in (
      omega (arith, of, longer),
      omega (arith, fits, more),
      near_all (offset + length r) (at + length (stored t)) rs ts (omega (arith, of, longer))
          (omega (arith, fits, more)),
    )
near_all offset at rs ts of fits = tt

pub near_push : (offset at : ℕ) (rs ts : List (List ℕ)) (r t : List ℕ) → AllZip IsTableOf rs ts
    → AreNear offset at rs ts → offset + length (concat rs) < 2 ^ 64 → at + length (tables_text ts) < 2 ^ 64
    → AreNear offset at (rs ++ r ∷ []) (ts ++ t ∷ [])
near_push offset at [] [] r t each near of fits = (omega (arith, of), omega (arith, fits), tt)
near_push offset at (x ∷ rs) (u ∷ ts) r t each near of fits = (
  near.0,
  near.1,
  near_push (offset + length x) (at + length (stored u)) rs ts r t each.1 near.2
      (omega (arith, of, length-append x (concat rs))) (omega (arith, fits, length-append (stored u) (tables_text ts))),
)
near_push offset at rs ts r t each near of fits = absurd each

-- ---- the places in an entry, by which none comes twice

pub entry_offset : (offset at : ℕ) (r t : List ℕ) → IsRecord r → offset < 2 ^ 64 → offset_in (table_entry offset at r t) ≡ offset
unfolding table_entry
entry_offset offset at r t is near =
    ap (from_be_bytes w64) (number_kept (placed_entry offset r) (claim_of at r t) (entry_long offset r is) 58 (omega arith)) ∙ offset_is offset r is near

pub entry_length : (offset at : ℕ) (r t : List ℕ) → IsRecord r → length_in (table_entry offset at r t) ≡ length r
unfolding table_entry
entry_length offset at r t is =
    ap (from_be_bytes w64) (number_kept (placed_entry offset r) (claim_of at r t) (entry_long offset r is) 66 (omega arith)) ∙ length_is offset r is

others : (x : List ℕ) (k : ℕ) (low : List ℕ) (offset at : ℕ) (rs ts : List (List ℕ)) → offset_in x ≡ k → k < offset
    → InOrder Archive low rs → AreNear offset at rs ts → list_any (is_same x) (table_entries offset at rs ts) ≡ false
others x k low offset at (r ∷ rs) (t ∷ ts) of lt a near =
    let e : List ℕ = table_entry offset at r t in
    elim (is_same x e) as (λ b. is_same x e ≡ b → (b || list_any (is_same x) (table_entries (offset + length r) (at + length (stored t)) rs ts)) ≡ false) [
      | true ↦ λ s. absurd (omega (arith, of, lt, entry_offset offset at r t a.0 near.0, ap offset_in (tied_is x e s)))
      | false ↦ λ _. others x k r (offset + length r) (at + length (stored t)) rs ts of (omega (arith, lt)) a.2 near.2
    ] refl
others x k low offset at rs ts of lt a near = refl

pub apart : (low : List ℕ) (offset at : ℕ) (rs ts : List (List ℕ)) → InOrder Archive low rs → AreNear offset at rs ts
    → AreDistinct (table_entries offset at rs ts)
apart low offset at (r ∷ rs) (t ∷ ts) a near = (
  others (table_entry offset at r t) offset r (offset + length r) (at + length (stored t)) rs ts
      (entry_offset offset at r t a.0 near.0) (omega (arith, nonempty r a.0)) a.2 near.2,
  apart r (offset + length r) (at + length (stored t)) rs ts a.2 near.2,
)
apart low offset at rs ts a near = tt

-- ---- in byte order

-- a key that is not there is put among the others
put_moves : (k : List ℕ) (xs : List (List ℕ)) → list_any (is_same k) xs ≡ false → IsPermutation (k ∷ xs) (put order k xs)
put_moves k [] none = IsPermutation-refl (k ∷ [])
put_moves k (x ∷ xs) none = elim (order k x) as (λ r. order k x ≡ r
    → IsPermutation (k ∷ x ∷ xs) (match_ordering r (k ∷ x ∷ xs) (x ∷ xs) (x ∷ put order k xs))) [
      | Less ↦ λ _. IsPermutation-refl (k ∷ x ∷ xs)
      | Equal ↦ λ e. absurd (cc (none, ap (λ r. is_eq r || list_any (is_same k) xs) e))
      | Greater ↦ λ e.
          let rest : IsPermutation (k ∷ xs) (put order k xs) = put_moves k xs (sym (ap (λ r. is_eq r || list_any (is_same k) xs) e) ∙ none) in
          IsPermutation-trans (k ∷ x ∷ xs) (x ∷ k ∷ xs) (x ∷ put order k xs) (IsPermutation-middle (k ∷ []) x xs)
          (IsPermutation-cons x (k ∷ xs) (put order k xs) rest)
    ] refl

pub moved : (xs : List (List ℕ)) → AreDistinct xs → IsPermutation xs (ascending_of order xs)
moved [] a = IsPermutation-refl []
moved (x ∷ xs) a =
    IsPermutation-trans (x ∷ xs) (x ∷ ascending_of order xs) (put order x (ascending_of order xs))
    (IsPermutation-cons x xs (ascending_of order xs) (moved xs a.1))
    (put_moves x (ascending_of order xs) (any_ascending_of x xs ∙ a.0))

pub length-table_entries : (offset at : ℕ) (rs ts : List (List ℕ)) → AllZip IsTableOf rs ts → length (table_entries offset at rs ts) ≡ length rs
length-table_entries offset at [] ts each = refl
length-table_entries offset at (r ∷ rs) [] each = absurd each
length-table_entries offset at (r ∷ rs) (t ∷ ts) each = omega (arith, length-table_entries (offset + length r) (at + length (stored t)) rs ts each.1)

-- as many entries as records
pub as_many : (rs ts : List (List ℕ)) → InOrder Archive [] rs → AreNear 8 8 rs ts → AllZip IsTableOf rs ts → length (entries_of rs ts) ≡ length rs
unfolding entries_of
as_many rs ts ordered near each =
    let es : List (List ℕ) = table_entries 8 8 rs ts in
    ap length (listing_of es) ∙ length_permutation es (ascending_of order es) (moved es (apart [] 8 8 rs ts ordered near)) ∙ length-table_entries 8 8 rs ts each

-- the lengths in the entries are those of the records
lengths_are : (low : List ℕ) (offset at : ℕ) (rs ts : List (List ℕ)) → InOrder Archive low rs → AllZip IsTableOf rs ts
    → sum_by length_in (table_entries offset at rs ts) ≡ length (concat rs)
lengths_are low offset at [] ts a each = refl
lengths_are low offset at (r ∷ rs) [] a each = absurd each
lengths_are low offset at (r ∷ rs) (t ∷ ts) a each =
    let next : List (List ℕ) = table_entries (offset + length r) (at + length (stored t)) rs ts in
    omega (
      arith,
      sum_by-cons length_in (table_entry offset at r t) next,
      entry_length offset at r t a.0,
      length-append r (concat rs),
      lengths_are r (offset + length r) (at + length (stored t)) rs ts a.2 each.1,
    )

-- the length of the archive, by the entries and by the records
pub archive_long : (rs ts : List (List ℕ)) → InOrder Archive [] rs → AreNear 8 8 rs ts → AllZip IsTableOf rs ts
    → archive_length (entries_of rs ts) ≡ 17 + length (concat rs)
unfolding entries_of
archive_long rs ts ordered near each =
    let es : List (List ℕ) = table_entries 8 8 rs ts in
    let listed : sum_by length_in (listing (set.from_list {R = order} es)) ≡ sum_by length_in (ascending_of order es) =
    ap (λ (xs : List (List ℕ)). sum_by length_in xs) (listing_of es) in
    omega (
      arith,
      listed,
      sum_by-IsPermutation length_in es (ascending_of order es) (moved es (apart [] 8 8 rs ts ordered near)),
      lengths_are [] 8 8 rs ts ordered each,
    )

-- ---- a content has one index

-- a slice has one table
abbrev pub HaveOneTable : Type 0
HaveOneTable = (image bytes others : List ℕ) → IsSliceTable image bytes → IsSliceTable image others → bytes ≡ others

pub same_table : HaveOneTable → (r t u : List ℕ) → IsTableOf r t → IsTableOf r u → t ≡ u
same_table once r t u a b = elim (cases_Bool (is_admission r)) [
  | inl h ↦ once (drop 33 r) t u (a.admitted h) (b.admitted h)
  | inr h ↦ a.retired h ∙ sym (b.retired h)
]

pub same_tables : HaveOneTable → (rs ts us : List (List ℕ)) → AllZip IsTableOf rs ts → AllZip IsTableOf rs us → ts ≡ us
same_tables once [] [] [] a b = refl
same_tables once [] (t ∷ ts) us a b = absurd a
same_tables once (r ∷ rs) [] us a b = absurd a
same_tables once (r ∷ rs) (t ∷ ts) (u ∷ us) a b = cc (same_table once r t u a.0 b.0, same_tables once rs ts us a.1 b.1)
same_tables once rs ts us a b = absurd b

pub one_of_content : HaveOneTable → (o : Operations) (text other : List ℕ) → IsIndexOf o text → IsIndexOf o other → text ≡ other
one_of_content once o text other a b =
    let same = same_tables once (listing o) a.tables b.tables a.each b.each in
    a.text_is ∙ (λ i. index_text (tables_text (same i)) (entries_of (listing o) (same i))) ∙ sym b.text_is

-- ---- the claim of a table

pub claim_admitted : (at : ℕ) (r t : List ℕ) → is_admission r ≡ true → claim_of at r t ≡ claim_at at t
unfolding claim_of
claim_admitted at r t h = ap (λ b. cond b (claim_at at t) no_claim) h

pub claim_retired : (at : ℕ) (r t : List ℕ) → is_admission r ≡ false → claim_of at r t ≡ no_claim
unfolding claim_of
claim_retired at r t h = ap (λ b. cond b (claim_at at t) no_claim) h

pub stored_long : (t : List ℕ) → length (stored t) ≡ digests_size (length t) + length t
stored_long t = length-stored t

-- ---- where a table is stored

-- the entry at a place
pub entry_at : (offset at : ℕ) (rs ts : List (List ℕ)) (i : ℕ) → AllZip IsTableOf rs ts → i < length rs
    → get_or (table_entries offset at rs ts) i [] ≡ table_entry (offset + length (concat (take i rs)))
    (at + length (tables_text (take i ts))) (get_or rs i []) (get_or ts i [])
entry_at offset at [] ts i each lt = absurd (omega (arith, lt))
entry_at offset at (r ∷ rs) [] i each lt = absurd each
entry_at offset at (r ∷ rs) (t ∷ ts) zero each lt =
    let here : offset ≡ offset + 0 = omega arith in
    let there : at ≡ at + 0 = omega arith in
    λ i. table_entry (here i) (there i) r t
entry_at offset at (r ∷ rs) (t ∷ ts) (suc k) each lt =
    let here : offset + length r + length (concat (take k rs)) ≡ offset + length (concat (r ∷ take k rs)) =
    omega (arith, length-append r (concat (take k rs))) in
    let there : at + length (stored t) + length (tables_text (take k ts)) ≡ at + length (tables_text (t ∷ take k ts)) =
    omega (arith, length-append (stored t) (tables_text (take k ts))) in
    entry_at (offset + length r) (at + length (stored t)) rs ts k each.1 (omega (arith, lt))
    ∙ (λ i. table_entry (here i) (there i) (get_or rs k []) (get_or ts k []))

-- a table is stored after those before it
pub stored_among : (before after : List (List ℕ)) (table rest : List ℕ)
    → AreStored (index_magic ++ (tables_text (before ++ table ∷ after) ++ rest))
    (claim_at (8 + length (tables_text before)) table) table
stored_among before after table rest =
    let front : List ℕ = index_magic ++ tables_text before in
    let behind : List ℕ = tables_text after ++ rest in
    let whole : index_magic ++ (tables_text (before ++ table ∷ after) ++ rest) ≡ front ++ (stored table ++ behind) =
    ap (λ (t : List ℕ). index_magic ++ (t ++ rest)) (flat_map-append stored before (table ∷ after))
    ∙ ap (λ (t : List ℕ). index_magic ++ t) (append_assoc (tables_text before) (stored table ++ tables_text after) rest
    ∙ ap (λ (t : List ℕ). tables_text before ++ t) (append_assoc (stored table) (tables_text after) rest))
    ∙ sym (append_assoc index_magic (tables_text before) (stored table ++ behind)) in
    let long : length front ≡ 8 + length (tables_text before) = length-append index_magic (tables_text before) in
    record {
      size = refl;
      root = refl;
      within = omega (arith, ap length whole, long, length-append front (stored table ++ behind), length-append (stored table) behind);
      bytes =
          ap (λ (t : List ℕ). take (length (stored table)) (drop (8 + length (tables_text before)) t)) whole
          ∙ ap (take (length (stored table))) (drop_at front (stored table ++ behind) (8 + length (tables_text before))
          long) ∙ take_at (stored table) behind (length (stored table)) refl;
    }

pub entry_claim : (place at : ℕ) (r table : List ℕ) → IsRecord r → is_admission r ≡ true → at < 2 ^ 64
    → length table < 2 ^ 64 → claim_in (table_entry place at r table) ≡ claim_at at table
unfolding table_entry
entry_claim place at r table is admitted fits small =
    ap (λ c. claim_in (placed_entry place r ++ claim_bytes c)) (claim_admitted at r table admitted)
    ∙ claim_read (placed_entry place r) (claim_at at table) (entry_long place r is) fits small

pub entry_begins : (place at : ℕ) (r table : List ℕ) → IsRecord r → take 57 (table_entry place at r table) ≡ entry r
unfolding table_entry
entry_begins place at r table is =
    take-append-le 57 (placed_entry place r) (claim_bytes (claim_of at r table)) (omega (arith, entry_long place r is)) ∙ entry_front place r is

-- ---- what an entry tells, where the table of a slice is stored

pub told : (text e slice table : List ℕ) (address : ℕ) (found : Option NearestSymbol) → IsTableText slice table
    → AreStored text (claim_in e) table → AreBytes slice → IsToldBy text e address found → IsSaid slice address found
told text e slice table address found is there bytes says = says slice table bytes is (may_be text table (claim_in e) there)

-- ---- the index of a content

module _ (o : Operations) (text : List ℕ) (index : IsIndexOf o text) (i : ℕ) (within : i < length (listing o)) where
  abbrev r : List ℕ
  r = get_or (listing o) i []

  abbrev t : List ℕ
  t = get_or index.tables i []

  abbrev at : ℕ
  at = 8 + length (tables_text (take i index.tables))

  pub is_table : IsTableOf r t
  is_table = AllZip-get_or IsTableOf (listing o) index.tables i [] [] index.each within

  stored_at : AreStored text (claim_at at t) t
  stored_at =
      let ts : List (List ℕ) = index.tables in
      let rest : List ℕ = stored (concat (entries_of (listing o) ts)) ++ end_of (entries_of (listing o) ts) in
      let lt : i < length ts = omega (arith, AllZip-long IsTableOf (listing o) ts index.each, within) in
      let split : ts ≡ take i ts ++ (t ∷ drop (suc i) ts) = sym (take-append-drop i ts) ∙ ap (λ (us : List (List ℕ)). take i ts ++ us) (drop-cons ts i [] lt) in
      subst (λ (x : List ℕ). AreStored x (claim_at at t) t)
      (ap (λ (us : List (List ℕ)). index_magic ++ (tables_text us ++ rest)) (sym split) ∙ sym index.text_is)
      (stored_among (take i ts) (drop (suc i) ts) t rest)

  -- where the entry says
  pub claim_stored : (place : ℕ) → IsRecord r → is_admission r ≡ true → length text < 2 ^ 64 → AreStored text (claim_in (table_entry place at r t)) t
  claim_stored place is admitted short =
      let fits : at < 2 ^ 64 = omega (arith, stored_at.within, short) in
      let small : length t < 2 ^ 64 = omega (arith, stored_at.within, short, stored_long t) in
      subst (λ c. AreStored text c t) (sym (entry_claim place at r t is admitted fits small)) stored_at

  has_table_at : IsContent o → length text < 2 ^ 64 → is_admission r ≡ true → HasTable text (entries_of (listing o) index.tables) r
  unfolding entries_of
  has_table_at content short admitted =
      let es : List (List ℕ) = table_entries 8 8 (listing o) index.tables in
      let place : ℕ = 8 + length (concat (take i (listing o))) in
      let e : List ℕ = table_entry place at r t in
      let is : IsRecord r = content.records r ((members_listed o r).0 (Contains-get_or (listing o) i [] within)) in
      let within_es : i < length es = omega (arith, length-table_entries 8 8 (listing o) index.tables index.each, within) in
      let there : Contains es e = subst (Contains es) (entry_at 8 8 (listing o) index.tables i index.each within) (Contains-get_or es i [] within_es) in
      record {
        e = e;
        among = (members_listed (set.from_list es) e).1 ((in_made es e).0 there);
        entry_is = entry_begins place at r t is;
        table = t;
        is_table = is_table.admitted admitted;
        stored = claim_stored place is admitted short;
      }

pub has_table : (o : Operations) (text : List ℕ) (index : IsIndexOf o text) → IsContent o → length text < 2 ^ 64 → (r : List ℕ) → set.contains o r ≡ true
    → is_admission r ≡ true → HasTable text (entries_of (listing o) index.tables) r
has_table o text index content short r there admitted =
    let c = (members_listed o r).1 there in
    let same : get_or (listing o) c.0 [] ≡ r = get_or_default (listing o) c.0 [] r c.1 ∙ c.2 in
    subst (HasTable text (entries_of (listing o) index.tables)) same (has_table_at o text index c.0 c.1 content short (ap is_admission same ∙ admitted))

-- ---- the slices of a content are bytes, if its records are

end_bytes : (xs ys : List ℕ) → AreBytes (xs ++ ys) → AreBytes ys
end_bytes xs ys bytes i = subst (λ (n : ℕ). n < 256) (get_or-append-add xs ys i 0) (bytes (length xs + i))

pub slices_are_bytes : (o : Operations) → All AreBytes (listing o) → HasByteSlices o
unfolding admission
slices_are_bytes o bytes slice has =
    let whole : AreBytes (admission_record slice) =
    All-contains AreBytes (listing o) (admission_record slice) bytes ((members_listed o (admission_record slice)).1 has) in
    let body : AreBytes (admission slice) = end_bytes (2 ∷ []) (admission slice) whole in
    let rest : AreBytes (to_be_bytes w64 (length slice) ++ slice) =
    end_bytes (key_bytes (key_of slice)) (to_be_bytes w64 (length slice) ++ slice) body in
    end_bytes (to_be_bytes w64 (length slice)) slice rest
