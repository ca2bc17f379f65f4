-- The index of a content is read as one, and what is read over any bytes is of the content that it was made of.
use Rattle.std.proofs.Common.{◌≡◌, ℕ, ◌+◌, ◌<◌, ◌≤◌, ◌^◌, true, cond, ◌||◌, ◌&&◌, eqb, List, [], ◌∷◌, ◌++◌, length, drop, get_or, refl, sym, ap, ◌∙◌, subst}
use Rattle.std.proofs.Common.{inl, inr, arith, length-append, nat_le}
use Rattle.std.specs.Prelude.{Ok, Option}
use Rattle.std.specs.Int.{w64, from_be_bytes}
use Rattle.std.specs.List.{AllByRecursion, AllZip, concat, list_any}
use Rattle.std.specs.List.Sorted.{IsPermutation, IsStrictlySortedBy}
use Rattle.std.specs.Ordering.{is_lt, nat_cmp}
use Rattle.std.specs.declared.cmp.Ordering.TheVariants.{Less}
use Rattle.std.specs.Cmp.Lexicographic.{nat_list_cmp_total, slice_cmp}
use Rattle.std.specs.FinSet as set
use Rattle.std.specs.Str.{bytes_eq}
use Rattle.std.proofs.lemmas.Bool.{cases_Bool, le-leb}
use Rattle.std.proofs.lemmas.List.{drop_at}
use Rattle.std.proofs.lemmas.List.Elements.{All-contains, All-from_recursion}
use Rattle.std.proofs.lemmas.List.Sorted.{IsPermutation-sym}
use Rattle.std.proofs.lemmas.Slice.Eq.{bytes_eq-Decides}
use Rattle.sha2.proofs.Facts256.{length-sha256}
use Rattle.join_core.specs.Listing.{ascending_of, listing}
use Rattle.join_core.proofs.Listing.{listed}
use Rattle.table_checked_pages.specs.Pages.{DigestsDecidePages, height, level_of, root_of, stored}
use Rattle.index_format.specs.Entry.{zeros, claim_at, claim_bytes, claim_in, has_claim, no_claim, stored_size}
use Rattle.archive_core.specs.Content.{IsContent, Operations, is_admission}
use Rattle.archive_core.specs.Record.{IsRecord}
use Rattle.archive_core.proofs.Made.{bytes_same}
use Rattle.archive_records.specs.Layout.{largest_slice}
use Rattle.archive_records.specs.Text.{InOrder, written}
use Rattle.archive_records.specs.declared.format.Format.TheVariants.{Archive}
use Rattle.archive_records.proofs.Contents.{InOrder-listing, along, containing, order}
use Rattle.index_format.specs.Text.{index_magic}
use Rattle.index_format.specs.Entry.{has_kind, has_length, has_tag, length_in, placed_entry}
use Rattle.index_format.proofs.Placed.{entry_long, is_placed, tag_is}
use Rattle.index_format.proofs.Sums.{AreApart as AreDistinct, any_ascending_of, is_same, listing_of, nonempty, text_length}
use Rattle.index_build.specs.Content.{IsIndexOf, IsTableOf, claim_of, entries_of, table_entries, table_entry, tables_text, EndAlike, HasTable}
use Rattle.index_format.specs.Text.{FollowOn, IsIndexText, PassChecks, check_entry, end_of, entries_claim}
use Rattle.index_format.proofs.Fields.{byte_kept, claim_read, long_with, number_kept}
use Rattle.index_format.proofs.Checks.{long_entries}
use Rattle.index_build.proofs.Contents.{apart, archive_long, claim_admitted, claim_retired, entry_length, entry_offset, moved, near_all, stored_long}
use Rattle.index_build.specs.Making.{AreNear}
use Rattle.index_format.proofs.Ascending.{along_list}
use Rattle.table_symbols.specs.Found.{IsSaid}
use Rattle.table_symbols.specs.Steps.{AreBytes}
use Rattle.table_symbols.specs.declared.nearest.NearestSymbol.{NearestSymbol}
use Rattle.table_source_frames.proofs.SliceTables.{table_of_symbols}
use Rattle.archive_core.proofs.Records.{same_parts}
use Rattle.index_build.specs.Asked.{IsToldBy}
use Rattle.index_format.proofs.IndexTexts.{after_length, front_passed, last_is}
use Rattle.index_format.proofs.Faults.{digest_there}
use Rattle.index_format.proofs.MayHave.{may_alike, may_have}
use Rattle.index_format.specs.Paged.{only}
use Rattle.index_format.specs.Tree.{AreReadUnder, is_under_one}

-- ---- the claim of a table

no_root : length (zeros 32) ≡ 32
unfolding zeros
no_root = refl

root_long : (at : ℕ) (r t : List ℕ) → length (claim_of at r t).root ≡ 32
root_long at r t = elim (cases_Bool (is_admission r)) [
  | inl h ↦ ap (λ c. length c.root) (claim_admitted at r t h) ∙ length-sha256 (level_of (height (length t)) t)
  | inr h ↦ ap (λ c. length c.root) (claim_retired at r t h) ∙ no_root
]

-- as many bytes are stored as the claim says
claimed : (at : ℕ) (r t : List ℕ) → IsTableOf r t → stored_size (claim_of at r t) ≡ length (stored t)
claimed at r t is = elim (cases_Bool (is_admission r)) [
  | inl h ↦ ap stored_size (claim_admitted at r t h) ∙ sym (stored_long t)
  | inr h ↦ ap stored_size (claim_retired at r t h) ∙ sym (stored_long []) ∙ ap (λ (u : List ℕ). length (stored u)) (sym (is.retired h))
]

claim_fits : (at : ℕ) (r t : List ℕ) → at + length (stored t) < 2 ^ 64 → ((claim_of at r t).offset < 2 ^ 64) × ((claim_of at r t).size < 2 ^ 64)
claim_fits at r t fits = elim (cases_Bool (is_admission r)) [
  | inl h ↦ (
    let e : (claim_of at r t).offset ≡ at = ap (λ c. c.offset) (claim_admitted at r t h) in omega (arith, e, fits),
    let e : (claim_of at r t).size ≡ length t = ap (λ c. c.size) (claim_admitted at r t h) in omega (arith, e, fits, stored_long t),
  )
  | inr h ↦ (
    let e : (claim_of at r t).offset ≡ 0 = ap (λ c. c.offset) (claim_retired at r t h) in omega (arith, e),
    let e : (claim_of at r t).size ≡ 0 = ap (λ c. c.size) (claim_retired at r t h) in omega (arith, e),
  )
]

-- ---- the entry of a record passes its tests

zero_claim : claim_bytes no_claim ≡ zeros 48
unfolding claim_bytes zeros
zero_claim = refl

-- what an entry has that passes each test but that of the order
pub record IsSound (end : ℕ) (e : List ℕ) : Type 0 where
  pub long : length e ≡ 122
  pub tag : has_tag e ≡ true
  pub kind : has_kind e ≡ true
  pub length_is : has_length e ≡ true
  pub claim : has_claim end e ≡ true

module _ (offset at end : ℕ) (r t : List ℕ) (is : IsRecord r) (table : IsTableOf r t) (offset_fits : offset < 2 ^ 64)
    (fits : at + length (stored t) < 2 ^ 64) (within : at + length (stored t) ≤ end) where
  abbrev e : List ℕ
  e = placed_entry offset r ++ claim_bytes (claim_of at r t)

  front : length (placed_entry offset r) ≡ 74
  front = entry_long offset r is

  tag_kept : get_or e 0 0 ≡ get_or (placed_entry offset r) 0 0
  tag_kept = byte_kept (placed_entry offset r) (claim_of at r t) front 0 (omega arith)

  pub admission_there : is_admission e ≡ is_admission r
  admission_there = ap (λ (n : ℕ). eqb n 2) (tag_kept ∙ tag_is offset r is)

  pub claim_there : claim_in e ≡ claim_of at r t
  claim_there = let f = claim_fits at r t fits in claim_read (placed_entry offset r) (claim_of at r t) front f.0 f.1

  claim_passes : has_claim end e ≡ true
  claim_passes = elim (cases_Bool (is_admission r)) [
    | inl h ↦
        let c = claim_there ∙ claim_admitted at r t h in
        let room : at + stored_size (claim_at at t) ≤ end = omega (arith, within, stored_long t) in
        ap (λ b. cond b (nat_le ((claim_in e).offset + stored_size (claim_in e)) end) (bytes_eq (drop 74 e) (zeros 48))) (admission_there ∙ h)
        ∙ ap (λ d. nat_le (d.offset + stored_size d) end) c ∙ le-leb (at + stored_size (claim_at at t)) end room
    | inr h ↦
        let bytes : drop 74 e ≡ zeros 48 = drop_at (placed_entry offset r) (claim_bytes (claim_of at r t)) 74 front
        ∙ ap claim_bytes (claim_retired at r t h) ∙ zero_claim in
        ap (λ b. cond b (nat_le ((claim_in e).offset + stored_size (claim_in e)) end) (bytes_eq (drop 74 e) (zeros 48))) (admission_there ∙ h)
        ∙ (bytes_eq-Decides (drop 74 e) (zeros 48)).1 bytes
  ]

  sound_entry : IsSound end (table_entry offset at r t)
  unfolding table_entry
  sound_entry =
      let placed = is_placed offset r is in
      let kind_kept = byte_kept (placed_entry offset r) (claim_of at r t) front 57 (omega arith) in
      let length_kept = number_kept (placed_entry offset r) (claim_of at r t) front 66 (omega arith) in
      record {
        long = long_with (placed_entry offset r) (claim_of at r t) front (root_long at r t);
        tag = ap (λ (n : ℕ). eqb n 1 || eqb n 2) tag_kept ∙ placed.tag;
        kind = (λ i. eqb (kind_kept i) 0 || (eqb (kind_kept i) 1 && eqb (tag_kept i) 2)) ∙ placed.kind;
        length_is =
            (λ i. let n : ℕ = from_be_bytes w64 (length_kept i) in cond (eqb (tag_kept i) 2) (nat_le 33 n && nat_le n (33 + largest_slice)) (eqb n 57))
            ∙ placed.length_is;
        claim = claim_passes;
      }

sound_passes : (end : ℕ) (last e : List ℕ) → IsSound end e → is_lt (slice_cmp nat_cmp last e) ≡ true → check_entry end last e ≡ Ok tt
unfolding check_entry
sound_passes end last e s above = rw (s.tag, s.kind, s.length_is, above, s.claim) refl

-- ---- all entries

pub sound_entries : (low : List ℕ) (offset at end : ℕ) (rs ts : List (List ℕ)) → InOrder Archive low rs
    → AllZip IsTableOf rs ts → offset + length (concat rs) < 2 ^ 64 → at + length (tables_text ts) < 2 ^ 64
    → at + length (tables_text ts) ≤ end
    → AllByRecursion (IsSound end) (table_entries offset at rs ts)
sound_entries low offset at end [] ts a each of fits within = tt
sound_entries low offset at end (r ∷ rs) [] a each of fits within = absurd each
sound_entries low offset at end (r ∷ rs) (t ∷ ts) a each of fits within =
    let longer = length-append r (concat rs) in
    let more = length-append (stored t) (tables_text ts) in (
      sound_entry offset at end r t a.0 each.0 (omega (arith, of, longer, nonempty r a.0)) (omega (arith, fits, more)) (omega (arith, within, more)),
      sound_entries r (offset + length r) (at + length (stored t)) end rs ts a.2 each.1 (omega (arith, of, longer))
          (omega (arith, fits, more)) (omega (arith, within, more)),
    )

pub follow_entries : (low : List ℕ) (offset at : ℕ) (rs ts : List (List ℕ)) → InOrder Archive low rs
    → AllZip IsTableOf rs ts → offset + length (concat rs) < 2 ^ 64 → at + length (tables_text ts) < 2 ^ 64
    → FollowOn offset at (at + length (tables_text ts)) (table_entries offset at rs ts)
unfolding table_entry
follow_entries low offset at [] [] a each of fits = omega arith
follow_entries low offset at (r ∷ rs) (t ∷ ts) a each of fits =
    let longer = length-append r (concat rs) in
    let more = length-append (stored t) (tables_text ts) in
    let small : at + length (stored t) < 2 ^ 64 = omega (arith, fits, more) in
    let near : offset < 2 ^ 64 = omega (arith, of, longer, nonempty r a.0) in
    let end : at + length (stored t) + length (tables_text ts) ≡ at + length (tables_text (t ∷ ts)) = omega (arith, more) in
    let e : List ℕ = placed_entry offset r ++ claim_bytes (claim_of at r t) in
    let len : length r ≡ length_in e = sym (entry_length offset at r t a.0) in
    let claim = claim_there offset at (at + length (stored t)) r t a.0 each.0 near small (omega arith) in
    let size : length (stored t) ≡ stored_size (claim_in e) = sym (ap stored_size claim ∙ claimed at r t each.0) in
    let admission = admission_there offset at (at + length (stored t)) r t a.0 each.0 near small (omega arith) in (
      entry_offset offset at r t a.0 near,
      λ h. ap (λ c. c.offset) (claim ∙ claim_admitted at r t (sym admission ∙ h)),
      subst (λ (n : ℕ). FollowOn (offset + n) (at + stored_size (claim_in e)) (at + length (tables_text (t ∷ ts)))
          (table_entries (offset + length r) (at + length (stored t)) rs ts)) len
          (subst (λ (n : ℕ). FollowOn (offset + length r) (at + n) (at + length (tables_text (t ∷ ts)))
          (table_entries (offset + length r) (at + length (stored t)) rs ts)) size
          (subst (λ (n : ℕ). FollowOn (offset + length r) (at + length (stored t)) n (table_entries (offset + length r) (at + length (stored t)) rs ts)) end
          (follow_entries r (offset + length r) (at + length (stored t)) rs ts a.2 each.1 (omega (arith, of, longer)) (omega (arith, fits, more))))),
    )
follow_entries low offset at rs ts a each of fits = absurd each

-- ---- entries in byte order

-- sound entries that are strictly sorted pass their tests
pass_sorted : (end : ℕ) (low : List ℕ) (xs : List (List ℕ)) → AllByRecursion (IsSound end) xs
    → AllByRecursion (λ y. order low y ≡ Less) xs → IsStrictlySortedBy order xs → PassChecks end low xs
unfolding IsStrictlySortedBy
pass_sorted end low [] sound above sorted = tt
pass_sorted end low (x ∷ xs) sound above sorted = (
  sound.0.long,
  sound_passes end low x sound.0 (ap is_lt above.0),
  pass_sorted end x xs sound.1 sorted.0 sorted.1,
)

above_empty : (end : ℕ) (x : List ℕ) → IsSound end x → order [] x ≡ Less
above_empty end [] s = absurd (omega (arith, s.long))
above_empty end (b ∷ bs) s = refl

-- ---- the index of a content

pub accepted : (o : Operations) (text : List ℕ) (index : IsIndexOf o text) → IsContent o → length (written o) < 2 ^ 64
    → length text < 2 ^ 64 → IsIndexText text (entries_of (listing o) index.tables)
unfolding entries_of
accepted o text index content short fits =
    let rs : List (List ℕ) = listing o in
    let ts : List (List ℕ) = index.tables in
    let tables : List ℕ = tables_text ts in
    let end : ℕ = 8 + length tables in
    let es : List (List ℕ) = table_entries 8 8 rs ts in
    let entries : List (List ℕ) = listing (set.from_list {R = order} es) in
    let ordered : InOrder Archive [] rs = InOrder-listing o content in
    let all : List ℕ = stored (concat entries) in
    let long : length text ≡ 8 + (length tables + (length all + length (end_of entries))) =
    ap length index.text_is ∙ length-append index_magic (tables ++ (all ++ end_of entries))
    ∙ ap (λ (n : ℕ). 8 + n) (length-append tables (all ++ end_of entries)
    ∙ ap (λ (n : ℕ). length tables + n) (length-append all (end_of entries))) in
    let room : 8 + length tables < 2 ^ 64 = omega (arith, long, fits) in
    let of : 8 + length (concat rs) < 2 ^ 64 = omega (arith, text_length o, short) in
    let sound : AllByRecursion (IsSound end) es = sound_entries [] 8 8 end rs ts ordered index.each of room (omega arith) in
    let follow : FollowOn 8 8 end es = follow_entries [] 8 8 rs ts ordered index.each of room in
    let near : AreNear 8 8 rs ts = near_all 8 8 rs ts of room in
    let distinct : AreDistinct es = apart [] 8 8 rs ts ordered near in
    let each : AllByRecursion (IsSound end) entries = along (IsSound end) entries (λ q h.
    All-contains (IsSound end) es q (All-from_recursion (IsSound end) es sound)
    (containing es q (sym (any_ascending_of q es) ∙ ap (λ (xs : List (List ℕ)). list_any (is_same q) xs)
    (sym (listing_of es)) ∙ h))) in
    let sorted : IsStrictlySortedBy order entries = (listed nat_list_cmp_total bytes_same (set.from_list es)).ascending in
    let pass : PassChecks end [] entries = pass_sorted end [] entries each
    (along_list (IsSound end) (λ y. order [] y ≡ Less) (above_empty end) entries each) sorted in
    record {
      tables = tables;
      whole = index.text_is;
      few = omega (arith, long, fits, stored_long (concat entries), long_entries end [] entries pass);
      short = omega (arith, archive_long rs ts ordered near index.each, text_length o, short);
      pass = pass;
      laid = record {
        order = es;
        permuted = subst (λ (xs : List (List ℕ)). IsPermutation xs es) (sym (listing_of es)) (IsPermutation-sym es (ascending_of order es) (moved es distinct));
        follow = follow;
      };
    }

-- ---- over any bytes

-- entries of one length are those that their bytes are
long_each : (end : ℕ) (low : List ℕ) (xs : List (List ℕ)) → PassChecks end low xs → AllByRecursion (λ e. length e ≡ 122) xs
long_each end low [] pass = tt
long_each end low (x ∷ xs) pass = (pass.0, long_each end x xs pass.2)

same_list : (xs ys : List (List ℕ)) → AllByRecursion (λ e. length e ≡ 122) xs → AllByRecursion (λ e. length e ≡ 122) ys → concat xs ≡ concat ys → xs ≡ ys
same_list [] [] a b e = refl
same_list [] (y ∷ ys) a b e = absurd (omega (arith, ap length e, length-append y (concat ys), b.0))
same_list (x ∷ xs) [] a b e = absurd (omega (arith, ap length e, length-append x (concat xs), a.0))
same_list (x ∷ xs) (y ∷ ys) a b e =
    let parts = same_parts x y (concat xs) (concat ys) (a.0 ∙ sym b.0) e in
    cc (parts.0, same_list xs ys a.1 b.1 parts.1)

pub of_the_content : (o : Operations) (index text : List ℕ) (entries : List (List ℕ)) (is : IsIndexOf o index)
    → IsContent o → length (written o) < 2 ^ 64 → length index < 2 ^ 64 → IsIndexText text entries → EndAlike text index
    → (root_of (concat entries) ≡ root_of (concat (entries_of (listing o) is.tables)) → concat entries
    ≡ concat (entries_of (listing o) is.tables)) → entries ≡ entries_of (listing o) is.tables
of_the_content o index text entries is content short fits read alike tell =
    let others : List (List ℕ) = entries_of (listing o) is.tables in
    let made : IsIndexText index others = accepted o index is content short fits in
    let ends : end_of entries ≡ end_of others = sym (last_is text entries read) ∙ alike ∙ last_is index others made in
    let roots : root_of (concat entries) ≡ root_of (concat others) = sym (after_length entries) ∙ ap (drop 25) ends ∙ after_length others in
    same_list entries others (long_each (8 + length read.tables) [] entries read.pass) (long_each (8 + length made.tables) [] others made.pass) (tell roots)

pub told_over : (index text r : List ℕ) (entries : List (List ℕ)) (address : ℕ) (found : Option NearestSymbol)
    (table : HasTable index entries r) → DigestsDecidePages text (claim_in table.e) table.table → AreBytes (drop 33 r)
    → IsToldBy text table.e address found → IsSaid (drop 33 r) address found
told_over index text r entries address found table tell bytes says =
    says (drop 33 r) table.table bytes (table_of_symbols (drop 33 r) table.table table.is_table)
    (record { size = table.stored.size; root = table.stored.root; tells = tell })

pub over_any_bytes : (o : Operations) (index text : List ℕ) (uuids some : List (List ℕ)) (is : IsIndexOf o index)
    → IsContent o → length (written o) < 2 ^ 64 → length index < 2 ^ 64 → length text ≡ length index → EndAlike text index
    → DigestsDecidePages text (entries_claim text) (concat (entries_of (listing o) is.tables)) → AreReadUnder uuids text some
    → some ≡ only (is_under_one uuids) (entries_of (listing o) is.tables)
over_any_bytes o index text uuids some is content short fits same alike tells read =
    let entries : List (List ℕ) = entries_of (listing o) is.tables in
    let made : IsIndexText index entries = accepted o index is content short fits in
    let room : 57 ≤ length text = omega (arith, same, (front_passed index (digest_there index entries made).ends.beginning).1) in
    read entries (may_alike text index same room alike entries (may_have index entries made) tells)
