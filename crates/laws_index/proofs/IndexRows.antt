-- The rows of the index of a content are those of the content.
use Rattle.std.proofs.Common.{◌≡◌, ℕ, ◌+◌, ◌<◌, ◌≤◌, ◌^◌, Bool, true, false, cond, ◌&&◌, List, [], ◌∷◌, ◌++◌, length}
use Rattle.std.proofs.Common.{take, drop, get_or, refl, sym, ap, ◌∙◌, subst, inl, inr, arith, length-append}
use Rattle.std.proofs.Common.{append_assoc}
use Rattle.std.specs.Prelude.{filter}
use Rattle.std.specs.Int.{w32, w64, to_be_bytes}
use Rattle.std.specs.List.{AllByRecursion, AllZip, concat, list_any}
use Rattle.std.specs.List.Sorted.{IsStrictlySortedBy}
use Rattle.std.specs.Ordering.{ordering_then}
use Rattle.std.specs.Cmp.{tied_itself}
use Rattle.std.specs.Cmp.Lexicographic.{nat_list_cmp_total}
use Rattle.std.specs.declared.cmp.Ordering.{Ordering}
use Rattle.std.specs.declared.cmp.Ordering.TheVariants.{Less, Equal}
use Rattle.std.specs.FinSet as set
use Rattle.std.specs.FinSet.{contains-from_list, same_set}
use Rattle.std.proofs.Math.Seq.{take-append_seam}
use Rattle.std.proofs.lemmas.Slice.Eq.{bytes_eq-Decides}
use Rattle.std.proofs.lemmas.List.Elements.{All-cons, Contains-get_or, recursion_from_All}
use Rattle.std.proofs.lemmas.List.Sorted.{list_any-IsPermutation}
use Rattle.sha2.specs.Sha256.{sha256}
use Rattle.sha2.proofs.Facts256.{length-sha256}
use Rattle.macho_image.specs.Contents.{is_dsym_image}
use Rattle.macho_image.proofs.Told.{uuid_of-length}
use Rattle.join_core.specs.Listing.{listing}
use Rattle.join_core.proofs.Listing.{any_listing, listed}
use Rattle.join_core.proofs.Retain.{listing_retain}
use Rattle.archive_core.specs.Key.{IsKey, key_bytes}
use Rattle.archive_core.specs.Valid.{IsValid, key_of}
use Rattle.archive_core.specs.Record.{IsRecord, IsOperation, admission, admission_record, retirement_record}
use Rattle.archive_core.specs.Content.{Operations, IsContent}
use Rattle.archive_core.specs.Find.{IsFinds, IsFoundUnder, find_cmp, key_in, row_of}
use Rattle.archive_core.specs.Lists.{IsList, list_cmp}
use Rattle.archive_core.specs.Part.{is_under, part}
use Rattle.archive_core.specs.Summary.{entry}
use Rattle.archive_core.specs.declared.find.FindRow.{FindRow}
use Rattle.archive_core.specs.declared.find.FindState.{FindState}
use Rattle.archive_core.specs.declared.find.FindState.TheVariants.{Retired, Image, Dsym}
use Rattle.archive_core.specs.declared.keys.SliceKey.{SliceKey}
use Rattle.archive_core.specs.declared.operations.Operation.{Operation}
use Rattle.archive_core.specs.declared.operations.Operation.TheVariants.{Admit, Retire}
use Rattle.archive_core.proofs.Compare.{length_key_bytes}
use Rattle.archive_core.proofs.Entries.{admission_entry, retirement_entry, slice_of}
use Rattle.archive_core.proofs.Made.{bytes_same, and_right}
use Rattle.archive_core.proofs.Picked.{contains_part, finds_alike, part_alike, part_content}
use Rattle.archive_core.proofs.Records.{length-key_of, one_key as same_key}
use Rattle.archive_core.proofs.Told.{found_under}
use Rattle.archive_records.specs.Text.{written}
use Rattle.archive_records.proofs.Contents.{order, along}
use Rattle.archive_from_records.specs.InnerRows.{AreRowsOf}
use Rattle.archive_from_records.proofs.RowsTold.{list_of}
use Rattle.index_format.specs.Entry.{IsRowOf, kind_byte, offset_in, placed_entry, dsym_byte, tag_byte}
use Rattle.index_format.specs.Index.{index, placed_entries}
use Rattle.index_format.specs.Places.{entries_under}
use Rattle.index_format.proofs.Named.{under_same}
use Rattle.index_format.proofs.Placed.{kind_of, offset_is}
use Rattle.index_format.proofs.Sums.{nonempty, text_length}
use Rattle.command_given_indexes.specs.Rows.{AreIndexRows, IsEntryRow}
use Rattle.laws_index.specs.Contents.{HaveKeys}
use Rattle.laws_index.proofs.Ascent.{Ascend, any_passed, ascend_sorted, count, is_same, once, one_ascent, one_of_number}
use Rattle.command_given_indexes.proofs.Entries.{digest_there, key_there}

-- ---- the row of an entry is that of its record

admitted_state : (s : FindState) (b : Bool) → tag_byte s ≡ 2 → dsym_byte s ≡ cond b 1 0 → s ≡ cond b Dsym Image
admitted_state s b t k = grind arith

retired_state : (s : FindState) → tag_byte s ≡ 1 → s ≡ Retired
retired_state s t = grind arith

row_told : (row : FindRow) (a : Operation) → row.key ≡ key_in a → row.digest.0 ≡ (row_of a).digest.0 → row.state ≡ (row_of a).state → row ≡ row_of a
row_told row a key digest state = λ i. record { key = key i; digest = record { 0 = digest i }; state = state i }

pub row_of_entry : (offset : ℕ) (r : List ℕ) (row : FindRow) → IsRecord r
    → ((slice : List ℕ) → r ≡ admission_record slice → IsValid slice → IsKey (key_of slice))
    → IsEntryRow (placed_entry offset r) row → IsRowOf r row
unfolding placed_entry
row_of_entry offset r row (inl a) keyed told =
    let s = a.slice in
    let e = ap entry a.is ∙ admission_entry s a.valid in
    let tail : List ℕ = kind_byte r ∷ (to_be_bytes w64 offset ++ to_be_bytes w64 (length r)) in
    let whole : placed_entry offset r ≡ (2 ∷ (key_bytes (key_of s) ++ sha256 s)) ++ tail = ap (λ (t : List ℕ). t ++ tail) e in
    let key_long = length-key_of s a.valid in
    let key : row.key ≡ key_of s = same_key row.key (key_of s) told.is_key (keyed s a.is a.valid)
    (told.key_is ∙ ap (λ (t : List ℕ). take 24 (drop 1 t)) whole
    ∙ key_there 2 (key_bytes (key_of s)) (sha256 s) tail key_long (length-sha256 s)) in
    let digest : row.digest.0 ≡ sha256 s = told.digest_is ∙ ap (λ (t : List ℕ). take 32 (drop 25 t)) whole
    ∙ digest_there 2 (key_bytes (key_of s)) (sha256 s) tail key_long (length-sha256 s) in
    let tag : tag_byte row.state ≡ 2 = told.tag_is ∙ ap (λ (t : List ℕ). get_or t 0 0) whole in
    let kind : dsym_byte row.state ≡ cond (is_dsym_image s) 1 0 = told.kind_is ∙ kind_of offset r (inl a)
    ∙ ap kind_byte a.is ∙ ap (λ (t : List ℕ). cond (is_dsym_image t) 1 0) (slice_of s a.valid) in
    record {
      operation = Admit s;
      is_operation = a.valid;
      is_key = keyed s a.is a.valid;
      bytes_are = sym a.is;
      row_is = row_told row (Admit s) key digest (admitted_state row.state (is_dsym_image s) tag kind);
    }
row_of_entry offset r row (inr b) keyed told =
    let e = ap entry b.is ∙ retirement_entry b.key b.digest in
    let tail : List ℕ = kind_byte r ∷ (to_be_bytes w64 offset ++ to_be_bytes w64 (length r)) in
    let whole : placed_entry offset r ≡ (1 ∷ (key_bytes b.key ++ b.digest)) ++ tail = ap (λ (t : List ℕ). t ++ tail) e in
    let key_long = length_key_bytes b.key b.is_key.uuid in
    let key : row.key ≡ b.key = same_key row.key b.key told.is_key b.is_key
    (told.key_is ∙ ap (λ (t : List ℕ). take 24 (drop 1 t)) whole
    ∙ key_there 1 (key_bytes b.key) b.digest tail key_long b.long) in
    let digest : row.digest.0 ≡ b.digest = told.digest_is ∙ ap (λ (t : List ℕ). take 32 (drop 25 t)) whole
    ∙ digest_there 1 (key_bytes b.key) b.digest tail key_long b.long in
    let tag : tag_byte row.state ≡ 1 = told.tag_is ∙ ap (λ (t : List ℕ). get_or t 0 0) whole in
    record {
      operation = Retire b.key (record { 0 = b.digest });
      is_operation = (b.is_key, b.long);
      is_key = b.is_key;
      bytes_are = sym b.is;
      row_is = row_told row (Retire b.key (record { 0 = b.digest })) key digest (retired_state row.state tag);
    }

-- ---- the entries of records that stand one after another, and the records

-- the first is the entry of the second
record IsEntryOf (e r : List ℕ) : Type 0 where
  is : IsRecord r
  keyed : (slice : List ℕ) → r ≡ admission_record slice → IsValid slice → IsKey (key_of slice)
  offset : ℕ
  entry_is : e ≡ placed_entry offset r

rows_one : (r : List ℕ) (row : FindRow) (rs : List (List ℕ)) (rows : List FindRow) → IsRowOf r row → AreRowsOf rs rows → AreRowsOf (r ∷ rs) (row ∷ rows)
rows_one r row rs rows one all = record {
  operations = one.operation ∷ all.operations;
  are = All-cons IsOperation one.operation all.operations one.is_operation all.are;
  keys_are = All-cons (λ a. IsKey (key_in a)) one.operation all.operations one.is_key all.keys_are;
  records_are = λ i. one.bytes_are i ∷ all.records_are i;
  rows_are = λ i. one.row_is i ∷ all.rows_are i;
}

rows_of_entries : (es rs : List (List ℕ)) (rows : List FindRow) → AllZip IsEntryOf es rs → AllZip IsEntryRow es rows → AreRowsOf rs rows
rows_of_entries [] [] [] of told = record {
  operations = [];
  are = λ i d lt. absurd (omega arith);
  keys_are =
      λ i d lt. absurd (omega arith);
  records_are = refl;
  rows_are = refl;
}
rows_of_entries [] (r ∷ rs) rows of told = absurd of
rows_of_entries (e ∷ es) [] rows of told = absurd of
rows_of_entries (e ∷ es) (r ∷ rs) (row ∷ rows) of told =
    rows_one r row rs rows (row_of_entry of.0.offset r row of.0.is of.0.keyed
    (subst (λ (x : List ℕ). IsEntryRow x row) of.0.entry_is told.0)) (rows_of_entries es rs rows of.1 told.1)
rows_of_entries es rs rows of told = absurd told

module _ (prefix : List ℕ) (short : length prefix ≤ 24) where
  -- those under a prefix
  of_under : (k : ℕ) (rs : List (List ℕ)) → AllByRecursion
      (λ r. IsRecord r × ((slice : List ℕ) → r ≡ admission_record slice → IsValid slice → IsKey (key_of slice))) rs
      → AllZip IsEntryOf (filter (is_under prefix) (placed_entries k rs)) (filter (is_under prefix) rs)
  of_under k [] all = tt
  of_under k (r ∷ rs) all =
      let rest = of_under (k + length r) rs all.1 in
      subst (λ (b : Bool). AllZip IsEntryOf (cond b (placed_entry k r
      ∷ filter (is_under prefix) (placed_entries (k + length r) rs))
      (filter (is_under prefix) (placed_entries (k + length r) rs))) (filter (is_under prefix) (r ∷ rs)))
      (sym (under_same prefix k r short all.0.0))
      (by (is_under prefix r) rest)
    where
      by : (b : Bool) → AllZip IsEntryOf (filter (is_under prefix) (placed_entries (k + length r) rs)) (filter (is_under prefix) rs)
          → AllZip IsEntryOf (cond b (placed_entry k r ∷ filter (is_under prefix) (placed_entries (k + length r) rs))
          (filter (is_under prefix) (placed_entries (k + length r) rs)))
          (cond b (r ∷ filter (is_under prefix) rs) (filter (is_under prefix) rs))
      by true rest = (record { is = all.0.0; keyed = all.0.1; offset = k; entry_is = refl }, rest)
      by false rest = rest

-- what comes after a place stands there or later
later : (low : ℕ) (k : ℕ) (rs : List (List ℕ)) (p : List ℕ → Bool) → AllByRecursion IsRecord rs → low < k
    → k + length (concat rs) < 2 ^ 64 → AllByRecursion (λ e. low < offset_in e) (filter p (placed_entries k rs))
later low k [] p all lt fits = tt
later low k (r ∷ rs) p all lt fits =
    by (p (placed_entry k r)) (later low (k + length r) rs p all.1 (omega arith) (omega (arith, fits, length-append r (concat rs))))
  where
    by : (b : Bool) → AllByRecursion (λ e. low < offset_in e) (filter p (placed_entries (k + length r) rs))
        → AllByRecursion (λ e. low < offset_in e) (cond b
        (placed_entry k r ∷ filter p (placed_entries (k + length r) rs)) (filter p (placed_entries (k + length r) rs)))
    by true rest = (omega (arith, lt, offset_is k r all.0 (omega (arith, fits))), rest)
    by false rest = rest

-- those that are picked ascend by their places
ascend_placed : (k : ℕ) (rs : List (List ℕ)) (p : List ℕ → Bool) → AllByRecursion IsRecord rs
    → k + length (concat rs) < 2 ^ 64 → Ascend offset_in (filter p (placed_entries k rs))
ascend_placed k [] p all fits = tt
ascend_placed k (r ∷ rs) p all fits =
    by (p (placed_entry k r)) (ascend_placed (k + length r) rs p all.1 (omega (arith, fits, length-append r (concat rs))))
  where
    at : offset_in (placed_entry k r) ≡ k
    at = offset_is k r all.0 (omega (arith, fits))

    over : AllByRecursion (λ e. offset_in (placed_entry k r) < offset_in e) (filter p (placed_entries (k + length r) rs))
    over = subst (λ (n : ℕ). AllByRecursion (λ e. n < offset_in e) (filter p (placed_entries (k + length r) rs)))
        (sym at) (later k (k + length r) rs p all.1 (omega (arith, nonempty r all.0))
        (omega (arith, fits, length-append r (concat rs))))

    by : (b : Bool) → Ascend offset_in (filter p (placed_entries (k + length r) rs))
        → Ascend offset_in (cond b (placed_entry k r ∷ filter p (placed_entries (k + length r) rs))
        (filter p (placed_entries (k + length r) rs)))
    by true rest = (over, rest)
    by false rest = rest

-- ---- the rows of the index of a content

module _ (prefix : List ℕ) (o : Operations) (short : length prefix ≤ 24) (content : IsContent o) (keys : HaveKeys o) (fits : length (written o) < 2 ^ 64) where
  abbrev rs : List (List ℕ)
  rs = listing o

  abbrev placed_under : List (List ℕ)
  placed_under = filter (is_under prefix) (placed_entries 8 rs)

  records_are : AllByRecursion IsRecord rs
  records_are = along IsRecord rs (λ r h. content.records r (sym (any_listing nat_list_cmp_total o r) ∙ h))

  keyed_are : AllByRecursion (λ r. IsRecord r × ((slice : List ℕ) → r ≡ admission_record slice → IsValid slice → IsKey (key_of slice))) rs
  keyed_are = along (λ r. IsRecord r × ((slice : List ℕ) → r ≡ admission_record slice → IsValid slice → IsKey (key_of slice))) rs (λ r h.
      let member : set.contains o r ≡ true = sym (any_listing nat_list_cmp_total o r) ∙ h in
      (content.records r member, λ slice is. keys slice (ap (set.contains o) (sym is) ∙ member)))

  up : Ascend offset_in placed_under
  up = ascend_placed 8 rs (is_under prefix) records_are (omega (arith, fits, text_length o))

  -- the same entries
  members : (q : List ℕ) → list_any (is_same q) (entries_under prefix (listing (index o))) ≡ list_any (is_same q) placed_under
  unfolding index
  members q =
      any_passed (is_under prefix) q (listing (index o))
      ∙ ap (λ (b : Bool). b && is_under prefix q) (any_listing nat_list_cmp_total (index o) q ∙ contains-from_list nat_list_cmp_total (placed_entries 8 rs) q)
      ∙ sym (any_passed (is_under prefix) q (placed_entries 8 rs))

  at_most_once : (t : ℕ) → count offset_in t (entries_under prefix (listing (index o))) ≤ 1
  at_most_once = once offset_in (entries_under prefix (listing (index o)))
      (subst (IsStrictlySortedBy order) (listing_retain nat_list_cmp_total bytes_same (is_under prefix) (index o))
      (listed nat_list_cmp_total bytes_same (set.retain (index o) (is_under prefix))).ascending)
      (λ p q in_p in_q same. one_of_number offset_in placed_under p q up (sym (members p) ∙ in_p) (sym (members q) ∙ in_q) same)

  pub rows_of_index : (rows : List FindRow) → AreIndexRows prefix (listing (index o)) rows → IsList (part o (is_under prefix)) rows
  rows_of_index rows is =
      let sorted = ascend_sorted offset_in (entries_under prefix (listing (index o))) is.placed is.moved is.by_offset at_most_once in
      let same : is.placed ≡ placed_under = one_ascent offset_in is.placed placed_under sorted up (λ q.
      sym (list_any-IsPermutation (is_same q) (entries_under prefix (listing (index o))) is.placed is.moved) ∙ members q) in
      let told : AllZip IsEntryRow placed_under is.told = subst (λ (es : List (List ℕ)). AllZip IsEntryRow es is.told) same is.each in
      let of : AreRowsOf (filter (is_under prefix) rs) is.told =
      rows_of_entries placed_under (filter (is_under prefix) rs) is.told (of_under prefix short 8 rs keyed_are) told
      in
      list_of (part o (is_under prefix)) is.told rows (part_content o (is_under prefix) content)
      (subst (λ (ss : List (List ℕ)). AreRowsOf ss is.told) (sym (listing_retain nat_list_cmp_total bytes_same (is_under prefix) o)) of) is.by_key is.stable

-- ---- all of them, and those of a UUID

all_under : (r : List ℕ) → is_under [] r ≡ true
unfolding is_under
all_under r = refl

and_true : (a b : Bool) → b ≡ true → (a && b) ≡ a
and_true a b h = grind arith

whole_part : (o : Operations) → part o (is_under []) ≡ o
whole_part o = same_set nat_list_cmp_total bytes_same (part o (is_under [])) o
    (λ q. contains_part o (is_under []) q ∙ and_true (set.contains o q) (is_under [] q) (all_under q))

pub list_of_index : (o : Operations) (rows : List FindRow) → IsContent o → HaveKeys o → length (written o) < 2 ^ 64
    → AreIndexRows [] (listing (index o)) rows → IsList o rows
list_of_index o rows content keys fits is = subst (λ (p : Operations). IsList p rows) (whole_part o)
    (rows_of_index [] o (omega arith) content keys fits rows is)

-- the UUID of a record under a UUID
uuid_there : (uuid rest : List ℕ) (t : ℕ) (key : SliceKey) → length uuid ≡ 16 → length key.uuid ≡ 16
    → is_under uuid (t ∷ (key_bytes key ++ rest)) ≡ true → key.uuid ≡ uuid
unfolding is_under key_bytes
uuid_there uuid rest t key long key_long under =
    let more : List ℕ = to_be_bytes w32 key.arch.cputype ++ to_be_bytes w32 key.arch.cpusubtype in
    let same : uuid ≡ take (length uuid) ((key.uuid ++ more) ++ rest) = (bytes_eq-Decides uuid (take (length uuid) ((key.uuid ++ more) ++ rest))).0 under in
    sym (same ∙ ap (take (length uuid)) (append_assoc key.uuid more rest)
    ∙ ap (λ (n : ℕ). take n (key.uuid ++ (more ++ rest))) (long ∙ sym key_long)
    ∙ take-append_seam key.uuid (more ++ rest))

module _ (o : Operations) (uuid : List ℕ) (long : length uuid ≡ 16) where
  abbrev p : Operations
  p = part o (is_under uuid)

  under_of : (r : List ℕ) → set.contains p r ≡ true → is_under uuid r ≡ true
  under_of r h = and_right (set.contains o r) (is_under uuid r) (sym (contains_part o (is_under uuid) r) ∙ h)

  -- what is found in the part is under the UUID
  uuid_found : (a : Operation) → IsOperation a → IsFoundUnder p (key_in a).uuid a → (key_in a).uuid ≡ uuid
  unfolding key_of admission
  uuid_found (Admit slice) valid h = uuid_there uuid _ 2 (key_of slice) long (uuid_of-length slice valid.image) (under_of (admission_record slice) h.1.admitted)
  uuid_found (Retire key digest) is h = uuid_there uuid digest.0 1 key long is.0.uuid (under_of (retirement_record key digest.0) h.1)

  all_found : (rows : List FindRow) (l : IsList p rows) → AllByRecursion (λ a. (key_in a).uuid ≡ uuid) l.operations
  all_found rows l = recursion_from_All (λ a. (key_in a).uuid ≡ uuid) l.operations (λ i d lt.
      let a : Operation = get_or l.operations i d in
      let is = (l.exactly a).0 (Contains-get_or l.operations i d lt) in
      uuid_found a is.0 is.1)

  then_less : (a b : Ordering) → a ≡ Equal → ordering_then a b ≡ Less → b ≡ Less
  then_less a b e h = sym (ap (λ (x : Ordering). ordering_then x b) e) ∙ h

  less_found : (x y : Operation) → (key_in x).uuid ≡ uuid → (key_in y).uuid ≡ uuid → list_cmp x y ≡ Less → find_cmp x y ≡ Less
  less_found x y ux uy less =
      then_less (order (key_in x).uuid (key_in y).uuid) (find_cmp x y) ((λ i. order (ux i) (uy i)) ∙ tied_itself nat_list_cmp_total uuid) less

  each_less : (x : Operation) (xs : List Operation) → (key_in x).uuid ≡ uuid
      → AllByRecursion (λ y. (key_in y).uuid ≡ uuid) xs → AllByRecursion (λ y. list_cmp x y ≡ Less) xs
      → AllByRecursion (λ y. find_cmp x y ≡ Less) xs
  each_less x [] ux us less = tt
  each_less x (y ∷ xs) ux us less = (less_found x y ux us.0 less.0, each_less x xs ux us.1 less.1)

  still_ascending : (xs : List Operation) → AllByRecursion (λ y. (key_in y).uuid ≡ uuid) xs → IsStrictlySortedBy list_cmp xs → IsStrictlySortedBy find_cmp xs
  unfolding IsStrictlySortedBy
  still_ascending [] us less = tt
  still_ascending (x ∷ xs) us less = (each_less x xs us.0 us.1 less.0, still_ascending xs us.1 less.1)

  -- so its list is what is found there
  pub found_of_list : (rows : List FindRow) → IsList p rows → IsFinds o uuid rows
  found_of_list rows l = finds_alike p o uuid rows (part_alike o (is_under uuid) uuid (λ r h. h)) (record {
    operations = l.operations;
    ascending = still_ascending l.operations (all_found rows l) l.ascending;
    exactly = λ a. (
      λ h. let is = (l.exactly a).0 h in (is.0, subst (λ (u : List ℕ). IsFoundUnder p u a) (uuid_found a is.0 is.1) is.1),
      λ h. (l.exactly a).1 (h.0, subst (λ (u : List ℕ). IsFoundUnder p u a) (sym (found_under p uuid a h.1)) h.1),
    );
    rows_are = l.rows_are;
  })

pub found_of_index : (o : Operations) (uuid : List ℕ) (rows : List FindRow) → length uuid ≡ 16 → IsContent o
    → HaveKeys o → length (written o) < 2 ^ 64 → AreIndexRows uuid (listing (index o)) rows → IsFinds o uuid rows
found_of_index o uuid rows long content keys fits is = found_of_list o uuid long rows (rows_of_index uuid o (omega arith) content keys fits rows is)
