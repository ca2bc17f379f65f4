-- An entry and its record: each entry of the index of a content is that of one of its records, and each record has one.
use Rattle.std.proofs.Common.{◌≡◌, ℕ, ◌+◌, ◌<◌, ◌^◌, true, false, Bool, cond, eqb, List, ◌∷◌, ◌++◌, length, take, drop, get_or, refl, sym, ap, ◌∙◌, subst, inl}
use Rattle.std.proofs.Common.{inr, arith, ◌↔◌, zero, suc, ◌≤◌, ◌⊎◌, [], length-append}
use Rattle.std.specs.Int.{w64, to_be_bytes}
use Rattle.std.specs.Ordering.{nat_cmp, ordering_then}
use Rattle.std.specs.declared.cmp.Ordering.TheVariants.{Less, Equal}
use Rattle.std.specs.Cmp.{tied_itself, nat_cmp_is}
use Rattle.std.specs.Cmp.Lexicographic.{nat_list_cmp_total, slice_cmp}
use Rattle.std.proofs.lemmas.Bool.{true≢false, cases_order}
use Rattle.std.proofs.lemmas.List.{drop_at, drop-take, get_or-drop, get_or-take, take_at, take-take, get_or_default}
use Rattle.sha2.specs.Sha256.{sha256}
use Rattle.macho_image.specs.Contents.{is_dsym_image}
use Rattle.macho_image.specs.Layout.{u32_le_at}
use Rattle.macho_image.proofs.Told.{length-image, uuid_of-length}
use Rattle.table_symbols.specs.Steps.{AreBytes}
use Rattle.archive_core.specs.Content.{is_admission, IsContent, Operations}
use Rattle.archive_core.specs.Key.{IsKey, key_bytes}
use Rattle.archive_core.specs.Record.{Admits, IsRecord, Retires, admission, admission_record, retirement_record}
use Rattle.archive_core.specs.Summary.{entry}
use Rattle.archive_core.specs.Valid.{IsValid, key_of}
use Rattle.archive_core.proofs.Compare.{three_parts}
use Rattle.archive_core.proofs.Digits.{cmp_eight}
use Rattle.archive_core.proofs.Entries.{admission_entry, retirement_entry, slice_of}
use Rattle.archive_core.proofs.Records.{length-admission_record, length-key_of}
use Rattle.index_format.specs.Entry.{kind_byte, length_in, offset_in, placed_entry}
use Rattle.index_lookup.specs.Contents.{IsSliceOf}
use Rattle.index_lookup.specs.Told.{is_companion}
use Rattle.std.specs.List.{Contains, concat}
use Rattle.std.specs.List.Sorted.{IsStrictlySortedBy}
use Rattle.std.specs.FinSet as set
use Rattle.std.proofs.lemmas.List.Elements.{Contains-get_or}
use Rattle.std.proofs.lemmas.Map.Keys.{Less-from_sorted}
use Rattle.join_core.specs.Listing.{listing}
use Rattle.join_core.proofs.Listing.{listed}
use Rattle.archive_core.proofs.Members.{in_order}
use Rattle.archive_core.proofs.Made.{bytes_same}
use Rattle.archive_records.proofs.Contents.{members_listed, order}
use Rattle.index_format.proofs.Placed.{entry_long, kind_of}
use Rattle.index_format.proofs.Sums.{nonempty, text_length}
use Rattle.index_format.specs.Text.{IsIndexText}
use Rattle.index_format.proofs.Fields.{byte_kept}
use Rattle.index_format.proofs.Faults.{one_list}
use Rattle.index_build.specs.Content.{claim_of, entries_of, table_entries, table_entry, tables_text}
use Rattle.index_build.proofs.Accepted.{accepted}
use Rattle.index_build.proofs.Contents.{claim_stored, entry_at, entry_begins, entry_length, entry_offset, is_table, length-table_entries}
use Rattle.laws_index.specs.Indexes.{IsIndexFile}

-- ---- the key of a slice

word : (slice : List ℕ) (at : ℕ) → AreBytes slice → u32_le_at slice at < 2 ^ 32
unfolding u32_le_at
word slice at bytes =
    let one : (k : ℕ) → get_or (drop at slice) k 0 < 256 = λ k. subst (λ (n : ℕ). n < 256) (sym (get_or-drop at slice k 0)) (bytes (at + k)) in
    omega (arith, one 0, one 1, one 2, one 3)

pub is_key_of : (slice : List ℕ) → IsValid slice → AreBytes slice → IsKey (key_of slice)
unfolding key_of
is_key_of slice valid bytes = record {
  uuid = uuid_of-length slice valid.image;
  cputype = word slice 4 bytes;
  cpusubtype = omega arith;
}

-- ---- records in their order

-- of two slices under one key the record of the shorter one comes first
pub shorter_first : (a b : List ℕ) → IsValid a → IsValid b → key_bytes (key_of a) ≡ key_bytes (key_of b)
    → length a < length b → slice_cmp nat_cmp (admission_record a) (admission_record b) ≡ Less
unfolding admission
shorter_first a b valid_a valid_b same shorter =
    let heads : slice_cmp nat_cmp (2 ∷ key_bytes (key_of a)) (2 ∷ key_bytes (key_of b)) ≡ Equal =
    ap (λ (k : List ℕ). slice_cmp nat_cmp (2 ∷ k) (2 ∷ key_bytes (key_of b))) same ∙ tied_itself nat_list_cmp_total (2 ∷ key_bytes (key_of b)) in
    let short_a : length a < 2 ^ 32 = length-image a valid_a.image in
    let short_b : length b < 2 ^ 32 = length-image b valid_b.image in
    let lengths : slice_cmp nat_cmp (to_be_bytes w64 (length a)) (to_be_bytes w64 (length b)) ≡ Less =
    sym (cmp_eight (length a) (length b) (omega arith) (omega arith)) ∙ sym (nat_cmp_is (length a) (length b) Less shorter) in
    three_parts (2 ∷ key_bytes (key_of a)) (to_be_bytes w64 (length a)) a (2 ∷ key_bytes (key_of b))
    (to_be_bytes w64 (length b)) b (omega (arith, length-key_of a valid_a, length-key_of b valid_b)) refl
    ∙ (λ i. ordering_then (ordering_then (heads i) (lengths i)) (slice_cmp nat_cmp a b))

-- ---- an entry

-- an entry is that of a record: its first 57 bytes, its kind and its length; of an admission its table is stored where
-- it says
pub record IsEntryOf (text r e : List ℕ) : Type 0 where
  pub prefix : take 57 e ≡ entry r
  pub kind : get_or e 57 0 ≡ kind_byte r
  pub length_is : length_in e ≡ length r
  pub slice : is_admission r ≡ true → IsSliceOf text (drop 33 r) e

-- an entry is that of a slice
pub record IsEntryOfSlice (text slice e : List ℕ) : Type 0 where
  pub valid : IsValid slice
  pub is_key : IsKey (key_of slice)
  pub prefix : take 57 e ≡ 2 ∷ (key_bytes (key_of slice) ++ sha256 slice)
  pub kind : is_companion e ≡ is_dsym_image slice
  pub length_is : length_in e ≡ 33 + length slice
  pub is : IsSliceOf text slice e

pub tag_of : (e prefix : List ℕ) → take 57 e ≡ prefix → get_or e 0 0 ≡ get_or prefix 0 0
tag_of e prefix same = sym (get_or-take 57 e 0 0 (omega arith)) ∙ ap (λ (l : List ℕ). get_or l 0 0) same

pub rest_of : (e prefix : List ℕ) → take 57 e ≡ prefix → take 56 (drop 1 e) ≡ drop 1 prefix
rest_of e prefix same = sym (drop-take 1 56 e) ∙ ap (drop 1) same

-- the SHA-256 in an entry
pub digest_of : (e key digest : List ℕ) → length key ≡ 24 → take 57 e ≡ 2 ∷ (key ++ digest) → take 32 (drop 25 e) ≡ digest
digest_of e key digest long same = sym (drop-take 25 32 e) ∙ ap (drop 25) same ∙ drop_at (2 ∷ key) digest 25 (omega (arith, long))

-- the key in an entry
pub key_in : (e key digest : List ℕ) → length key ≡ 24 → take 57 e ≡ 2 ∷ (key ++ digest) → take 24 (drop 1 e) ≡ key
key_in e key digest long same =
    sym (take-take 24 56 (drop 1 e) (omega arith)) ∙ ap (take 24) (rest_of e (2 ∷ (key ++ digest)) same) ∙ take_at key digest 24 long

module _ (text r e : List ℕ) (of : IsEntryOf text r e) where
  front_retired : (b : Retires r) → take 57 e ≡ retirement_record b.key b.digest
  front_retired b = of.prefix ∙ ap entry b.is ∙ retirement_entry b.key b.digest

  pub front_admitted : (a : Admits r) → take 57 e ≡ 2 ∷ (key_bytes (key_of a.slice) ++ sha256 a.slice)
  front_admitted a = of.prefix ∙ ap entry a.is ∙ admission_entry a.slice a.valid

  -- the tag of an entry tells what its record is
  pub admits_by_tag : IsRecord r → is_admission e ≡ true → Admits r
  admits_by_tag (inl a) h = a
  admits_by_tag (inr b) h = absurd (true≢false (sym h ∙ ap (λ (n : ℕ). eqb n 2) (tag_of e (retirement_record b.key b.digest) (front_retired b))))

  pub retires_by_tag : IsRecord r → eqb (get_or e 0 0) 1 ≡ true → Retires r
  retires_by_tag (inl a) h = absurd (true≢false (sym h
      ∙ ap (λ (n : ℕ). eqb n 1) (tag_of e (2 ∷ (key_bytes (key_of a.slice) ++ sha256 a.slice)) (front_admitted a))))
  retires_by_tag (inr b) h = b

  pub front_of_retirement : (b : Retires r) → take 57 e ≡ r
  front_of_retirement b = front_retired b ∙ sym b.is

-- the entry of an admission's record is that of its slice
kind_admitted : (b : Bool) (k : ℕ) → k ≡ cond b 1 0 → eqb k 1 ≡ b
kind_admitted true k e = ap (λ (n : ℕ). eqb n 1) e
kind_admitted false k e = ap (λ (n : ℕ). eqb n 1) e

pub of_slice : (text slice e : List ℕ) → IsValid slice → AreBytes slice → IsEntryOf text (admission_record slice) e → IsEntryOfSlice text slice e
of_slice text slice e valid bytes of = record {
  valid = valid;
  is_key = is_key_of slice valid bytes;
  prefix = of.prefix ∙ admission_entry slice valid;
  kind = kind_admitted (is_dsym_image slice) (get_or e 57 0) (of.kind ∙ ap (λ (s : List ℕ). cond (is_dsym_image s) 1 0) (slice_of slice valid));
  length_is = of.length_is ∙ length-admission_record slice valid;
  is = subst (λ (s : List ℕ). IsSliceOf text s e) (slice_of slice valid) (of.slice refl);
}

-- the slice of an admission, read back from its record
pub record_again : (r : List ℕ) (a : Admits r) → drop 33 r ≡ a.slice
record_again r a = ap (drop 33) a.is ∙ slice_of a.slice a.valid

-- ---- where records stand

-- a record that comes before another begins before it
less_before : (rs : List (List ℕ)) (i j : ℕ) → ((k : ℕ) → k < length rs → 0 < length (get_or rs k [])) → i < j
    → j < length rs → length (concat (take i rs)) < length (concat (take j rs))
less_before [] i j some lt within = absurd (omega (arith, within))
less_before (r ∷ rs) i zero some lt within = absurd (omega (arith, lt))
less_before (r ∷ rs) zero (suc j) some lt within = omega (arith, some 0 (omega arith), length-append r (concat (take j rs)))
less_before (r ∷ rs) (suc i) (suc j) some lt within =
    omega (
      arith,
      less_before rs i j (λ k h. some (suc k) (omega (arith, h))) (omega (arith, lt))
          (omega (arith, within)),
      length-append r (concat (take i rs)),
      length-append r (concat (take j rs)),
    )

below_all : (rs : List (List ℕ)) (i : ℕ) → length (concat (take i rs)) ≤ length (concat rs)
below_all rs zero = omega arith
below_all [] (suc i) = omega arith
below_all (r ∷ rs) (suc i) = omega (arith, below_all rs i, length-append r (concat (take i rs)), length-append r (concat rs))

-- ---- what an entry says

kind_there : (place at : ℕ) (r t : List ℕ) → IsRecord r → get_or (table_entry place at r t) 57 0 ≡ kind_byte r
unfolding table_entry
kind_there place at r t is = byte_kept (placed_entry place r) (claim_of at r t) (entry_long place r is) 57 (omega arith) ∙ kind_of place r is

-- a record that is tagged so is that of an admission
admits_record : (r : List ℕ) → IsRecord r → is_admission r ≡ true → Admits r
admits_record r (inl a) h = a
admits_record r (inr b) h = absurd (true≢false (sym h ∙ ap is_admission b.is))

-- an entry at its place among those of a content
pub record IsAt (o : Operations) (text e : List ℕ) (at : ℕ) : Type 0 where
  pub within : at < length (listing o)
  pub of : IsEntryOf text (get_or (listing o) at []) e
  pub place : offset_in e ≡ 8 + length (concat (take at (listing o)))

-- these are the entries of the records of a content
pub record AreEntriesOf (o : Operations) (text : List ℕ) (entries : List (List ℕ)) : Type 0 where
  pub content : IsContent o
  pub slices : (slice : List ℕ) → set.contains o (admission_record slice) ≡ true → AreBytes slice
  pub short : length text < 2 ^ 64
  pub record_of : (e : List ℕ) → Contains entries e → (at : ℕ) × IsAt o text e at
  pub entry_of : (at : ℕ) → at < length (listing o) → (e : List ℕ) × Contains entries e × IsAt o text e at
  pub same : (e f : List ℕ) (at : ℕ) → Contains entries e → Contains entries f → IsAt o text e at → IsAt o text f at → e ≡ f
  pub numbers : (i j : ℕ) → i < length entries → j < length entries → get_or entries i [] ≡ get_or entries j [] → i ≡ j

-- ---- in the index of a content

module _ (o : Operations) (content : IsContent o) where
  pub there : (at : ℕ) → at < length (listing o) → set.contains o (get_or (listing o) at []) ≡ true
  there at within = (members_listed o (get_or (listing o) at [])).0 (Contains-get_or (listing o) at [] within)

  pub record_there : (at : ℕ) → at < length (listing o) → IsRecord (get_or (listing o) at [])
  record_there at within = content.records (get_or (listing o) at []) (there at within)

  some_there : (at : ℕ) → at < length (listing o) → 0 < length (get_or (listing o) at [])
  some_there at within = nonempty (get_or (listing o) at []) (record_there at within)

  -- entries stand in the order of their records
  pub in_turn : (text e f : List ℕ) (i j : ℕ) → IsAt o text e i → IsAt o text f j → offset_in e ≤ offset_in f → (i ≡ j)
      ⊎ (order (get_or (listing o) i []) (get_or (listing o) j []) ≡ Less)
  in_turn text e f i j is_e is_f le = elim (cases_order i j) [
    | inl same ↦ inl same
    | inr apart ↦ elim apart [
      | inl lt ↦ inr (Less-from_sorted order (listing o) i j [] (listed nat_list_cmp_total bytes_same o).ascending lt is_f.within)
      | inr gt ↦ absurd (omega (arith, less_before (listing o) j i some_there gt is_e.within, is_e.place, is_f.place, le))
    ]
  ]

  -- an entry has one place
  pub one_place : (text e : List ℕ) (i j : ℕ) → IsAt o text e i → IsAt o text e j → i ≡ j
  one_place text e i j is also = elim (cases_order i j) [
    | inl same ↦ same
    | inr apart ↦ elim apart [
      | inl lt ↦ absurd (omega (arith, less_before (listing o) i j some_there lt also.within, is.place, also.place))
      | inr gt ↦ absurd (omega (arith, less_before (listing o) j i some_there gt is.within, is.place, also.place))
    ]
  ]

module _ (o : Operations) (text : List ℕ) (file : IsIndexFile o text) where
  abbrev rs : List (List ℕ)
  rs = listing o

  abbrev ts : List (List ℕ)
  ts = file.index.tables

  abbrev es : List (List ℕ)
  es = table_entries 8 8 rs ts

  module _ (i : ℕ) (within : i < length rs) where
    abbrev r : List ℕ
    r = get_or rs i []

    abbrev t : List ℕ
    t = get_or ts i []

    abbrev before : ℕ
    before = 8 + length (concat (take i rs))

    abbrev at : ℕ
    at = 8 + length (tables_text (take i ts))

    is_record : IsRecord r
    is_record = record_there o file.content i within

    near : before < 2 ^ 64
    near = omega (arith, below_all rs i, text_length o, file.archive_fits)

    slice_stored : Admits r → is_admission r ≡ true → IsSliceOf text (drop 33 r) (table_entry before at r t)
    slice_stored a admitted =
        let e : List ℕ = table_entry before at r t in
        let back : drop 33 r ≡ a.slice = record_again r a in
        let has : set.contains o (admission_record a.slice) ≡ true = ap (λ (x : List ℕ). set.contains o x) (sym a.is) ∙ there o file.content i within in
        record {
          bytes = subst AreBytes (sym back) (file.slices a.slice has);
          digest_is =
              digest_of e (key_bytes (key_of a.slice)) (sha256 a.slice) (length-key_of a.slice a.valid)
              (entry_begins before at r t is_record ∙ ap entry a.is ∙ admission_entry a.slice a.valid) ∙ ap sha256 (sym back);
          table = t;
          is_table = (is_table o text file.index i within).admitted admitted;
          stored = claim_stored o text file.index i within before is_record admitted file.index_fits;
        }

    entry_here : IsEntryOf text r (table_entry before at r t)
    entry_here = record {
      prefix = entry_begins before at r t is_record;
      kind = kind_there before at r t is_record;
      length_is = entry_length before at r t is_record;
      slice = λ admitted. slice_stored (admits_record r is_record admitted) admitted;
    }

    is_at : IsAt o text (get_or es i []) i
    is_at = subst (λ (e : List ℕ). IsAt o text e i) (sym (entry_at 8 8 rs ts i file.index.each within)) (record {
      within = within;
      of = entry_here;
      place = entry_offset before at r t is_record near;
    })

  module _ (entries : List (List ℕ)) (read : IsIndexText text entries) where
    entries_are : entries ≡ entries_of rs ts
    entries_are = one_list text entries (entries_of rs ts) read (accepted o text file.index file.content file.archive_fits file.index_fits)

    in_entries : (e : List ℕ) → Contains entries e ↔ Contains es e
    unfolding entries_of
    in_entries e = (
      λ h. (in_order nat_list_cmp_total bytes_same es e).0 (subst (λ (xs : List (List ℕ)). Contains xs e) entries_are h),
      λ h. subst (λ (xs : List (List ℕ)). Contains xs e) (sym entries_are) ((in_order nat_list_cmp_total bytes_same es e).1 h),
    )

    many : length es ≡ length rs
    many = length-table_entries 8 8 rs ts file.index.each

    -- an entry stands somewhere
    found : (e : List ℕ) → Contains entries e → (i : ℕ) × (i < length rs) × (get_or es i [] ≡ e)
    found e h = let c = (in_entries e).0 h in (c.0, omega (arith, c.1, many), get_or_default es c.0 [] e c.1 ∙ c.2)

    found_at : (e : List ℕ) (i : ℕ) → i < length rs → get_or es i [] ≡ e → IsAt o text e i
    found_at e i within here = subst (λ (x : List ℕ). IsAt o text x i) here (is_at i within)

    same_at : (e : List ℕ) (i : ℕ) → Contains entries e → IsAt o text e i → get_or es i [] ≡ e
    same_at e i c is =
        let f = found e c in
        ap (λ (k : ℕ). get_or es k []) (one_place o file.content text e i f.0 is (found_at e f.0 f.1 f.2)) ∙ f.2

    sorted : IsStrictlySortedBy order entries
    unfolding entries_of
    sorted = subst (IsStrictlySortedBy order) (sym entries_are) (listed nat_list_cmp_total bytes_same (set.from_list es)).ascending

    apart : (i j : ℕ) → i < j → j < length entries → get_or entries i [] ≡ get_or entries j [] → ⊥
    apart i j lt within same =
        let less = Less-from_sorted order entries i j [] sorted lt within in
        cc (tied_itself nat_list_cmp_total (get_or entries j []), less, ap (λ (x : List ℕ). order x (get_or entries j [])) same)

    pub of_index : AreEntriesOf o text entries
    of_index = record {
      content = file.content;
      slices = file.slices;
      short = file.index_fits;
      record_of = λ e c. let f = found e c in (f.0, found_at e f.0 f.1 f.2);
      entry_of = λ i within. (get_or es i [], (in_entries (get_or es i [])).1 (Contains-get_or es i [] (omega (arith, many, within))), is_at i within);
      same = λ e f i c d is also. sym (same_at e i c is) ∙ same_at f i d also;
      numbers = λ i j a b same. elim (cases_order i j) [
        | inl e ↦ e
        | inr other ↦ elim other [
          | inl lt ↦ absurd (apart i j lt b same)
          | inr gt ↦ absurd (apart j i gt a (sym same))
        ]
      ];
    }
