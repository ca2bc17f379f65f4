-- Entries of several indexes, and the slices that answer by them.
use Rattle.std.proofs.Common.{◌≡◌, ◌↔◌, ℕ, zero, suc, ◌<◌, true, false, ◌||◌, ◌&&◌, not, eqb, List, [], ◌∷◌, ◌++◌}
use Rattle.std.proofs.Common.{length, take, drop, get_or, refl, sym, ap, ◌∙◌}
use Rattle.std.proofs.Common.{subst, inl, inr, arith, Some, slice_get}
use Rattle.std.specs.List.{AllByRecursion, AllZip, Contains, list_any}
use Rattle.std.specs.Str.{bytes_eq}
use Rattle.std.specs.FinSet as set
use Rattle.std.proofs.lemmas.Bool.{and_from, and_parts, cases_Bool, false_from_ne_true, not-true, not_from_false, or_cases, or_left, or_right, true≢false}
use Rattle.std.proofs.lemmas.List.{get_or_default}
use Rattle.std.proofs.lemmas.Option.{get_or_from_slice_get, slice_get-get_or, slice_get_within}
use Rattle.std.proofs.lemmas.Slice.Eq.{bytes_eq-Decides}
use Rattle.std.proofs.lemmas.Slice.Zip.{AllZip-long}
use Rattle.sha2.specs.Sha256.{sha256}
use Rattle.macho_image.specs.Contents.{is_dsym_image}
use Rattle.join_core.specs.Listing.{listing}
use Rattle.archive_core.specs.Content.{IsAnswering, IsContent, IsLive, Operations, is_admission}
use Rattle.archive_core.specs.Key.{IsKey, key_bytes}
use Rattle.archive_core.specs.Part.{is_under}
use Rattle.archive_core.specs.Record.{Admits, IsRecord, Retires, admission_record, retirement_record}
use Rattle.archive_core.specs.Valid.{IsValid, key_of}
use Rattle.archive_core.specs.declared.keys.SliceKey.{SliceKey}
use Rattle.archive_core.proofs.Answering.{live_is_valid}
use Rattle.archive_core.proofs.Compare.{length_key_bytes}
use Rattle.archive_core.proofs.Entries.{retirement_entry}
use Rattle.archive_core.proofs.Members.{in_flat_map, to_flat_map}
use Rattle.archive_core.proofs.Records.{length-key_of, one_key as same_key}
use Rattle.archive_records.proofs.Contents.{members_listed}
use Rattle.index_format.specs.Text.{IsIndexText}
use Rattle.index_lookup.specs.Among.{EntryAt, IsAmong, all_of, answers_among, covers, has_live_companion, lives_under}
use Rattle.index_lookup.specs.Told.{admits_under, is_companion}
use Rattle.laws_index.specs.Indexes.{AreIndexes, IsHeld, IsIndexFile, all_joined}
use Rattle.laws_index.proofs.Joined.{all_content, any_of, free_if_live, has_any, live_in_all, there_if_live, to_any}
use Rattle.laws_index.proofs.OfContent.{AreEntriesOf, IsAt, of_index, there as there_at, IsEntryOf, IsEntryOfSlice, admits_by_tag, front_of_retirement, key_in}
use Rattle.laws_index.proofs.OfContent.{of_slice, rest_of, retires_by_tag, tag_of}

-- ---- an entry and its key

-- an entry is under a key if its slice is
under_key : (text slice e : List ℕ) → IsEntryOfSlice text slice e → (key : SliceKey) → IsKey key → (is_under (key_bytes key) e ≡ true) ↔ (key_of slice ≡ key)
unfolding is_under
under_key text slice e is key is_key =
    let front : take (length (key_bytes key)) (drop 1 e) ≡ key_bytes (key_of slice) =
    ap (λ (n : ℕ). take n (drop 1 e)) (length_key_bytes key is_key.uuid)
    ∙ key_in e (key_bytes (key_of slice)) (sha256 slice) (length-key_of slice is.valid) is.prefix in
    let same = bytes_eq-Decides (key_bytes key) (take (length (key_bytes key)) (drop 1 e)) in
    (λ h. sym (same_key key (key_of slice) is_key is.is_key (same.0 h ∙ front)), λ under. same.1 (ap key_bytes (sym under) ∙ sym front))

-- ---- contents, texts and entries at one place

-- at this place stand a content, its index and the entries of that
pub record IsFileAt (os : List Operations) (texts : List (List ℕ)) (indexes : List (List (List ℕ))) (i : ℕ)
    (o : Operations) (text : List ℕ) (entries : List (List ℕ)) : Type 0 where
  pub content_at : slice_get os i ≡ Some o
  pub text_at : slice_get texts i ≡ Some text
  pub index_at : slice_get indexes i ≡ Some entries
  pub are : AreEntriesOf o text entries

file_at : (os : List Operations) (texts : List (List ℕ)) (indexes : List (List (List ℕ))) (i : ℕ) → AllZip IsIndexFile os texts
    → AllZip IsIndexText texts indexes → i < length os
    → (o : Operations) × (text : List ℕ) × (entries : List (List ℕ)) × IsFileAt os texts indexes i o text entries
file_at [] texts indexes i a b lt = absurd (omega (arith, lt))
file_at (o ∷ os) [] indexes i a b lt = absurd a
file_at (o ∷ os) (t ∷ texts) [] i a b lt = absurd b
file_at (o ∷ os) (t ∷ texts) (es ∷ indexes) zero a b lt =
    (o, t, es, record { content_at = refl; text_at = refl; index_at = refl; are = of_index o t a.0 es b.0 })
file_at (o ∷ os) (t ∷ texts) (es ∷ indexes) (suc i) a b lt =
    let f = file_at os texts indexes i a.1 b.1 (omega (arith, lt)) in
    (f.0, f.1, f.2, record { content_at = f.3.content_at; text_at = f.3.text_at; index_at = f.3.index_at; are = f.3.are })

contents_of : (os : List Operations) (texts : List (List ℕ)) → AllZip IsIndexFile os texts → AllByRecursion IsContent os
contents_of [] texts a = tt
contents_of (o ∷ os) [] a = absurd a
contents_of (o ∷ os) (t ∷ texts) a = (a.0.content, contents_of os texts a.1)

-- what stands at a place is among all
pub listed_at : {X : Type 0} (xs : List X) (i : ℕ) (x : X) → slice_get xs i ≡ Some x → Contains xs x
listed_at xs i x h = (i, slice_get_within xs i x h, get_or_from_slice_get xs i x x h)

at_list : {X : Type 0} (xs : List X) (x : X) (c : Contains xs x) → slice_get xs c.0 ≡ Some x
at_list xs x c = slice_get-get_or xs c.0 x c.1 ∙ ap Some c.2

-- ---- an entry and its record

-- an entry of one of the indexes is that of a record of the content of this
pub record IsRecordOf (os : List Operations) (texts : List (List ℕ)) (indexes : List (List (List ℕ))) (x : EntryAt) (r : List ℕ) : Type 0 where
  pub o : Operations
  pub text : List ℕ
  pub entries : List (List ℕ)
  pub place : ℕ
  pub file : IsFileAt os texts indexes x.input o text entries
  pub entry_at : slice_get entries x.number ≡ Some x.entry
  pub is : IsAt o text x.entry place
  pub record_is : get_or (listing o) place [] ≡ r

-- the entry is that of a slice
pub record IsOfSlice (os : List Operations) (texts : List (List ℕ)) (indexes : List (List (List ℕ))) (x : EntryAt) (slice : List ℕ) : Type 0 where
  pub of : IsRecordOf os texts indexes x (admission_record slice)
  pub is : IsEntryOfSlice of.text slice x.entry

module _ (os : List Operations) (texts : List (List ℕ)) (indexes : List (List (List ℕ))) where
  -- of a record and its entry
  module _ (x : EntryAt) (r : List ℕ) (of : IsRecordOf os texts indexes x r) where
    pub held : set.contains of.o r ≡ true
    held = ap (λ (s : List ℕ). set.contains of.o s) (sym of.record_is) ∙ there_at of.o of.file.are.content of.place of.is.within

    pub entry_of : IsEntryOf of.text r x.entry
    entry_of = subst (λ (s : List ℕ). IsEntryOf of.text s x.entry) of.record_is of.is.of

    is_record : IsRecord r
    is_record = of.file.are.content.records r held

    pub has_held : has_any os r ≡ true
    has_held = to_any (λ o. set.contains o r) os of.o (listed_at os x.input of.o of.file.content_at) held

  pub is_held : (x : EntryAt) (slice : List ℕ) → IsOfSlice os texts indexes x slice → IsHeld os slice
  is_held x slice of = (of.of.o, listed_at os x.input of.of.o of.of.file.content_at, held x (admission_record slice) of.of)

  pub of_record : (x : EntryAt) (slice : List ℕ) → IsValid slice → IsRecordOf os texts indexes x (admission_record slice) → IsOfSlice os texts indexes x slice
  of_record x slice valid of = record {
    of = of;
    is = of_slice of.text slice x.entry valid (of.file.are.slices slice (held x (admission_record slice) of)) (entry_of x (admission_record slice) of);
  }

  -- an entry is among all
  pub to_all : (x : EntryAt) → IsAmong indexes x → Contains (all_of indexes) x.entry
  to_all x among = to_flat_map (λ (es : List (List ℕ)). es) indexes among.entries x.entry
      (listed_at indexes x.input among.entries among.index_is) (listed_at among.entries x.number x.entry among.entry_is)

  pub from_all : (e : List ℕ) → Contains (all_of indexes) e → (x : EntryAt) × IsAmong indexes x × (x.entry ≡ e)
  from_all e c =
      let f = in_flat_map (λ (es : List (List ℕ)). es) indexes e c in
      let x : EntryAt = record { input = f.1.0; number = f.2.0; entry = e } in
      (x, record { entries = f.0; index_is = at_list indexes f.0 f.1; entry_is = at_list f.0 e f.2 }, refl)

  module _ (all : AreIndexes os texts indexes) where
    -- each entry has its record
    pub find : (x : EntryAt) → IsAmong indexes x → (r : List ℕ) × IsRecordOf os texts indexes x r
    find x among =
        let lt : x.input < length indexes = slice_get_within indexes x.input among.entries among.index_is in
        let long : length indexes ≡ length os = AllZip-long IsIndexText texts indexes all.read ∙ AllZip-long IsIndexFile os texts all.files in
        let f = file_at os texts indexes x.input all.files all.read (omega (arith, lt, long)) in
        let same : among.entries ≡ f.2 = cc (among.index_is, f.3.index_at) in
        let there : slice_get f.2 x.number ≡ Some x.entry = subst (λ (es : List (List ℕ)). slice_get es x.number ≡ Some x.entry) same among.entry_is in
        let a = f.3.are.record_of x.entry (listed_at f.2 x.number x.entry there) in (
          get_or (listing f.0) a.0 [],
          record { o = f.0; text = f.1; entries = f.2; place = a.0; file = f.3; entry_at = there; is = a.1; record_is = refl },
        )

    pub slice_of_entry : (x : EntryAt) → IsAmong indexes x → is_admission x.entry ≡ true → (slice : List ℕ) × IsOfSlice os texts indexes x slice
    slice_of_entry x among h =
        let r = find x among in
        let a : Admits r.0 = admits_by_tag r.1.text r.0 x.entry (entry_of x r.0 r.1) (is_record x r.0 r.1) h in
        (a.slice, of_record x a.slice a.valid (subst (IsRecordOf os texts indexes x) a.is r.1))

    -- and each record an entry
    pub entry_for : (r : List ℕ) → has_any os r ≡ true → (x : EntryAt) × IsAmong indexes x × IsRecordOf os texts indexes x r
    entry_for r h =
        let g = any_of (λ o. set.contains o r) os h in
        let f = file_at os texts indexes g.1.0 all.files all.read g.1.1 in
        let same : g.0 ≡ f.0 = cc (at_list os g.0 g.1, f.3.content_at) in
        let c = (members_listed f.0 r).1 (subst (λ o. set.contains o r ≡ true) same g.2) in
        let e = f.3.are.entry_of c.0 c.1 in
        let x : EntryAt = record { input = g.1.0; number = e.1.0; entry = e.0 } in
        let there : slice_get f.2 e.1.0 ≡ Some e.0 = at_list f.2 e.0 e.1 in
        let its : get_or (listing f.0) c.0 [] ≡ r = get_or_default (listing f.0) c.0 [] r c.1 ∙ c.2 in (
          x,
          record { entries = f.2; index_is = f.3.index_at; entry_is = there },
          record { o = f.0; text = f.1; entries = f.2; place = c.0; file = f.3; entry_at = there; is = e.2; record_is = its },
        )

    pub content : IsContent (all_joined os)
    content = all_content os (contents_of os texts all.files)

    -- ---- retirements

    -- an entry covers that of a slice: it is of the retirement
    retired_by : (text slice e f : List ℕ) → IsEntryOfSlice text slice e → Contains (all_of indexes) f → covers e f
        ≡ true → has_any os (retirement_record (key_of slice) (sha256 slice)) ≡ true
    retired_by text slice e f is c h =
        let parts = and_parts (eqb (get_or f 0 0) 1) (bytes_eq (take 56 (drop 1 f)) (take 56 (drop 1 e))) h in
        let y = from_all f c in
        let s = find y.0 y.1 in
        let prefix : IsEntryOf s.1.text s.0 f = subst (λ (g : List ℕ). IsEntryOf s.1.text s.0 g) y.2 (entry_of y.0 s.0 s.1) in
        let b : Retires s.0 = retires_by_tag s.1.text s.0 f prefix (is_record y.0 s.0 s.1) parts.0 in
        let same : take 56 (drop 1 f) ≡ take 56 (drop 1 e) = (bytes_eq-Decides (take 56 (drop 1 f)) (take 56 (drop 1 e))).0 parts.1 in
        let pair : List ℕ = key_bytes (key_of slice) ++ sha256 slice in
        let here : take 56 (drop 1 f) ≡ drop 1 s.0 = rest_of f s.0 (front_of_retirement s.1.text s.0 f prefix b) in
        let there : take 56 (drop 1 e) ≡ pair = rest_of e (2 ∷ pair) is.prefix in
        let rest : drop 1 s.0 ≡ pair = cc (here, there, same) in
        let whole : s.0 ≡ 1 ∷ pair = b.is ∙ ap (λ (l : List ℕ). 1 ∷ l) (sym (ap (drop 1) b.is) ∙ rest) in
        ap (has_any os) (sym whole) ∙ has_held y.0 s.0 s.1

    covered_by : (text slice e : List ℕ) → IsEntryOfSlice text slice e
        → has_any os (retirement_record (key_of slice) (sha256 slice)) ≡ true → list_any (covers e) (all_of indexes)
        ≡ true
    covered_by text slice e is h =
        let r : List ℕ = retirement_record (key_of slice) (sha256 slice) in
        let y = entry_for r h in
        let f : List ℕ = y.0.entry in
        let prefix : take 57 f ≡ r = (entry_of y.0 r y.2).prefix ∙ retirement_entry (key_of slice) (sha256 slice) in
        let same : take 56 (drop 1 f) ≡ take 56 (drop 1 e) = rest_of f r prefix ∙ sym (rest_of e (2 ∷ (key_bytes (key_of slice) ++ sha256 slice)) is.prefix) in
        to_any (covers e) (all_of indexes) f (to_all y.0 y.1) (and_from (eqb (get_or f 0 0) 1) (bytes_eq (take 56 (drop 1 f)) (take 56 (drop 1 e)))
        (ap (λ (n : ℕ). eqb n 1) (tag_of f r prefix)) ((bytes_eq-Decides (take 56 (drop 1 f)) (take 56 (drop 1 e))).1 same))

    module _ (key : SliceKey) (is_key : IsKey key) where
      abbrev prefix : List ℕ
      prefix = key_bytes key

      abbrev every : List (List ℕ)
      every = all_of indexes

      -- ---- what is live

      pub lives_if : (x : EntryAt) (slice : List ℕ) → IsOfSlice os texts indexes x slice
          → lives_under prefix every x.entry ≡ true → IsLive (all_joined os) key slice
      lives_if x slice of h =
          let parts = and_parts (admits_under prefix x.entry) (not (list_any (covers x.entry) every)) h in
          let under : key_of slice ≡ key = (under_key of.of.text slice x.entry of.is key is_key).0
          (and_parts (is_admission x.entry) (is_under prefix x.entry) parts.0).1 in
          let none : list_any (covers x.entry) every ≡ false = not-true (list_any (covers x.entry) every) parts.1 in
          let free : has_any os (retirement_record (key_of slice) (sha256 slice))
          ≡ false = false_from_ne_true (has_any os (retirement_record (key_of slice) (sha256 slice))) (λ there.
          true≢false (sym (covered_by of.of.text slice x.entry of.is there) ∙ none)) in
          live_in_all os key slice of.is.valid under (has_held x (admission_record slice) of.of)
          (ap (λ k. has_any os (retirement_record k (sha256 slice))) (sym under) ∙ free)

      pub lives_then : (x : EntryAt) (slice : List ℕ) → IsOfSlice os texts indexes x slice
          → IsLive (all_joined os) key slice → lives_under prefix every x.entry ≡ true
      lives_then x slice of live =
          let tag : is_admission x.entry ≡ true = ap (λ (n : ℕ). eqb n 2) (tag_of x.entry (2 ∷ (key_bytes (key_of slice) ++ sha256 slice)) of.is.prefix) in
          let under : is_under prefix x.entry ≡ true = (under_key of.of.text slice x.entry of.is key is_key).1 live.under in
          let free : has_any os (retirement_record (key_of slice) (sha256 slice))
          ≡ false = ap (λ k. has_any os (retirement_record k (sha256 slice))) live.under
          ∙ free_if_live os key slice live in
          let none : list_any (covers x.entry) every ≡ false = false_from_ne_true (list_any (covers x.entry) every) (λ there.
          let f = any_of (covers x.entry) every there in
          true≢false (sym (retired_by of.of.text slice x.entry f.0 of.is f.1 f.2) ∙ free)) in
          and_from (admits_under prefix x.entry) (not (list_any (covers x.entry) every))
          (and_from (is_admission x.entry) (is_under prefix x.entry) tag under)
          (not_from_false (list_any (covers x.entry) every) none)

      pub admission_if : (x : EntryAt) → lives_under prefix every x.entry ≡ true → is_admission x.entry ≡ true
      admission_if x h = (and_parts (is_admission x.entry) (is_under prefix x.entry)
          (and_parts (admits_under prefix x.entry) (not (list_any (covers x.entry) every)) h).0).0

      -- a live slice has an entry
      pub entry_if_live : (slice : List ℕ) → IsLive (all_joined os) key slice → (x : EntryAt) × IsAmong indexes x × IsOfSlice os texts indexes x slice
      entry_if_live slice live =
          let x = entry_for (admission_record slice) (there_if_live os key slice live) in
          (x.0, x.1, of_record x.0 slice (live_is_valid (all_joined os) key slice content is_key live) x.2)

      -- ---- companions

      companion_if : has_live_companion prefix every ≡ true → (slice : List ℕ) × IsLive (all_joined os) key slice × (is_dsym_image slice ≡ true)
      companion_if h =
          let f = any_of (λ (e : List ℕ). lives_under prefix every e && is_companion e) every h in
          let x = from_all f.0 f.1 in
          let parts = and_parts (lives_under prefix every x.0.entry) (is_companion x.0.entry)
          (ap (λ (e : List ℕ). lives_under prefix every e && is_companion e) x.2 ∙ f.2) in
          let s = slice_of_entry x.0 x.1 (admission_if x.0 parts.0) in
          (s.0, lives_if x.0 s.0 s.1 parts.0, sym s.1.is.kind ∙ parts.1)

      companion_then : (slice : List ℕ) → IsLive (all_joined os) key slice → is_dsym_image slice ≡ true → has_live_companion prefix every ≡ true
      companion_then slice live dsym =
          let x = entry_if_live slice live in
          to_any (λ (e : List ℕ). lives_under prefix every e && is_companion e) every x.0.entry (to_all x.0 x.1)
          (and_from (lives_under prefix every x.0.entry) (is_companion x.0.entry) (lives_then x.0 slice x.2 live) (x.2.is.kind ∙ dsym))

      -- ---- what answers

      pub answers_if : (x : EntryAt) (slice : List ℕ) → IsOfSlice os texts indexes x slice
          → answers_among prefix every x.entry ≡ true → IsAnswering (all_joined os) key slice
      answers_if x slice of h =
          let parts = and_parts (lives_under prefix every x.entry) (not (has_live_companion prefix every) || is_companion x.entry) h in
          record {
            live = lives_if x slice of parts.0;
            companions_first = λ companion live dsym. elim (or_cases (not (has_live_companion prefix every)) (is_companion x.entry) parts.1) [
              | inl none ↦ absurd (true≢false (sym (companion_then companion live dsym) ∙ not-true (has_live_companion prefix every) none))
              | inr is ↦ sym of.is.kind ∙ is
            ];
          }

      pub answers_then : (x : EntryAt) (slice : List ℕ) → IsOfSlice os texts indexes x slice
          → IsAnswering (all_joined os) key slice → answers_among prefix every x.entry ≡ true
      answers_then x slice of answers =
          let first : (not (has_live_companion prefix every) || is_companion x.entry) ≡ true = elim (cases_Bool (has_live_companion prefix every)) [
            | inl some ↦
                let c = companion_if some in
                or_right (not (has_live_companion prefix every)) (is_companion x.entry) (of.is.kind ∙ answers.companions_first c.0 c.1 c.2)
            | inr none ↦ or_left (not (has_live_companion prefix every)) (is_companion x.entry) (not_from_false (has_live_companion prefix every) none)
          ] in
          and_from (lives_under prefix every x.entry) (not (has_live_companion prefix every) || is_companion x.entry) (lives_then x slice of answers.live) first
