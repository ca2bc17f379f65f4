-- What is told of a name, archive after archive.
use Rattle.std.proofs.Common.{◌≡◌, ◌↔◌, ◌⊎◌, ℕ, Bool, true, false, not, ◌==◌, List, [], ◌∷◌, ◌++◌, map, append_assoc, refl, sym, ap, ◌∙◌, subst, inl, inr}
use Rattle.std.specs.List.{Contains, filter}
use Rattle.std.specs.FinSet as set
use Rattle.std.proofs.lemmas.Bool.{not-true}
use Rattle.std.proofs.lemmas.List.{append-nil}
use Rattle.std.proofs.lemmas.List.Elements.{filter-append, Contains-append_cases, Contains-append_left, Contains-append_right}
use Rattle.archive_core.specs.Content.{Operations, IsContent, is_admission}
use Rattle.archive_core.specs.Names.{NameRecord, owned_name_view}
use Rattle.archive_core.specs.Record.{Admits, Retires, retirement_record}
use Rattle.archive_core.specs.Summary.{entry}
use Rattle.archive_core.specs.declared.names.OwnedNameRow.{OwnedNameRow}
use Rattle.archive_core.proofs.Entries.{retirement_entry}
use Rattle.archive_core.proofs.Members.{in_filter, in_map, to_filter, to_map}
use Rattle.archive_records.specs.Entry.{entry_bytes}
use Rattle.archive_records.proofs.Apart.{from_set, in_set}
use Rattle.archive_records.proofs.Forms.{tag-retirement}
use Rattle.archive_from_records.specs.InnerNames.{names_among, names_of, retirements_among}
use Rattle.archive_from_records.specs.Names.{AddsNames}
use Rattle.archive_from_records.specs.declared.names.NamesFound.{NamesFound}
use Rattle.archive_from_records.proofs.Questioned.{admission_is}
use Rattle.archive_from_records.proofs.Sought.{names_more, names_retired, names_start, names_told}

-- ---- one record more

retirement_is : (r : List ℕ) → Retires r → is_admission r ≡ false
retirement_is r t = ap (λ (tag : ℕ). tag == 2) (tag-retirement r t)

-- the record of a retirement is its own entry
pub own_entry : (r : List ℕ) → Retires r → entry r ≡ r
own_entry r t = ap entry t.is ∙ retirement_entry t.key t.digest ∙ sym t.is

pub retired_more : (records : List (List ℕ)) (r e : List ℕ) (start before after : List (List ℕ)) → Retires r → e
    ≡ entry r → after ≡ before ++ e ∷ [] → before ≡ start ++ retirements_among records → after ≡ start
    ++ retirements_among (records ++ r ∷ [])
unfolding retirements_among
retired_more records r e start before after t is grown are =
    rw (
      grown,
      are,
      is,
      own_entry r t,
      filter-append (λ (x : List ℕ). not (is_admission x)) records (r ∷ []),
      retirement_is r t,
    ) (append_assoc start (retirements_among records) (r ∷ []))

pub admitted_more : (records : List (List ℕ)) (r : List ℕ) (start before : List (List ℕ)) → Admits r → before ≡ start
    ++ retirements_among records → before ≡ start ++ retirements_among (records ++ r ∷ [])
unfolding retirements_among
admitted_more records r start before a are =
    rw (filter-append (λ (x : List ℕ). not (is_admission x)) records (r ∷ []), admission_is r a, append-nil (retirements_among records)) are

-- the rows after those of the start
pub rows_more : (name : List ℕ) (records : List (List ℕ)) (r : List ℕ) (start before after : List NameRecord) → after
    ≡ before ++ names_of name r → before ≡ start ++ names_among name records → after ≡ start
    ++ names_among name (records ++ r ∷ [])
rows_more name records r start before after grown are =
    rw (grown, are, ← names_more name records r _ _ refl refl) (append_assoc start (names_among name records) (names_of name r))

pub rows_same : (name : List ℕ) (records : List (List ℕ)) (r : List ℕ) (start before : List NameRecord) → Retires r
    → before ≡ start ++ names_among name records → before ≡ start ++ names_among name (records ++ r ∷ [])
rows_same name records r start before t are =
    rows_more name records r start before before (rw (names_retired name r t) (sym (append-nil before))) are

pub start_rows : (name : List ℕ) (start : List NameRecord) → start ≡ start ++ names_among name []
start_rows name start = rw (← names_start name) (sym (append-nil start))

pub start_retired : (start : List (List ℕ)) → start ≡ start ++ retirements_among []
unfolding retirements_among
start_retired start = sym (append-nil start)

-- ---- all records

-- what stands in two lists, one after the other
beside : {A : Type 0} (P : A → Type 0) (all old more : List A) → all ≡ old ++ more → ((a : A) → Contains more a ↔ P a)
    → (a : A) → Contains all a ↔ (Contains old a ⊎ P a)
beside P all old more is told a = (to, back)
  where
    to : Contains all a → Contains old a ⊎ P a
    to there = elim (Contains-append_cases old more a (rw is at there)) [
      | inl before ↦ inl before
      | inr among ↦ inr ((told a).0 among)
    ]

    back : Contains old a ⊎ P a → Contains all a
    back (inl before) = rw is (Contains-append_left old more a before)
    back (inr one) = rw is (Contains-append_right old more a ((told a).1 one))

module _ (o : Operations) (records : List (List ℕ)) (content : IsContent o) (is : o ≡ set.from_list records) where
  among_to : (r : List ℕ) → Contains (retirements_among records) r → (set.contains o r ≡ true) × (is_admission r ≡ false)
  unfolding retirements_among
  among_to r there =
      let one = in_filter (λ (x : List ℕ). not (is_admission x)) records r there in
      (ap (λ (s : Operations). set.contains s r) is ∙ in_set records r one.0, not-true (is_admission r) one.1)

  among_back : (r : List ℕ) → (set.contains o r ≡ true) × (is_admission r ≡ false) → Contains (retirements_among records) r
  unfolding retirements_among
  among_back r there =
      to_filter (λ (x : List ℕ). not (is_admission x)) records r
      (from_set records r (ap (λ (s : Operations). set.contains s r) (sym is) ∙ there.0)) (ap not there.1)

  module _ (name other : List ℕ) (old new : NamesFound)
      (rows_are : map owned_name_view new.told.rows.items ≡ map owned_name_view old.told.rows.items ++ names_among name records)
      (others_are : map owned_name_view new.told.others.items ≡ map owned_name_view old.told.others.items ++ names_among other records)
      (retired_are : map entry_bytes new.retired.items ≡ map entry_bytes old.retired.items ++ retirements_among records) where
    pub names_added : AddsNames o name other old new
    names_added = record {
      rows = beside _ _ _ _ rows_are (names_told o name records content is);
      others = beside _ _ _ _ others_are (names_told o other records content is);
      retired = beside _ _ _ _ retired_are (λ r. (among_to r, among_back r));
    }

-- ---- the rows that are live

module _ (retired : Operations) (old kept new : List OwnedNameRow)
    (filtered : kept ≡ filter (λ (row : OwnedNameRow). not
    (set.contains retired (retirement_record row.key row.digest.0))) old)
    (same : (row : NameRecord) → Contains (map owned_name_view new) row ↔ Contains (map owned_name_view kept) row) where
  abbrev is_live : OwnedNameRow → Bool
  is_live row = not (set.contains retired (retirement_record row.key row.digest.0))

  live_to : (row : NameRecord) → Contains (map owned_name_view new) row → Contains (map owned_name_view old) row
      × (set.contains retired (retirement_record row.key row.digest) ≡ false)
  live_to row there =
      let one = in_map owned_name_view kept row ((same row).0 there) in
      let passed = in_filter is_live old one.0 (subst (λ (l : List OwnedNameRow). Contains l one.0) filtered one.1) in (
        subst (Contains (map owned_name_view old)) (sym one.2) (to_map owned_name_view old one.0 passed.0),
        ap (λ (r : NameRecord). set.contains retired (retirement_record r.key r.digest)) one.2
            ∙ not-true (set.contains retired (retirement_record one.0.key one.0.digest.0)) passed.1,
      )

  live_back : (row : NameRecord) → Contains (map owned_name_view old) row
      × (set.contains retired (retirement_record row.key row.digest) ≡ false) → Contains (map owned_name_view new) row
  live_back row there =
      let one = in_map owned_name_view old row there.0 in
      let passes : is_live one.0 ≡ true = ap not (ap (λ (r : NameRecord). set.contains retired (retirement_record r.key r.digest)) (sym one.2) ∙ there.1) in
      let passed = subst (λ (l : List OwnedNameRow). Contains l one.0) (sym filtered) (to_filter is_live old one.0 one.1 passes) in
      (same row).1 (subst (Contains (map owned_name_view kept)) (sym one.2) (to_map owned_name_view kept one.0 passed))

  pub live_kept : (row : NameRecord) → Contains (map owned_name_view new) row
      ↔ (Contains (map owned_name_view old) row × (set.contains retired (retirement_record row.key row.digest) ≡ false))
  live_kept row = (live_to row, live_back row)
