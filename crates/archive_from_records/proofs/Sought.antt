-- The rows of a name, told record by record.
use Rattle.std.proofs.Common.{◌≡◌, ◌↔◌, ℕ, Bool, true, false, cond, ◌==◌, List, [], ◌∷◌, ◌++◌, length, map, drop, refl, sym, ap, ◌∙◌, subst, arith, inl, inr}
use Rattle.std.specs.Ordering.{on, eq_by_cmp}
use Rattle.std.specs.declared.cmp.Ordering.TheVariants.{Equal}
use Rattle.std.specs.Cmp.{IsTotalOrder, Equal-is, on_total}
use Rattle.std.specs.List.{Contains, dedup}
use Rattle.std.specs.List.Sorted.{IsSorted, IsStrictlySortedBy, IsPermutation}
use Rattle.std.specs.FinSet as set
use Rattle.std.proofs.lemmas.Bool.{ltb-false}
use Rattle.std.proofs.lemmas.Cmp.{eq_by_cmp_equiv}
use Rattle.std.proofs.lemmas.Grind.{flat_map-append}
use Rattle.std.proofs.lemmas.List.{append-nil, nil_from_length}
use Rattle.std.proofs.lemmas.List.Kept.{IsStrictlySortedBy-dedup, Contains-from_dedup, Any-dedup}
use Rattle.std.proofs.lemmas.List.Sorted.{Contains-permutation, IsPermutation-sym}
use Rattle.macho_symbols.specs.Found.{named}
use Rattle.archive_core.specs.Content.{Operations, IsContent}
use Rattle.archive_core.specs.Valid.{IsValid}
use Rattle.archive_core.specs.Names.{NameRecord, name_cmp, name_row, names_in, IsNameRow, IsNames}
use Rattle.archive_core.specs.Record.{admission_record, Admits, Retires, IsRecord}
use Rattle.archive_core.proofs.NameOrder.{name_total, rows_same}
use Rattle.archive_core.proofs.Members.{in_map, to_map, in_flat_map, to_flat_map, ascending_map}
use Rattle.archive_core.proofs.Words.{live_in_content}
use Rattle.std.specs.Prelude.{nat_lt}
use Rattle.archive_from_records.specs.InnerNames.{names_of, names_among}
use Rattle.archive_records.proofs.Apart.{in_set, from_set}
use Rattle.archive_records.proofs.Forms.{parts-of, tag-retirement}

-- ---- one record more

pub names_more : (name : List ℕ) (records : List (List ℕ)) (x : List ℕ) (before after : List NameRecord) → after
    ≡ before ++ names_of name x → before ≡ names_among name records → after ≡ names_among name (records ++ x ∷ [])
unfolding names_among
names_more name records x before after grown are =
    rw (grown, are, flat_map-append (names_of name) records (x ∷ []), append-nil (names_of name x)) refl

pub names_admitted : (name r : List ℕ) → Admits r → names_of name r ≡ names_in name (drop 33 r)
unfolding names_of
names_admitted name r a = ap (λ (tag : ℕ). cond (tag == 2) (names_in name (drop 33 r)) []) (parts-of r a).tag

pub names_retired : (name r : List ℕ) → Retires r → names_of name r ≡ []
unfolding names_of
names_retired name r t = ap (λ (tag : ℕ). cond (tag == 2) (names_in name (drop 33 r)) []) (tag-retirement r t)

-- those of a slice
pub names_of_slice : (name slice : List ℕ) → IsValid slice → names_of name (admission_record slice) ≡ names_in name slice
names_of_slice name slice valid =
    let a : Admits (admission_record slice) = record { slice = slice; valid = valid; is = refl } in
    names_admitted name (admission_record slice) a ∙ ap (names_in name) (parts-of (admission_record slice) a).slice_is

-- those of a slice that was asked whether it has the name
pub names_none : (name slice : List ℕ) (has : Bool) → has ≡ nat_lt 0 (length (named slice name)) → has ≡ false → names_in name slice ≡ []
names_none name slice has tells not = ap (map (name_row slice))
    (nil_from_length (named slice name) (omega (arith, ltb-false 0 (length (named slice name)) (sym tells ∙ not))))

-- ---- rows in order, each once

module _ {X : Type 0} (view : X → NameRecord) (old sorted kept : List X) (permuted : IsPermutation old sorted)
    (up : IsSorted (on view name_cmp) sorted) (once : kept ≡ dedup (eq_by_cmp (on view name_cmp)) sorted) where
  total : IsTotalOrder (on view name_cmp)
  total = on_total view name_total

  pub rows_ascending : IsStrictlySortedBy name_cmp (map view kept)
  rows_ascending = ascending_map name_cmp view kept (subst (IsStrictlySortedBy (on view name_cmp)) (sym once)
      (IsStrictlySortedBy-dedup total (λ x y. refl) sorted up))

  to : (row : NameRecord) → Contains (map view kept) row → Contains (map view old) row
  to row h =
      let one = in_map view kept row h in
      let there = Contains-permutation sorted old one.0 (IsPermutation-sym old sorted permuted)
      (Contains-from_dedup (eq_by_cmp (on view name_cmp)) sorted one.0
      (subst (λ (l : List X). Contains l one.0) once one.1)) in
      subst (Contains (map view old)) (sym one.2) (to_map view old one.0 there)

  back : (row : NameRecord) → Contains (map view old) row → Contains (map view kept) row
  back row h =
      let one = in_map view old row h in
      let there = Contains-permutation old sorted one.0 permuted one.1 in
      let alike = Any-dedup (eq_by_cmp_equiv total) sorted one.0 there in
      let tied : name_cmp (view one.0) (view alike.1) ≡ Equal = (Equal-is (name_cmp (view one.0) (view alike.1))).0 alike.4 in
      subst (Contains (map view kept)) (sym (one.2 ∙ rows_same (view one.0) (view alike.1) tied))
      (to_map view kept alike.1 (subst (λ (l : List X). Contains l alike.1) (sym once) (alike.0, alike.2, alike.3)))

  pub rows_kept : (row : NameRecord) → Contains (map view kept) row ↔ Contains (map view old) row
  rows_kept row = (to row, back row)

-- ---- the rows of a content

module _ (o : Operations) (name : List ℕ) (records : List (List ℕ)) (content : IsContent o) (is : o ≡ set.from_list records) where
  there : (r : List ℕ) → Contains records r → set.contains o r ≡ true
  there r h = ap (λ (s : Operations). set.contains s r) is ∙ in_set records r h

  told_of : (r : List ℕ) → Contains records r → IsRecord r → (row : NameRecord) → Contains (names_of name r) row → IsNameRow o name row
  told_of r h (inl a) row rows =
      let one = in_map (name_row (drop 33 r)) (named (drop 33 r) name) row (subst (λ (l : List NameRecord). Contains l row) (names_admitted name r a) rows) in
      let slice_is = (parts-of r a).slice_is in
      record {
        slice = a.slice;
        valid = a.valid;
        live = live_in_content o a.slice content a.valid (ap (set.contains o) (sym a.is) ∙ there r h);
        found = one.0;
        candidate = subst (λ (s : List ℕ). Contains (named s name) one.0) slice_is one.1;
        row_is = one.2 ∙ ap (λ (s : List ℕ). name_row s one.0) slice_is;
      }
  told_of r h (inr t) row rows = let none = rw (names_retired name r t) at rows in absurd (omega (arith, none.1))

  among : (row : NameRecord) → IsNameRow o name row → Contains (names_among name records) row
  unfolding names_among
  among row h =
      let r : List ℕ = admission_record h.slice in
      let held = from_set records r (ap (λ (s : Operations). set.contains s r) (sym is) ∙ h.live.admitted) in
      let rows = subst (Contains (names_in name h.slice)) (sym h.row_is) (to_map (name_row h.slice) (named h.slice name) h.found h.candidate) in
      to_flat_map (names_of name) records r row held
      (subst (λ (l : List NameRecord). Contains l row) (sym (names_of_slice name h.slice h.valid)) rows)

  pub names_told : (row : NameRecord) → Contains (names_among name records) row ↔ IsNameRow o name row
  unfolding names_among
  names_told row = (
    λ h. let one = in_flat_map (names_of name) records row h in told_of one.0 one.1 (content.records one.0 (there one.0 one.1)) row one.2,
    among row,
  )

  -- put in order, they are what a search for the name tells
  pub names_put : (gathered rows : List NameRecord) → gathered ≡ names_among name records
      → IsStrictlySortedBy name_cmp rows → ((row : NameRecord) → Contains rows row ↔ Contains gathered row)
      → IsNames o name rows
  names_put gathered rows are ascending same = record {
    ascending = ascending;
    exactly = λ row. (λ h. (names_told row).0 (rw are at ((same row).0 h)), λ h. (same row).1 (rw are ((names_told row).1 h)));
  }

-- the rows of no record
pub names_start : (name : List ℕ) → [] ≡ names_among name []
unfolding names_among
names_start name = refl
