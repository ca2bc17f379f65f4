-- The rows of a name: that a scan finds them.
use Rattle.std.proofs.Common.{◌≡◌, ◌↔◌, ℕ, ◌+◌, ◌<◌, List, [], ◌∷◌, ◌++◌, length, take, map, slice_index_or, refl, sym, ap, ◌∙◌, arith, subst}
use Rattle.std.specs.declared.cmp.Ordering.TheVariants.{Equal}
use Rattle.std.specs.Ordering.{on, eq_by_cmp}
use Rattle.std.specs.Cmp.{IsTotalOrder, Equal-is, on_total}
use Rattle.std.specs.List.{Contains, dedup}
use Rattle.std.specs.List.Sorted.{IsSorted, IsStrictlySortedBy, IsPermutation}
use Rattle.std.specs.FinSet.{from_list, contains}
use Rattle.std.proofs.lemmas.List.Elements.{All-contains, All-from_recursion}
use Rattle.std.proofs.lemmas.List.Kept.{IsStrictlySortedBy-dedup, Contains-from_dedup, Any-dedup}
use Rattle.std.proofs.lemmas.List.Sorted.{Contains-permutation, IsPermutation-sym}
use Rattle.std.proofs.lemmas.Cmp.{eq_by_cmp_equiv}
use Rattle.std.proofs.lemmas.Grind.{flat_map-append}
use Rattle.std.proofs.lemmas.List.{append-nil}
use Rattle.join_core.specs.Listing.{listing}
use Rattle.join_core.proofs.Listing.{listed}
use Rattle.macho_symbols.specs.Found.{named}
use Rattle.archive_core.specs.Record.{record_bytes, admission_record, IsOperation}
use Rattle.archive_core.specs.Content.{Operations, IsContent}
use Rattle.archive_core.specs.Names.{NameRecord, name_cmp, name_row, IsNameRow, IsNames, name_view, names_in}
use Rattle.archive_index.specs.InnerNames.{names_of, names_among}
use Rattle.archive_core.specs.InnerHeld.{IsHeld}
use Rattle.archive_core.specs.declared.names.NameRow.{NameRow}
use Rattle.archive_core.specs.declared.operations.Operation.{Operation}
use Rattle.archive_core.specs.declared.operations.Operation.TheVariants.{Admit, Retire}
use Rattle.archive_index.proofs.Held.{content_of_held}
use Rattle.archive_core.proofs.Words.{live_in_content}
use Rattle.archive_index.proofs.Listed.{held_of}
use Rattle.archive_index.proofs.Scanned.{take_one_more}
use Rattle.archive_core.proofs.Members.{in_order, one_with_members, in_map, to_map, in_flat_map, to_flat_map, ascending_map}
use Rattle.archive_core.proofs.Told.{record_there, operation_there}
use Rattle.archive_core.proofs.NameOrder.{name_total, rows_same}

-- rows in order, each once
pub record AreOrdered (old new : List NameRow) : Type 0 where
  pub ascending : IsStrictlySortedBy name_cmp (map name_view new)
  pub same : (row : NameRecord) → Contains (map name_view new) row ↔ Contains (map name_view old) row

pub ordered : (old sorted : List NameRow) → IsPermutation old sorted → IsSorted (on name_view name_cmp) sorted
    → AreOrdered old (dedup (eq_by_cmp (on name_view name_cmp)) sorted)
ordered old sorted permuted up = record {
  ascending = ascending_map name_cmp name_view kept (IsStrictlySortedBy-dedup total (λ x y. refl) sorted up);
  same = λ row. (to row, back row);
}
  where
    total : IsTotalOrder (on name_view name_cmp)
    total = on_total name_view name_total

    kept : List NameRow
    kept = dedup (eq_by_cmp (on name_view name_cmp)) sorted

    to : (row : NameRecord) → Contains (map name_view kept) row → Contains (map name_view old) row
    to row h =
        let one = in_map name_view kept row h in
        let there = Contains-permutation sorted old one.0 (IsPermutation-sym old sorted permuted)
        (Contains-from_dedup (eq_by_cmp (on name_view name_cmp)) sorted one.0 one.1) in
        subst (Contains (map name_view old)) (sym one.2) (to_map name_view old one.0 there)

    back : (row : NameRecord) → Contains (map name_view old) row → Contains (map name_view kept) row
    back row h =
        let one = in_map name_view old row h in
        let there = Contains-permutation old sorted one.0 permuted one.1 in
        let alike = Any-dedup (eq_by_cmp_equiv total) sorted one.0 there in
        let tied : name_cmp (name_view one.0) (name_view alike.1) ≡ Equal = (Equal-is (name_cmp (name_view one.0) (name_view alike.1))).0 alike.4 in
        subst (Contains (map name_view kept)) (sym (one.2 ∙ rows_same (name_view one.0) (name_view alike.1) tied))
        (to_map name_view kept alike.1 (alike.0, alike.2, alike.3))

-- the rows of one more operation
pub names_more : (name : List ℕ) (operations : List Operation) (i : ℕ) (a : Operation) → i < length operations → a ≡ slice_index_or operations i a
    → names_among name (take (i + 1) operations) ≡ names_among name (take i operations) ++ names_of name a
unfolding names_among
names_more name operations i a lt is = rw (
  take_one_more operations i a lt is,
  flat_map-append (names_of name) (take i operations) (a ∷ []),
  append-nil (names_of name a),
) refl

-- what a scan finds are the rows of the name
pub names_scanned : (o : Operations) (name : List ℕ) (operations : List Operation) → IsHeld operations → from_list (map record_bytes operations) ≡ o
    → (row : NameRecord) → Contains (names_among name operations) row ↔ IsNameRow o name row
unfolding names_among
names_scanned o name operations held is row = (to, back)
  where
    told_of : (a : Operation) → Contains operations a → Contains (names_of name a) row → IsNameRow o name row
    told_of (Admit slice) there h =
        let one = in_map (name_row slice) (named slice name) row h in
        let valid = All-contains IsOperation operations (Admit slice) (All-from_recursion IsOperation operations held.are) there in
        record {
          slice = slice;
          valid = valid;
          live = live_in_content o slice (subst IsContent is (content_of_held operations held)) valid
              (ap (λ s. contains s (admission_record slice)) (sym is) ∙ record_there operations (Admit slice) there);
          found = one.0;
          candidate = one.1;
          row_is = one.2;
        }
    told_of (Retire key digest) there (k, lt, g) = absurd (omega arith)

    to : Contains (names_among name operations) row → IsNameRow o name row
    to h = let one = in_flat_map (names_of name) operations row h in told_of one.0 one.1 one.2

    back : IsNameRow o name row → Contains (names_among name operations) row
    back h =
        let live = h.live in
        let there = operation_there operations (Admit h.slice) held.are h.valid (ap (λ s. contains s (admission_record h.slice)) is ∙ live.admitted) in
        let rows = subst (Contains (names_in name h.slice)) (sym h.row_is) (to_map (name_row h.slice) (named h.slice name) h.found h.candidate) in
        to_flat_map (names_of name) operations (Admit h.slice) row there rows

-- a content and a name have one list of rows
pub one_list_of_names : (o : Operations) (name : List ℕ) (rows others : List NameRecord) → IsNames o name rows → IsNames o name others → rows ≡ others
one_list_of_names o name rows others f g =
    one_with_members name_total rows others f.ascending g.ascending (λ a h. (g.exactly a).1 ((f.exactly a).0 h)) (λ a h. (f.exactly a).1 ((g.exactly a).0 h))

-- put in order, they are what a search for the name tells
pub names_put : (o : Operations) (name : List ℕ) (operations : List Operation) → IsHeld operations → from_list (map record_bytes operations) ≡ o
    → (old new : List NameRecord) → old ≡ names_among name operations → IsStrictlySortedBy name_cmp new
    → ((row : NameRecord) → Contains new row ↔ Contains old row) → IsNames o name new
names_put o name operations held is old new gathered ascending same = record {
  ascending = ascending;
  exactly = λ row.
      let scanned = names_scanned o name operations held is row in
      (λ h. scanned.0 (rw gathered at ((same row).0 h)), λ h. (same row).1 (rw gathered (scanned.1 h)));
}

-- each content has rows of each name
pub some_names : (o : Operations) (name : List ℕ) → IsContent o → (rows : List NameRecord) × IsNames o name rows
some_names o name content =
    let held = held_of o content in
    let gathered = names_among name held.0 in
    let told = from_list {R = name_cmp} gathered in (
      listing told,
      names_put o name held.0 held.1 held.2 gathered (listing told) refl
          (listed name_total rows_same told).ascending (in_order name_total rows_same gathered),
    )
