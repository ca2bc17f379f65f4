-- What is told of two names in the join of several contents.
use Rattle.std.proofs.Common.{◌≡◌, ◌↔◌, ◌⊎◌, ℕ, true, false, not, ◌&&◌, nat_eq, List, [], ◌∷◌, ◌++◌, map, Contains}
use Rattle.std.proofs.Common.{fold, get_or, length, refl, sym, ap, ◌∙◌, subst, inl, inr, arith}
use Rattle.std.specs.Prelude.{slice_index}
use Rattle.std.specs.List.{AllByRecursion, AllZip}
use Rattle.std.specs.List.Sorted.{IsStrictlySortedBy}
use Rattle.std.specs.Cmp.Lexicographic.{nat_list_cmp_total}
use Rattle.std.specs.FinSet.{contains, union, contains-union}
use Rattle.std.proofs.lemmas.Bool.{eqb-true, false_from_ne_true, or_cases, or_left, or_right, and_from}
use Rattle.std.proofs.lemmas.List.Elements.{All-contains, All-from_recursion, Contains-append_left, Contains-get_or}
use Rattle.std.proofs.lemmas.List.Elements.{Contains-push, Contains-push_cases, recursion_from_All}
use Rattle.archive_core.specs.Content.{Operations, IsContent, content_of, is_admission, is_covered, joined}
use Rattle.archive_core.specs.Names.{IsNameRow, IsNames, NameRecord, name_cmp, owned_name_view}
use Rattle.archive_core.specs.declared.names.OwnedNameRow.{OwnedNameRow}
use Rattle.archive_core.specs.Record.{admission_record, retirement_record}
use Rattle.archive_core.proofs.Made.{contains_made, from_made, joined_made}
use Rattle.archive_core.proofs.Members.{in_cons, in_front, in_rest}
use Rattle.archive_core.proofs.Records.{length-retirement_record}
use Rattle.archive_core.proofs.Words.{covered_slice, live_in_content}
use Rattle.archive_records.specs.Entry.{IsEntry, entry_bytes}
use Rattle.archive_records.specs.Reader.{set_of}
use Rattle.archive_records.proofs.Apart.{from_set, in_set, is_false}
use Rattle.archive_from_records.specs.Names.{AddsNames}
use Rattle.archive_from_records.specs.declared.names.NamesFound.{NamesFound}
use Rattle.command_common.specs.Archives.{HoldTogether, merged}
use Rattle.command_common.specs.Inputs.{HoldsArchive, HoldsContent, IsArchive, Reader}
use Rattle.command_common.proofs.Archives.{each_archive, hold_more}
use Rattle.command_common.proofs.Readers.{all_more}
use Rattle.command_queries.specs.InnerNames.{HasNameRow, HasRetirement, HaveAdded}
use Rattle.command_queries.specs.Name.{SaysUnderscored, underscored}

-- ---- the archives, one more at a time

none_in : {X : Type 0} {x : X} → Contains [] x → ⊥
none_in there = omega (arith, there.1)

-- what is new is in what was there, or in one more
more : {New Mid Old Early Late Last : Type 0} → (New ↔ (Mid ⊎ Last)) → (Mid ↔ (Old ⊎ Early)) → (Early → Late)
    → (Last → Late) → (Late → Early ⊎ Last) → New ↔ (Old ⊎ Late)
more adds before early last split = (
  λ new. elim (adds.0 new) [
    | inl mid ↦ elim (before.0 mid) [ inl old ↦ inl old | inr one ↦ inr (early one) ]
    | inr one ↦ inr (last one)
  ],
  λ told. elim told [
    | inl old ↦ adds.1 (inl (before.1 (inl old)))
    | inr late ↦ elim (split late) [ inl one ↦ adds.1 (inl (before.1 (inr one))) | inr one ↦ adds.1 (inr one) ]
  ],
)

module _ {R : Type 0} (name other : List ℕ) where
  pub added_none : (old : NamesFound) → HaveAdded {R = R} [] name other old old
  added_none old = record {
    contents = [];
    are_contents = tt;
    archives_are = tt;
    rows = λ row. (λ there. inl there, λ told. elim told [ inl there ↦ there | inr one ↦ absurd (none_in one.1) ]);
    others = λ row. (λ there. inl there, λ told. elim told [ inl there ↦ there | inr one ↦ absurd (none_in one.1) ]);
    retired = λ r. (λ there. inl there, λ told. elim told [ inl there ↦ there | inr one ↦ absurd (none_in one.1) ]);
  }

  module _ (archives seen : List (Reader R)) (archive : Reader R) (old mid new : NamesFound) (o : Operations)
      (seen_is : seen ≡ archives ++ archive ∷ []) (before : HaveAdded archives name other old mid)
      (content : IsContent o) (holds : HoldsArchive archive o) (adds : AddsNames o name other mid new) where
    abbrev all : List Operations
    all = before.contents ++ o ∷ []

    row_to : (sought : List ℕ) (row : NameRecord) → HasNameRow before.contents sought row → HasNameRow all sought row
    row_to sought row one = (one.0, Contains-append_left before.contents (o ∷ []) one.0 one.1, one.2)

    row_from : (sought : List ℕ) (row : NameRecord) → HasNameRow all sought row → HasNameRow before.contents sought row ⊎ IsNameRow o sought row
    row_from sought row one = elim (Contains-push_cases before.contents o one.0 one.1) [
      | inl early ↦ inl (one.0, early, one.2)
      | inr same ↦ inr (rw same one.2)
    ]

    retired_to : (r : List ℕ) → HasRetirement before.contents r → HasRetirement all r
    retired_to r one = (one.0, Contains-append_left before.contents (o ∷ []) one.0 one.1, one.2, one.3)

    retired_from : (r : List ℕ) → HasRetirement all r → HasRetirement before.contents r ⊎ ((contains o r ≡ true) × (is_admission r ≡ false))
    retired_from r one = elim (Contains-push_cases before.contents o one.0 one.1) [
      | inl early ↦ inl (one.0, early, one.2, one.3)
      | inr same ↦ inr (rw same one.2, one.3)
    ]

    pub added_more : HaveAdded seen name other old new
    added_more = record {
      contents = all;
      are_contents = all_more IsContent before.contents o before.are_contents content;
      archives_are = subst (λ (rs : List (Reader R)). AllZip HoldsArchive rs all) (sym seen_is)
          (hold_more archives before.contents archive o before.archives_are holds);
      rows = λ row. more (adds.rows row) (before.rows row) (row_to name row) (λ told. (o, Contains-push before.contents o, told)) (row_from name row);
      others = λ row. more (adds.others row) (before.others row) (row_to other row) (λ told. (o, Contains-push before.contents o, told)) (row_from other row);
      retired = λ r. more (adds.retired r) (before.retired r) (retired_to r) (λ told. (o, Contains-push before.contents o, told.0, told.1)) (retired_from r);
    }

  -- what was added is of archives
  pub added_archives : (archives : List (Reader R)) (old new : NamesFound) → HaveAdded archives name other old new → AllByRecursion IsArchive archives
  added_archives archives old new added = each_archive archives added.contents added.archives_are added.are_contents

-- ---- the operations of several contents

abbrev all_of : Operations → List Operations → Operations
all_of o contents = fold union o contents

merged_made : (a : Operations) (contents : List Operations) → AllByRecursion IsContent contents
    → merged (content_of a) contents ≡ content_of (all_of a contents)
merged_made a [] are = refl
merged_made a (p ∷ contents) are =
    ap (λ (q : Operations). merged q contents) (ap (joined (content_of a)) (sym are.0.itself) ∙ joined_made a p) ∙ merged_made (union a p) contents are.1

merged_all : (o : Operations) (contents : List Operations) → IsContent o → AllByRecursion IsContent contents
    → merged o contents ≡ content_of (all_of o contents)
merged_all o contents content are = ap (λ (q : Operations). merged q contents) (sym content.itself) ∙ merged_made o contents are

in_either : (o p : Operations) (r : List ℕ) → contains (union o p) r ≡ true → (contains o r ≡ true) ⊎ (contains p r ≡ true)
in_either o p r there = or_cases (contains o r) (contains p r) (sym (contains-union nat_list_cmp_total o p r) ∙ there)

to_left : (o p : Operations) (r : List ℕ) → contains o r ≡ true → contains (union o p) r ≡ true
to_left o p r there = contains-union nat_list_cmp_total o p r ∙ or_left (contains o r) (contains p r) there

to_right : (o p : Operations) (r : List ℕ) → contains p r ≡ true → contains (union o p) r ≡ true
to_right o p r there = contains-union nat_list_cmp_total o p r ∙ or_right (contains o r) (contains p r) there

grows : (o : Operations) (contents : List Operations) (r : List ℕ) → contains o r ≡ true → contains (all_of o contents) r ≡ true
grows o [] r there = there
grows o (p ∷ contents) r there = grows (union o p) contents r (to_left o p r there)

member : (o : Operations) (contents : List Operations) (p : Operations) (r : List ℕ) → Contains contents p
    → contains p r ≡ true → contains (all_of o contents) r ≡ true
member o [] p r is there = absurd (none_in is)
member o (q ∷ contents) p r is there = elim (in_cons q contents p is) [
  | inl same ↦ grows (union o q) contents r (to_right o q r (rw same there))
  | inr later ↦ member (union o q) contents p r later there
]

abbrev IsAmong : Operations → List Operations → Operations → Type 0
IsAmong o contents p = (o ≡ p) ⊎ Contains contents p

in_all : (o : Operations) (contents : List Operations) (r : List ℕ) → contains (all_of o contents) r ≡ true
    → (p : Operations) × IsAmong o contents p × (contains p r ≡ true)
in_all o [] r there = (o, inl refl, there)
in_all o (q ∷ contents) r there =
    let one = in_all (union o q) contents r there in
    elim one.1 [
      | inl both ↦ elim (in_either o q r (ap (λ (s : Operations). contains s r) both ∙ one.2)) [
        | inl first ↦ (o, inl refl, first)
        | inr second ↦ (q, inr (in_front q contents), second)
      ]
      | inr later ↦ (one.0, inr (in_rest q contents one.0 later), one.2)
    ]

-- ---- rows of the join

module _ (o : Operations) (contents : List Operations) (content : IsContent o) (are : AllByRecursion IsContent contents) (early_retired retired : List (List ℕ))
    (retires : (r : List ℕ) → Contains early_retired r ↔ (Contains [] r ⊎ ((contains o r ≡ true) × (is_admission r ≡ false))))
    (retired_are : (r : List ℕ) → Contains retired r ↔ (Contains early_retired r ⊎ HasRetirement contents r)) where
  abbrev whole : Operations
  whole = all_of o contents

  is_content : (p : Operations) → IsAmong o contents p → IsContent p
  is_content p (inl same) = subst IsContent same content
  is_content p (inr later) = All-contains IsContent contents p (All-from_recursion IsContent contents are) later

  within : (p : Operations) (r : List ℕ) → IsAmong o contents p → contains p r ≡ true → contains whole r ≡ true
  within p r (inl same) there = grows o contents r (ap (λ (s : Operations). contains s r) same ∙ there)
  within p r (inr later) there = member o contents p r later there

  retirement_of : (r : List ℕ) → Contains retired r → (p : Operations) × IsAmong o contents p × (contains p r ≡ true) × (is_admission r ≡ false)
  retirement_of r there = elim ((retired_are r).0 there) [
    | inl early ↦ elim ((retires r).0 early) [
      | inl nothing ↦ absurd (none_in nothing)
      | inr told ↦ (o, inl refl, told.0, told.1)
    ]
    | inr one ↦ (one.0, inr one.1, one.2, one.3)
  ]

  retirement_back : (r : List ℕ) → is_admission r ≡ false → contains whole r ≡ true → Contains retired r
  retirement_back r plain there =
      let one = in_all o contents r there in
      elim one.1 [
        | inl same ↦ (retired_are r).1 (inl ((retires r).1 (inr (ap (λ (s : Operations). contains s r) same ∙ one.2, plain))))
        | inr later ↦ (retired_are r).1 (inr (one.0, later, one.2, plain))
      ]

  -- each is the entry of a retirement
  entry_of : (r : List ℕ) → Contains retired r → IsEntry r
  entry_of r there =
      let one = retirement_of r there in
      elim ((is_content one.0 one.1).records r one.2) [
        | inl a ↦ cc (one.3, ap is_admission a.is)
        | inr t ↦ record {
          tag = inl (ap (λ (b : List ℕ). slice_index b 0) t.is);
          long = ap length t.is
              ∙ length-retirement_record t.key t.digest t.is_key t.long;
        }
      ]

  pub are_entries : AllByRecursion IsEntry retired
  are_entries = recursion_from_All IsEntry retired (λ k d lt. entry_of (get_or retired k d) (Contains-get_or retired k d lt))

  retired_stays : (r : List ℕ) → is_admission r ≡ false → contains (content_of whole) r ≡ contains whole r
  retired_stays r plain = grind (arith, contains_made whole r, plain)

  module _ (name : List ℕ) (early found rows : List NameRecord)
      (adds : (row : NameRecord) → Contains early row ↔ (Contains [] row ⊎ IsNameRow o name row))
      (rows_are : (row : NameRecord) → Contains found row ↔ (Contains early row ⊎ HasNameRow contents name row))
      (live : (row : NameRecord) → Contains rows row ↔ (Contains found row × (contains (set_of retired) (retirement_record row.key row.digest) ≡ false))) where
    row_of : (row : NameRecord) → Contains found row → (p : Operations) × IsAmong o contents p × IsNameRow p name row
    row_of row there = elim ((rows_are row).0 there) [
      | inl first ↦ elim ((adds row).0 first) [
        | inl nothing ↦ absurd (none_in nothing)
        | inr told ↦ (o, inl refl, told)
      ]
      | inr one ↦ (one.0, inr one.1, one.2)
    ]

    row_back : (row : NameRecord) (p : Operations) → IsAmong o contents p → IsNameRow p name row → Contains found row
    row_back row p (inl same) told = (rows_are row).1 (inl ((adds row).1 (inr (subst (λ (q : Operations). IsNameRow q name row) (sym same) told))))
    row_back row p (inr later) told = (rows_are row).1 (inr (p, later, told))

    to : (row : NameRecord) → Contains rows row → IsNameRow (content_of whole) name row
    to row there =
        let held = (live row).0 there in
        let one = row_of row held.0 in
        let told = one.2 in
        let same = ap (λ (r : NameRecord). retirement_record r.key r.digest) told.row_is in
        let free : contains whole (retirement_record row.key row.digest) ≡ false =
        is_false (contains whole (retirement_record row.key row.digest))
        (λ is. cc (
          held.1,
          in_set retired (retirement_record row.key row.digest)
              (retirement_back (retirement_record row.key row.digest) refl is),
        )) in
        let uncovered = covered_slice whole told.slice told.valid ∙ sym (ap (contains whole) same) ∙ free in
        record {
          slice = told.slice;
          valid = told.valid;
          live = record {
            admitted = contains_made whole (admission_record told.slice)
                ∙ and_from (contains whole (admission_record told.slice))
                (not (is_covered whole (admission_record told.slice)))
                (within one.0 (admission_record told.slice) one.1 told.live.admitted) (ap not uncovered);
            under = refl;
            kept = retired_stays _ refl ∙ sym (ap (contains whole) same) ∙ free;
          };
          found = told.found;
          candidate = told.candidate;
          row_is = told.row_is;
        }

    back : (row : NameRecord) → IsNameRow (content_of whole) name row → Contains rows row
    back row told =
        let one = in_all o contents (admission_record told.slice) (from_made whole (admission_record told.slice) told.live.admitted) in
        let there = row_back row one.0 one.1 (record {
          slice = told.slice;
          valid = told.valid;
          live = live_in_content one.0 told.slice (is_content one.0 one.1) told.valid one.2;
          found = told.found;
          candidate = told.candidate;
          row_is = told.row_is;
        }) in
        let same = ap (λ (r : NameRecord). retirement_record r.key r.digest) told.row_is in
        let free : contains (set_of retired) (retirement_record row.key row.digest) ≡ false =
        is_false (contains (set_of retired) (retirement_record row.key row.digest)) (λ is.
        let held = retirement_of (retirement_record row.key row.digest) (from_set retired (retirement_record row.key row.digest) is) in
        cc (
          told.live.kept,
          same,
          retired_stays (retirement_record row.key row.digest) refl,
          within held.0 (retirement_record row.key row.digest) held.1 held.2,
        )) in
        (live row).1 (there, free)

    pub names_of_join : IsStrictlySortedBy name_cmp rows → IsNames (merged o contents) name rows
    names_of_join ascending = subst (λ (p : Operations). IsNames p name rows) (sym (merged_all o contents content are))
        (record { ascending = ascending; exactly = λ row. (to row, back row) })

-- all were read
module _ {R : Type 0} (archive : Reader R) (others : List (Reader R)) (name other : List ℕ)
    (none first found : NamesFound) (no_rows : none.told.rows.items ≡ []) (no_others : none.told.others.items ≡ [])
    (no_retired : none.retired.items ≡ []) (held : HoldsContent archive (λ o. AddsNames o name other none first))
    (added : HaveAdded others name other first found) where
  abbrev entries : List (List ℕ)
  entries = map entry_bytes found.retired.items

  retires : (r : List ℕ) → Contains (map entry_bytes first.retired.items) r ↔ (Contains [] r ⊎ ((contains held.content r ≡ true) × (is_admission r ≡ false)))
  retires r = rw no_retired at (held.is_true.retired r)

  pub entries_together : AllByRecursion IsEntry entries
  entries_together = are_entries held.content added.contents held.is_content added.are_contents
      (map entry_bytes first.retired.items) entries retires added.retired

  abbrev IsLiveAmong : List NameRecord → List NameRecord → Type 0
  IsLiveAmong all rows = (row : NameRecord) → Contains rows row
      ↔ (Contains all row × (contains (set_of entries) (retirement_record row.key row.digest) ≡ false))

  pub names_together : (rows also : List NameRecord) → IsStrictlySortedBy name_cmp rows → IsStrictlySortedBy name_cmp also
      → IsLiveAmong (map owned_name_view found.told.rows.items) rows → IsLiveAmong (map owned_name_view found.told.others.items) also
      → HoldTogether archive others (λ o. IsNames o name rows × IsNames o other also)
  names_together rows also ascending others_ascending live others_live = record {
    content = held.content;
    contents = added.contents;
    is_content = held.is_content;
    are_contents = added.are_contents;
    archive_is = held.text;
    others_are = added.archives_are;
    is_true = (
      names_of_join held.content added.contents held.is_content added.are_contents (map entry_bytes first.retired.items)
          entries retires added.retired name _ _ rows (λ row. rw no_rows at (held.is_true.rows row)) added.rows live
          ascending,
      names_of_join held.content added.contents held.is_content added.are_contents (map entry_bytes first.retired.items)
          entries retires added.retired other _ _ also (λ row. rw no_others at (held.is_true.others row)) added.others
          others_live others_ascending,
    );
  }

-- ---- a name with a `_` before it

not_empty : (row : OwnedNameRow) (rows : List OwnedNameRow) → nat_eq (length (row ∷ rows)) 0 ≡ false
not_empty row rows = false_from_ne_true (nat_eq (length (row ∷ rows)) 0) (λ t. omega (arith, eqb-true (length (row ∷ rows)) 0 t))

-- whether it alone is there, by the rows of both names
pub underscored_by : (o : Operations) (name : List ℕ) (rows also : List OwnedNameRow)
    → IsNames o name (map owned_name_view rows) → IsNames o (underscored name) (map owned_name_view also)
    → SaysUnderscored o name (nat_eq (length rows) 0 && not (nat_eq (length also) 0))
underscored_by o name [] [] names others = λ is. none_in ((others.exactly is.somewhere.0).1 is.somewhere.1)
underscored_by o name [] (row ∷ also) names others = rw (not_empty row also) (record {
  nowhere = λ one told. none_in ((names.exactly one).1 told);
  somewhere = (owned_name_view row, (others.exactly (owned_name_view row)).0 (in_front (owned_name_view row) (map owned_name_view also)));
})
underscored_by o name (row ∷ rows) also names others =
    rw (not_empty row rows) (λ is. is.nowhere (owned_name_view row)
    ((names.exactly (owned_name_view row)).0 (in_front (owned_name_view row) (map owned_name_view rows))))
