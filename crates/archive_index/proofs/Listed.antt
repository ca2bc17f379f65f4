-- What a list of all tells, made of the records of an archive, and what a search tells as a part of it.
use Rattle.std.proofs.Common.{◌≡◌, ◌↔◌, drop, arith, ℕ, Bool, true, List, [], ◌∷◌, ◌++◌, length, map, filter, refl, sym, ap, ◌∙◌}
use Rattle.std.specs.declared.cmp.Ordering.TheVariants.{Less, Equal}
use Rattle.std.specs.Ordering.{nat_cmp}
use Rattle.std.specs.Cmp.{tied_itself}
use Rattle.std.specs.Cmp.Lexicographic.{slice_cmp, nat_list_cmp_total}
use Rattle.std.specs.Int.{w64, to_be_bytes}
use Rattle.std.specs.List.{All, AllByRecursion, Contains}
use Rattle.std.specs.List.Sorted.{IsStrictlySortedBy}
use Rattle.std.specs.FinSet.{from_list, contains, nat_cmp-IsAntisymmetric}
use Rattle.std.specs.Str.{bytes_eq}
use Rattle.std.proofs.lemmas.List.Elements.{All-from_recursion, All-contains, All-weaker, recursion_from_All, filter_passes}
use Rattle.std.proofs.lemmas.List.Kept.{IsStrictlySortedBy-filter}
use Rattle.std.proofs.lemmas.Slice.Eq.{bytes_eq-Decides}
use Rattle.join_core.specs.Listing.{listing}
use Rattle.join_core.proofs.Listing.{listed}
use Rattle.join_core.proofs.SortedUnion.{along_members}
use Rattle.macho_symbols.proofs.Order.{both_equal}
use Rattle.archive_core.specs.Key.{key_bytes}
use Rattle.archive_core.specs.Valid.{key_of}
use Rattle.archive_core.specs.Record.{admission, record_bytes, IsOperation, IsRecord}
use Rattle.archive_core.specs.Content.{Operations, IsContent}
use Rattle.archive_core.specs.Find.{key_in, arch_cmp, find_cmp, row_of, IsFoundUnder, IsFinds}
use Rattle.archive_core.specs.Lists.{list_cmp, IsList, rows_under}
use Rattle.archive_core.specs.InnerHeld.{IsHeld}
use Rattle.archive_core.specs.declared.find.FindRow.{FindRow}
use Rattle.archive_core.specs.declared.operations.Operation.{Operation}
use Rattle.archive_core.specs.declared.operations.Operation.TheVariants.{Admit, Retire}
use Rattle.archive_core.proofs.Records.{same_parts, operation_of_record}
use Rattle.archive_core.proofs.Made.{bytes_same}
use Rattle.archive_core.proofs.Members.{in_order, in_filter, to_filter, one_with_members}
use Rattle.archive_core.proofs.Told.{record_there, operation_there, list_total, listed_of_content, content_of_listed, found_under}

-- records are those of operations
operations_of : (rs : List (List ℕ)) → AllByRecursion IsRecord rs → (operations : List Operation)
    × AllByRecursion IsOperation operations × (map record_bytes operations ≡ rs)
operations_of [] all = ([], tt, refl)
operations_of (r ∷ rs) all =
    let first = operation_of_record r all.0 in
    let rest = operations_of rs all.1 in
    (first.0 ∷ rest.0, (first.1, rest.1), λ i. first.2 i ∷ rest.2 i)

-- a content is that of operations in order
pub held_of : (o : Operations) → IsContent o → (operations : List Operation) × IsHeld operations × (from_list (map record_bytes operations) ≡ o)
held_of o content =
    let is = listed nat_list_cmp_total bytes_same o in
    let members = along_members nat_list_cmp_total IsRecord (listing o) (λ r h. content.records r (ap (λ s. contains s r) is.same ∙ h)) in
    let all = operations_of (listing o) members in
    let same : from_list (map record_bytes all.0) ≡ o = ap from_list all.2 ∙ sym is.same in
    (all.0, record { ascending = rw (all.2) is.ascending; are = all.1; itself = rw same content.itself }, same)

-- operations under one key that have one record are one
one_under : (a b : Operation) → key_in a ≡ key_in b → record_bytes a ≡ record_bytes b → a ≡ b
unfolding admission
one_under (Admit s) (Admit t) key e =
    let behind_key = (same_parts (key_bytes (key_of s)) (key_bytes (key_of t)) (to_be_bytes w64 (length s) ++ s)
    (to_be_bytes w64 (length t) ++ t) (ap (λ k. length (key_bytes k)) key) (ap (drop 1) e)).1 in
    ap Admit (same_parts (to_be_bytes w64 (length s)) (to_be_bytes w64 (length t)) s t refl behind_key).1
one_under (Admit s) (Retire l d) key e = cc
one_under (Retire k c) (Admit t) key e = cc
one_under (Retire k c) (Retire l d) key e =
    let digest = (same_parts (key_bytes k) (key_bytes l) c.0 d.0 (ap (λ x. length (key_bytes x)) key) (ap (drop 1) e)).1 in
    λ i. Retire (key i) (record { 0 = digest i })

-- so are those that the order of a list ties
operations_same : (a b : Operation) → list_cmp a b ≡ Equal → a ≡ b
operations_same a b h =
    let k = key_in a in
    let l = key_in b in
    let parts = both_equal (slice_cmp nat_cmp k.uuid l.uuid) (find_cmp a b) h in
    let rest = both_equal (arch_cmp k.arch l.arch) (slice_cmp nat_cmp (record_bytes a) (record_bytes b)) parts.1 in
    let arch = both_equal (nat_cmp k.arch.cputype l.arch.cputype) (nat_cmp k.arch.cpusubtype l.arch.cpusubtype) rest.0 in
    let uuid = bytes_same k.uuid l.uuid parts.0 in
    let cputype = nat_cmp-IsAntisymmetric k.arch.cputype l.arch.cputype arch.0 in
    let cpusubtype = nat_cmp-IsAntisymmetric k.arch.cpusubtype l.arch.cpusubtype arch.1 in
    one_under a b (λ i. record { uuid = uuid i; arch = record { cputype = cputype i; cpusubtype = cpusubtype i } })
    (bytes_same (record_bytes a) (record_bytes b) rest.1)

-- each content has a list
pub some_list : (o : Operations) → IsContent o → (rows : List FindRow) × IsList o rows
some_list o content =
    let held = held_of o content in
    let among = in_order list_total operations_same held.0 in
    let told = from_list {R = list_cmp} held.0 in (
      map row_of (listing told),
      record {
        operations = listing told;
        ascending = (listed list_total operations_same told).ascending;
        exactly = λ a. (
          λ h.
              let there = (among a).0 h in
              let is = All-contains IsOperation held.0 a (All-from_recursion IsOperation held.0 held.1.are) there in
              (is, listed_of_content o a content is (ap (λ s. contains s (record_bytes a)) (sym held.2) ∙ record_there held.0 a there)),
          λ h. (among a).1 (operation_there held.0 a held.1.are h.0 (ap (λ s. contains s (record_bytes a)) held.2 ∙ (content_of_listed o a h.1).0)),
        );
        rows_are = refl;
      },
    )

-- a content has one list
pub one_list_of_all : (o : Operations) (rows others : List FindRow) → IsList o rows → IsList o others → rows ≡ others
one_list_of_all o rows others f g =
    let one = one_with_members list_total f.operations g.operations f.ascending g.ascending
    (λ a h. (g.exactly a).1 ((f.exactly a).0 h)) (λ a h. (f.exactly a).1 ((g.exactly a).0 h)) in
    f.rows_are ∙ ap (map row_of) one ∙ sym g.rows_are

-- operations under a UUID
under : List ℕ → Operation → Bool
under uuid operation = bytes_eq (key_in operation).uuid uuid

-- their rows are the rows of the UUID
rows_of_under : (uuid : List ℕ) (xs : List Operation) → map row_of (filter (under uuid) xs) ≡ rows_under uuid (map row_of xs)
unfolding under
rows_of_under uuid [] = refl
rows_of_under uuid (x ∷ xs) = grind (arith, rows_of_under uuid xs)

-- under one UUID a list ascends as a search
below_under : (uuid : List ℕ) (a b : Operation) → (key_in a).uuid ≡ uuid → (key_in b).uuid ≡ uuid → list_cmp a b ≡ Less → find_cmp a b ≡ Less
below_under uuid a b a_is b_is h = rw (a_is, b_is, tied_itself nat_list_cmp_total uuid) at h

ascending_under : (uuid : List ℕ) (xs : List Operation) → AllByRecursion (λ a. (key_in a).uuid ≡ uuid) xs
    → IsStrictlySortedBy list_cmp xs → IsStrictlySortedBy find_cmp xs
unfolding IsStrictlySortedBy
ascending_under uuid [] are up = tt
ascending_under uuid (x ∷ xs) are up = (each xs are.1 up.0, ascending_under uuid xs are.1 up.1)
  where
    each : (ys : List Operation) → AllByRecursion (λ a. (key_in a).uuid ≡ uuid) ys
        → AllByRecursion (λ y. list_cmp x y ≡ Less) ys → AllByRecursion (λ y. find_cmp x y ≡ Less) ys
    each [] all g = tt
    each (y ∷ ys) all g = (below_under uuid x y are.0 all.0 g.0, each ys all.1 g.1)

-- what a search tells is the part of the list under its UUID
pub part_of_list : (o : Operations) (uuid : List ℕ) (rows : List FindRow) → IsList o rows → IsFinds o uuid (rows_under uuid rows)
unfolding under
part_of_list o uuid rows list = record {
  operations = filter (under uuid) list.operations;
  ascending = ascending_under uuid (filter (under uuid) list.operations) (recursion_from_All _ _ all_under)
      (IsStrictlySortedBy-filter list_cmp (under uuid) list.operations list.ascending);
  exactly = λ a. (to a, back a);
  rows_are = ap (rows_under uuid) list.rows_are ∙ sym (rows_of_under uuid list.operations);
}
  where
    is_under : (a : Operation) → (under uuid a ≡ true) ↔ ((key_in a).uuid ≡ uuid)
    is_under a = bytes_eq-Decides (key_in a).uuid uuid

    all_under : All (λ a. (key_in a).uuid ≡ uuid) (filter (under uuid) list.operations)
    all_under = All-weaker (λ a. under uuid a ≡ true) (λ a. (key_in a).uuid ≡ uuid) (λ a. (is_under a).0) _ (filter_passes (under uuid) list.operations)

    to : (a : Operation) → Contains (filter (under uuid) list.operations) a → IsOperation a × IsFoundUnder o uuid a
    to a h =
        let kept = in_filter (under uuid) list.operations a h in
        let told = (list.exactly a).0 kept.0 in
        (told.0, rw (← (is_under a).0 kept.1) told.1)

    back : (a : Operation) → IsOperation a × IsFoundUnder o uuid a → Contains (filter (under uuid) list.operations) a
    back a h =
        let is = found_under o uuid a h.1 in
        to_filter (under uuid) list.operations a ((list.exactly a).1 (h.0, rw is h.1)) ((is_under a).1 is)

-- so each content has rows under each UUID
pub some_finds : (o : Operations) (uuid : List ℕ) → IsContent o → (rows : List FindRow) × IsFinds o uuid rows
some_finds o uuid content = let list = some_list o content in (rows_under uuid list.0, part_of_list o uuid list.0 list.1)
