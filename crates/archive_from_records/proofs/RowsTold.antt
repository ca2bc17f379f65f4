-- Rows that are made record by record, and put in the order of a list.
use Rattle.std.proofs.Common.{◌≡◌, ℕ, ◌+◌, ◌<◌, zero, suc, Bool, true, false, not, ◌&&◌, List, [], ◌∷◌, ◌++◌, length}
use Rattle.std.proofs.Common.{map, get_or, w32, refl, sym, ap, ◌∙◌, subst, arith, add-one}
use Rattle.std.proofs.Math.ListN.{length-map}
use Rattle.std.specs.Prelude.{All}
use Rattle.std.specs.Int.{to_be_bytes}
use Rattle.std.specs.declared.cmp.Ordering.{Ordering}
use Rattle.std.specs.declared.cmp.Ordering.TheVariants.{Less}
use Rattle.std.specs.Ordering.{is_lt, ordering_then, ordering_reverse}
use Rattle.std.specs.Cmp.Lexicographic.{nat_list_cmp_total}
use Rattle.std.specs.FinSet as set
use Rattle.std.specs.List.Sorted.{IsSorted, IsSortedBy, IsStrictlySortedBy, IsPermutation, IsStableBy}
use Rattle.std.proofs.lemmas.List.{map-append, get_or-map}
use Rattle.std.proofs.lemmas.List.Elements.{All-push, All-get_or, recursion_from_All}
use Rattle.std.proofs.lemmas.List.Sorted.{All-permutation, ties_stay_sorted, ranks_by}
use Rattle.join_core.specs.Listing.{listing}
use Rattle.join_core.proofs.Listing.{listed}
use Rattle.archive_core.specs.Key.{IsKey, key_bytes}
use Rattle.archive_core.specs.Record.{record_bytes, IsOperation, borrowed_bytes, operation_borrowed}
use Rattle.archive_core.specs.Content.{Operations, IsContent, IsMade}
use Rattle.archive_core.specs.Find.{key_in, arch_cmp, row_of}
use Rattle.archive_core.specs.Lists.{list_cmp, IsList}
use Rattle.archive_core.specs.InnerHeld.{IsHeld}
use Rattle.archive_core.specs.declared.find.FindRow.{FindRow}
use Rattle.archive_core.specs.declared.keys.SliceKey.{SliceKey}
use Rattle.archive_core.specs.declared.operations.Operation.{Operation}
use Rattle.archive_core.specs.declared.operations.Record.{Record}
use Rattle.archive_core.proofs.Compare.{then_assoc, three_parts}
use Rattle.archive_core.proofs.Digits.{cmp_four}
use Rattle.archive_core.proofs.Told.{list_sorted}
use Rattle.archive_core.proofs.Made.{bytes_same}
use Rattle.archive_from_records.specs.InnerRows.{AreRowsOf}
use Rattle.archive_records.specs.Reader.{set_of}
use Rattle.archive_records.proofs.Contents.{order, content_is}
use Rattle.archive_from_records.proofs.Stable.{lifted}

-- ---- one row more

pub no_rows : AreRowsOf [] []
no_rows = record { operations = []; are = λ i d lt. absurd (omega arith); keys_are = λ i d lt. absurd (omega arith); records_are = refl; rows_are = refl }

-- the row of a record that is borrowed
pub rows_more : (records : List (List ℕ)) (bytes : List ℕ) (borrowed : Record) (rows grown : List FindRow)
    (row : FindRow) → grown ≡ rows ++ row ∷ [] → borrowed_bytes borrowed ≡ bytes
    → row ≡ row_of (operation_borrowed borrowed) → IsOperation (operation_borrowed borrowed) → IsKey row.key
    → AreRowsOf records rows → AreRowsOf (records ++ bytes ∷ []) grown
rows_more records bytes borrowed rows grown row more same is valid key all =
    let operation = operation_borrowed borrowed in
    record {
      operations = all.operations ++ operation ∷ [];
      are = All-push IsOperation all.operations operation all.are valid;
      keys_are = All-push (λ a. IsKey (key_in a)) all.operations operation all.keys_are (subst IsKey (ap (λ (r : FindRow). r.key) is) key);
      records_are = map-append record_bytes all.operations (operation ∷ []) ∙ (λ i. all.records_are i ++ same i ∷ []);
      rows_are = more ∙ (λ i. all.rows_are i ++ is i ∷ []) ∙ sym (map-append row_of all.operations (operation ∷ []));
    }

-- ---- the order of keys

abbrev pub key_cmp : SliceKey → SliceKey → Ordering
key_cmp a b = order (key_bytes a) (key_bytes b)

-- as their bytes stand in records, by UUID and then by architecture
key_parts : (a b : SliceKey) → IsKey a → IsKey b → key_cmp a b ≡ ordering_then (order a.uuid b.uuid) (arch_cmp a.arch b.arch)
unfolding key_bytes
key_parts a b is_a is_b =
    three_parts a.uuid (to_be_bytes w32 a.arch.cputype) (to_be_bytes w32 a.arch.cpusubtype) b.uuid
    (to_be_bytes w32 b.arch.cputype) (to_be_bytes w32 b.arch.cpusubtype) (is_a.uuid ∙ sym is_b.uuid) (omega arith)
    ∙ then_assoc (order a.uuid b.uuid) (order (to_be_bytes w32 a.arch.cputype) (to_be_bytes w32 b.arch.cputype))
    (order (to_be_bytes w32 a.arch.cpusubtype) (to_be_bytes w32 b.arch.cpusubtype))
    ∙ sym (λ i. ordering_then (order a.uuid b.uuid) (ordering_then
    (cmp_four a.arch.cputype b.arch.cputype is_a.cputype is_b.cputype i)
    (cmp_four a.arch.cpusubtype b.arch.cpusubtype is_a.cpusubtype is_b.cpusubtype i)))

list_parts : (a b : Operation) → IsKey (key_in a) → IsKey (key_in b) → list_cmp a b
    ≡ ordering_then (key_cmp (key_in a) (key_in b)) (order (record_bytes a) (record_bytes b))
list_parts a b is_a is_b =
    sym (then_assoc (order (key_in a).uuid (key_in b).uuid) (arch_cmp (key_in a).arch (key_in b).arch) (order (record_bytes a) (record_bytes b)))
    ∙ ap (λ o. ordering_then o (order (record_bytes a) (record_bytes b))) (sym (key_parts (key_in a) (key_in b) is_a is_b))

-- ---- a list that ascends strictly is sorted

not_above : (a b : Ordering) → a ≡ Less → b ≡ ordering_reverse a → is_lt b ≡ false
not_above a b e f = ap is_lt (f ∙ ap ordering_reverse e)

sorted_operations : (ops : List Operation) → IsStrictlySortedBy order (map record_bytes ops) → (k : ℕ) (d : Operation)
    → suc k < length ops → is_lt (order (record_bytes (get_or ops (suc k) d)) (record_bytes (get_or ops k d))) ≡ false
unfolding IsStrictlySortedBy
sorted_operations [] up k d lt = absurd (omega arith)
sorted_operations (x ∷ []) up k d lt = absurd (omega arith)
sorted_operations (x ∷ y ∷ ops) up zero d lt = not_above (order (record_bytes x) (record_bytes y))
    (order (record_bytes y) (record_bytes x)) up.0.0 (nat_list_cmp_total.antisymm (record_bytes y) (record_bytes x))
sorted_operations (x ∷ y ∷ ops) up (suc k) d lt = sorted_operations (y ∷ ops) up.1 k d (omega arith)

-- ---- the order of a list

abbrev pub by_key : FindRow → FindRow → Bool
by_key a b = is_lt (key_cmp a.key b.key)

abbrev op_key : Operation → Operation → Bool
op_key a b = by_key (row_of a) (row_of b)

-- the later of two neighbours is not the lower one
in_list : (keys turned records : Ordering) → turned ≡ ordering_reverse keys → is_lt keys ≡ false
    → ((not (is_lt turned) && not (is_lt keys)) ≡ true → is_lt records ≡ false) → is_lt (ordering_then keys records)
    ≡ false
in_list keys turned records e h tie = grind arith

module _ (ops told : List Operation) (moved : IsPermutation ops told) (keys : All (λ a. IsKey (key_in a)) ops)
    (up : IsStrictlySortedBy order (map record_bytes ops)) (sorted : IsSortedBy by_key (map row_of told))
    (stable : IsStableBy op_key ops told) where
  keys_told : All (λ a. IsKey (key_in a)) told
  keys_told = All-permutation (λ a. IsKey (key_in a)) ops told moved keys

  list_ordered : IsSorted list_cmp told
  list_ordered k d low high =
      let a = get_or told (k + 1) d in
      let b = get_or told k d in
      let inside : k < length told = omega arith in
      let not_lower : op_key a b ≡ false =
      sym (λ i. by_key (get_or-map row_of told (k + 1) d (row_of d) high i) (get_or-map row_of told k d (row_of d) inside i))
      ∙ sorted k (row_of d) (omega arith) (omega (arith, length-map told row_of)) in
      ap is_lt (list_parts a b (All-get_or (λ a. IsKey (key_in a)) told (k + 1) d high keys_told)
      (All-get_or (λ a. IsKey (key_in a)) told k d inside keys_told))
      ∙ in_list (key_cmp (key_in a) (key_in b)) (key_cmp (key_in b) (key_in a))
      (order (record_bytes a) (record_bytes b)) (nat_list_cmp_total.antisymm (key_bytes (key_in b))
      (key_bytes (key_in a))) not_lower
      (ties_stay_sorted (λ x y. is_lt (order (record_bytes x) (record_bytes y))) op_key
      (ranks_by nat_list_cmp_total record_bytes) (ranks_by nat_list_cmp_total (λ x. key_bytes (key_in x))) ops told
      (λ j e from to. ap (λ n. is_lt (order (record_bytes (get_or ops n e)) (record_bytes (get_or ops j e))))
      (add-one j) ∙ sorted_operations ops up j e (omega arith)) stable k d high)

-- what the content holds
held_in : (o : Operations) (ops : List Operation) → IsContent o → All IsOperation ops → map record_bytes ops ≡ listing o → IsHeld ops
held_in o ops content are is = record {
  ascending = subst (IsStrictlySortedBy order) (sym is) (listed nat_list_cmp_total bytes_same o).ascending;
  are = recursion_from_All IsOperation ops are;
  itself = subst IsMade (content_is o ∙ ap set_of (sym is)) content.itself;
}

-- rows in the order of their records, put in a stable order by key, are the list
pub list_of : (o : Operations) (rows told : List FindRow) → IsContent o → AreRowsOf (listing o) rows
    → IsSortedBy by_key told → IsStableBy by_key rows told → IsList o told
list_of o rows told content all sorted stable =
    let ranks = ranks_by nat_list_cmp_total (λ row. key_bytes row.key) in
    let l = lifted by_key ranks row_of all.operations told (subst (λ xs. IsStableBy by_key xs told) all.rows_are stable) in
    let held = held_in o all.operations content all.are all.records_are in
    let same : set.from_list (map record_bytes all.operations) ≡ o = ap set_of all.records_are ∙ sym (content_is o) in
    subst (IsList o) (sym l.are) (list_sorted o all.operations l.told content held same l.moved
    (list_ordered all.operations l.told l.moved all.keys_are held.ascending (subst (IsSortedBy by_key) l.are sorted) (λ x. l.stable (row_of x))))
