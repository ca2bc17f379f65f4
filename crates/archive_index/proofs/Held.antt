-- What a plain archive keeps, as records.
use Rattle.std.proofs.Common.{◌≡◌, ℕ, take, drop, true, List, [], ◌∷◌, map, refl, sym, ap, ◌∙◌}
use Rattle.std.proofs.lemmas.List.{map-append, take-map, drop-map}
use Rattle.std.proofs.lemmas.List.Elements.{All-from_recursion, recursion_from_All}
use Rattle.std.proofs.lemmas.List.Sorted.{All-permutation, IsPermutation-insert}
use Rattle.std.specs.Ordering.{nat_cmp}
use Rattle.std.specs.Cmp.Lexicographic.{slice_cmp, nat_list_cmp_total}
use Rattle.std.specs.List.{AllByRecursion, insert as insert_at}
use Rattle.std.specs.List.Sorted.{IsStrictlySortedBy}
use Rattle.std.specs.FinSet as set
use Rattle.std.specs.FinSet.{from_list, contains, contains-empty, contains-insert}
use Rattle.join_core.specs.InnerSearch.{IsPlaceFor}
use Rattle.join_core.proofs.Place.{from_list_insert}
use Rattle.archive_core.specs.Record.{record_bytes, IsRecord, IsOperation}
use Rattle.archive_core.specs.Content.{IsContent, IsMade, with_record}
use Rattle.archive_core.specs.InnerHeld.{IsHeld}
use Rattle.archive_core.specs.declared.operations.Operation.{Operation}
use Rattle.archive_core.proofs.Records.{record_of_operation}
use Rattle.archive_core.proofs.Made.{either, made_again, made_empty, from_made}
use Rattle.archive_core.proofs.Taken.{tied_is}
pub use Rattle.archive_core.proofs.Made.{bytes_same}

-- what holds along a list holds of each member of its set
pub each_member : (P : List ℕ → Type 0) (ks : List (List ℕ)) → AllByRecursion P ks → (r : List ℕ)
    → contains (from_list {R = slice_cmp nat_cmp} ks) r ≡ true → P r
each_member P [] all r h = cc (sym h ∙ contains-empty (slice_cmp nat_cmp) r)
each_member P (k ∷ ks) all r h =
    either (P r) _ _ (λ t. rw (tied_is r k t) all.0) (each_member P ks all.1 r) (sym (contains-insert nat_list_cmp_total (from_list ks) k r) ∙ h)

-- operations have records
records_along : (operations : List Operation) → AllByRecursion IsOperation operations → AllByRecursion IsRecord (map record_bytes operations)
records_along [] are = tt
records_along (x ∷ xs) are = (record_of_operation x are.0, records_along xs are.1)

-- what has the records of operations has no others
pub are_records : (operations : List Operation) → AllByRecursion IsOperation operations → (r : List ℕ)
    → contains (from_list {R = slice_cmp nat_cmp} (map record_bytes operations)) r ≡ true → IsRecord r
are_records operations are = each_member IsRecord (map record_bytes operations) (records_along operations are)

-- what is held makes a content
pub content_of_held : (operations : List Operation) → IsHeld operations → IsContent (from_list (map record_bytes operations))
content_of_held operations held = record { itself = held.itself; records = are_records operations held.are }

-- an operation that goes in brings its record to that place
pub map_insert : (xs : List Operation) (i : ℕ) (x : Operation) → map record_bytes (insert_at xs i x) ≡ insert_at (map record_bytes xs) i (record_bytes x)
map_insert xs i x = rw (map-append record_bytes (take i xs) (x ∷ drop i xs), take-map record_bytes i xs, drop-map record_bytes i xs) refl

-- a list keeps a fact of each element where one goes in that has it
pub along_insert : (P : Operation → Type 0) (xs : List Operation) (i : ℕ) (x : Operation) → P x → AllByRecursion P xs → AllByRecursion P (insert_at xs i x)
along_insert P xs i x p h = recursion_from_All P _ (All-permutation P (x ∷ xs) _ (IsPermutation-insert xs i x) (All-from_recursion P (x ∷ xs) (p, h)))

-- an operation may go in at the place of its record, where none then covers another
pub held_insert : (operations : List Operation) (i : ℕ) (operation : Operation) → IsHeld operations
    → IsOperation operation → IsPlaceFor (slice_cmp nat_cmp) (map record_bytes operations) (record_bytes operation) i
    → IsMade (from_list (map record_bytes (insert_at operations i operation))) → IsHeld (insert_at operations i operation)
held_insert operations i operation held one asked made = record {
  ascending = rw (map_insert operations i operation) asked.ascending;
  are = along_insert IsOperation operations i operation one held.are;
  itself = made;
}

-- an operation that is taken leaves a content
pub content_with : (o next : set.FinSet (slice_cmp nat_cmp)) (operation : Operation) → IsContent o
    → IsOperation operation → next ≡ with_record o (record_bytes operation) → IsContent next
content_with o next operation content one is = rw is (record {
  itself = made_again (set.insert o (record_bytes operation));
  records = λ r h.
      either (IsRecord r) _ _ (λ t. rw (tied_is r (record_bytes operation) t) (record_of_operation operation one)) (content.records r)
      (sym (contains-insert nat_list_cmp_total o (record_bytes operation) r) ∙ from_made (set.insert o (record_bytes operation)) r h);
})

-- no operations are held in order
pub held_none : IsHeld []
unfolding IsStrictlySortedBy
held_none = record { ascending = tt; are = tt; itself = made_empty }

-- and the content gains its record
pub records_insert : (operations : List Operation) (i : ℕ) (operation : Operation)
    → from_list {R = slice_cmp nat_cmp} (map record_bytes (insert_at operations i operation))
    ≡ set.insert (from_list (map record_bytes operations)) (record_bytes operation)
records_insert operations i operation = ap from_list (map_insert operations i operation)
    ∙ from_list_insert nat_list_cmp_total bytes_same (map record_bytes operations) i (record_bytes operation)
