use Rattle.std.proofs.Common.{◌≡◌, ◌-◌, ◌<◌, true, List, [], ◌∷◌, Some, Err, length, map, slice_get, get_or, sym, ap, ◌∙◌, arith}
use Rattle.std.specs.Ordering.{nat_cmp, is_lt}
use Rattle.std.specs.declared.cmp.Ordering.{Ordering}
use Rattle.std.specs.declared.cmp.Ordering.TheVariants.{Less}
use Rattle.std.specs.Cmp.Lexicographic.{slice_cmp, nat_list_cmp_total}
use Rattle.std.specs.List.Sorted.{IsStrictlySortedBy}
use Rattle.std.proofs.Math.ListN.{length-map}
use Rattle.std.proofs.lemmas.List.{get_or-map}
use Rattle.std.proofs.lemmas.Option.{slice_get-get_or}
use Rattle.join_core.specs.InnerSearch.{IsFound}
use Rattle.join_core.proofs.Search.{searched_last}
use Rattle.archive_core.specs.Record.{record_bytes}
use Rattle.archive_core.specs.declared.operations.Operation.{Operation}
use Rattle.archive_index.proofs.plain.search_from_end.Goals as goal

less : (r : Ordering) → is_lt r ≡ true → r ≡ Less
less r h = grind arith

-- an operation above the last goes to the end
at_end : (operations : List Operation) (last operation : Operation)
    → IsStrictlySortedBy (slice_cmp nat_cmp) (map record_bytes operations) → Some last
    ≡ slice_get operations (length operations - 1) → is_lt
    (slice_cmp nat_cmp (record_bytes last) (record_bytes operation)) ≡ true
    → IsFound (slice_cmp nat_cmp) (map record_bytes operations) (record_bytes operation) (Err (length operations))
at_end [] last operation up is below = cc
at_end (x ∷ xs) last operation up is below =
    let lt : length (x ∷ xs) - 1 < length (x ∷ xs) = omega arith in
    let at : Some last ≡ Some (get_or (x ∷ xs) (length (x ∷ xs) - 1) x) = is ∙ slice_get-get_or (x ∷ xs) (length (x ∷ xs) - 1) x lt in
    let same : last ≡ get_or (x ∷ xs) (length (x ∷ xs) - 1) x = cc in
    let long : length (map record_bytes (x ∷ xs)) ≡ length (x ∷ xs) = length-map (x ∷ xs) record_bytes in
    let end : get_or (map record_bytes (x ∷ xs)) (length (x ∷ xs) - 1) (record_bytes x)
    ≡ record_bytes last = get_or-map record_bytes (x ∷ xs) (length (x ∷ xs) - 1) x (record_bytes x) lt
    ∙ ap record_bytes (sym same) in
    rw long at (searched_last nat_list_cmp_total (map record_bytes (x ∷ xs)) (record_bytes operation) (record_bytes x)
    up (rw long (omega arith)) (rw (long, end) (less _ below)))

pub returns-then-is_lt-clause-found : goal.returns-then-is_lt-clause-found
returns-then-is_lt-clause-found c =
    at_end c.args.operations.now c.in-Some.last.now c.args.operation.now c.requires c.in-Some.ensures.value
    (ap is_lt (sym c.compare.ensures) ∙ sym c.is_lt.ensures ∙ c.if-is_lt.true)
