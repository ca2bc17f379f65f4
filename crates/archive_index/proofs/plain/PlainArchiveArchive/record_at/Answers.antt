use Rattle.std.proofs.Common.{◌≡◌, ◌<◌, List, [], ℕ, sym, ◌∙◌, ap, arith, map, length, get_or}
use Rattle.std.proofs.Math.ListN.{length-map}
use Rattle.std.proofs.lemmas.List.{get_or-map}
use Rattle.std.specs.Ordering.{nat_cmp}
use Rattle.std.specs.Cmp.Lexicographic.{slice_cmp, nat_list_cmp_total}
use Rattle.std.specs.FinSet as set
use Rattle.join_core.specs.Listing.{listing}
use Rattle.join_core.proofs.Place.{len_listed}
use Rattle.join_core.proofs.Listing.{listing_ascending}
use Rattle.archive_core.specs.Record.{record_bytes}
use Rattle.archive_core.specs.InnerHeld.{IsHeld}
use Rattle.archive_core.specs.declared.operations.Operation.{Operation}
use Rattle.archive_index.proofs.Held.{bytes_same}
use Rattle.archive_index.proofs.plain.PlainArchiveArchive.record_at.Goals as goal

within : (items : List Operation) (s : set.FinSet (slice_cmp nat_cmp)) (i : ℕ) → IsHeld items
    → set.from_list (map record_bytes items) ≡ s → i < set.len s → i < length items
within items s i held is lt = omega (
  arith,
  len_listed nat_list_cmp_total bytes_same (map record_bytes items)
      held.ascending,
  length-map items record_bytes,
  ap set.len is,
)

-- the operation at a place has the record there
placed : (items : List Operation) (s : set.FinSet (slice_cmp nat_cmp)) (i : ℕ) (one : Operation) → IsHeld items
    → set.from_list (map record_bytes items) ≡ s → i < length items → one ≡ get_or items i one → record_bytes one
    ≡ get_or (listing s) i []
placed items s i one held is lt at = ap record_bytes at ∙ sym (get_or-map record_bytes items i one [] lt)
    ∙ ap (λ l. get_or l i []) (sym (listing_ascending nat_list_cmp_total bytes_same (map record_bytes items)
    held.ascending) ∙ ap listing is)

pub index-requires : goal.index-requires
index-requires c = let lt = within c.self.inside.operations.items c.args.self.now c.args.index c.self.invariant
    c.self.view_is c.requires in omega (arith, lt, c.self.inside.operations.ok.0)

pub returns : goal.returns
returns c =
    let items = c.self.inside.operations.items in
    let lt = within items c.args.self.now c.args.index c.self.invariant c.self.view_is c.requires in
    c.lend.ensures.record ∙ placed items c.args.self.now c.args.index c.index.result.now c.self.invariant c.self.view_is lt c.index.ensures
