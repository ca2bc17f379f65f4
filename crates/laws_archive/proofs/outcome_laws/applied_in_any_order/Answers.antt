use Rattle.std.proofs.Common.{◌↔◌, ℕ, Contains, List, ap, map, sym, subst}
use Rattle.archive_core.specs.Content.{HaveSameMembers}
use Rattle.archive_core.specs.Record.{record_bytes}
use Rattle.archive_core.specs.declared.operations.Operation.{Operation}
use Rattle.archive_core.proofs.Members.{in_map, to_map}
use Rattle.archive_records.specs.Text.{written}
use Rattle.laws_archive.proofs.outcome_laws.applied_in_any_order.Goals as goal

carried : (operations others : List Operation) → ((operation : Operation) → Contains operations operation → Contains others operation)
    → (r : List ℕ) → Contains (map record_bytes operations) r → Contains (map record_bytes others) r
carried operations others all r in_all =
    let found = in_map record_bytes operations r in_all in
    subst (λ (s : List ℕ). Contains (map record_bytes others) s) (sym found.2) (to_map record_bytes others found.0 (all found.0 found.1))

same_records : (operations others : List Operation) → ((operation : Operation) → Contains operations operation ↔ Contains others operation)
    → HaveSameMembers (map record_bytes operations) (map record_bytes others)
same_records operations others same r =
    (carried operations others (λ operation. (same operation).0) r, carried others operations (λ operation. (same operation).1) r)

pub returns : goal.returns
returns c =
    let laws = c.takes_in_any_order.ensures in
    record {
      content = λ o operations is_made. laws.union o (map record_bytes operations) is_made;
      order = λ o operations others is_made same. laws.order o (map record_bytes operations) (map record_bytes others)
          is_made (same_records operations others same);
      text = λ o operations others is_made same. ap written
          (laws.order o (map record_bytes operations) (map record_bytes others) is_made
          (same_records operations others same));
    }
