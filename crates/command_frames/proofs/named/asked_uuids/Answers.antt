use Rattle.std.proofs.Common.{◌≡◌, ℕ, ◌++◌, List, length, Result, Ok, Err, sym, ◌∙◌, subst}
use Rattle.std.specs.Prelude.{All, IfOk, Vec}
use Rattle.std.specs.List.Sorted.{IsStrictlySortedBy}
use Rattle.std.specs.Ordering.{nat_cmp}
use Rattle.std.specs.Cmp.Lexicographic.{slice_cmp}
use Rattle.archive_core.specs.declared.keys.SliceKey.{SliceKey}
use Rattle.command_queries.specs.Frames.{frame_keys}
use Rattle.command_queries.specs.Slices.{AreUuidsOf}
use Rattle.command_frames.specs.Asking.{AreAskedUuids}
use Rattle.command_frames.proofs.named.asked_uuids.Goals as goal

of_bytes : {A E : Type 0} (keys : List SliceKey) (uuids : List (List ℕ)) (r : Result (Vec (List ℕ) A) E) → IfOk r (λ b. b.items ≡ uuids)
    → IfOk r (λ b. All (λ (u : List ℕ). length u ≡ 16) b.items) → AreUuidsOf keys uuids
    → IsStrictlySortedBy (slice_cmp nat_cmp) uuids → IfOk r (λ b. AreAskedUuids keys b.items)
of_bytes keys uuids (Ok b) same long are up = record {
  are = subst (λ (us : List (List ℕ)). AreUuidsOf keys us) (sym same) are;
  ascending = subst (λ (us : List (List ℕ)). IsStrictlySortedBy (slice_cmp nat_cmp) us) (sym same) up;
  long = long;
}
of_bytes keys uuids (Err e) same long are up = tt

pub returns : goal.returns
returns c =
    let keys = c.args.keys.now ++ frame_keys c.args.frames.now in
    let are = subst (λ (ks : List SliceKey). AreUuidsOf ks c.in_ok-uuids.uuids.items) (c.deref.ensures.value ∙ c.in_ok-all.ensures) c.in_ok-uuids.ensures.are in
    of_bytes keys c.deref-2.result.now c.bytes_of_each.result c.bytes_of_each.ensures.same c.bytes_of_each.ensures.long
    (subst (λ (us : List (List ℕ)). AreUuidsOf keys us) (sym c.deref-2.ensures.value) are)
    (subst (λ (us : List (List ℕ)). IsStrictlySortedBy (slice_cmp nat_cmp) us) (sym c.deref-2.ensures.value) c.in_ok-uuids.ensures.ascending)
