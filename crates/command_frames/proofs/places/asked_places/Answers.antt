use Rattle.std.proofs.Common.{rules}
use Rattle.std.specs.Ordering.{eq_by_cmp, is_lt}
use Rattle.std.proofs.lemmas.Fn.{always_returns_same, dedup_same}
use Rattle.std.proofs.lemmas.List.Sorted.{ranks_by}
use Rattle.command_frames.specs.declared.places.AskedPlace.{AskedPlace}
use Rattle.command_frames.specs.InnerPlaces.{asked_cmp}
use Rattle.command_frames.proofs.Runs.{asked_are, asked_total, once_sorted}
use Rattle.command_frames.proofs.places.asked_places.Goals as goal

pub returns : goal.returns
returns c =
    let once = dedup_same _ (eq_by_cmp asked_cmp) _ (λ x y b f x' y' called. search rules) _ _ c.dedup_by.ensures.filtered in
    record {
      are = asked_are _ _ _ _ c.in_ok-asked.ensures c.sort_unstable_by.ensures.permutation once;
      sorted = once_sorted _ _ (c.sort_unstable_by.ensures.sorted (λ (a b : AskedPlace). is_lt (asked_cmp a b)) (ranks_by asked_total (λ (a : AskedPlace). a))
          (always_returns_same _ _ _ (λ a r g called. (search rules, search rules)))) once;
    }
