use Rattle.std.proofs.Common.{List, ap, map, refl, sym, subst, arith, ◌∙◌}
use Rattle.std.proofs.lemmas.List.{nil_from_length}
use Rattle.command_frames.specs.InnerPlaces.{AreGroupedSoFar}
use Rattle.command_frames.specs.declared.places.AskedKey.{AskedKey}
use Rattle.command_frames.specs.declared.places.AskedPlace.{AskedPlace}
use Rattle.command_frames.proofs.Runs.{all_left, fewer_left, grouped_more, none_left}
use Rattle.command_frames.proofs.places.under_keys.Goals as goal

pub places-init : goal.places-init
places-init c = subst (AreGroupedSoFar c.args.asked.now c.args.asked.now) (sym c.new-keys.ensures.items) (all_left c.args.asked.now c.requires)

pub places-smaller : goal.places-smaller
places-smaller c = fewer_left c.in-Some.first.now c.places.left.now c.in-Some.ensures.value _ _ c.run_len.ensures.len c.split_at.ensures.back

pub places-preserved : goal.places-preserved
places-preserved c =
    let next : AskedKey = record { key = c.in-Some.first.now.key; places = c.in_ok-places.places } in
    rw (c.split_at.ensures.back, c.in_ok-push.ensures.items)
    (grouped_more c.args.asked.now c.places.left.now c.places.keys.items c.places.invariant c.in-Some.first.now
    c.in-Some.ensures.value c.run_len.result c.run_len.ensures.len next refl
    (c.in_ok-places.ensures ∙ ap (map (λ (one : AskedPlace). one.place)) c.split_at.ensures.front))

pub returns : goal.returns
returns c =
    none_left c.args.asked.now c.places.keys.items
    (subst (λ (left : List AskedPlace). AreGroupedSoFar c.args.asked.now left c.places.keys.items)
    (nil_from_length c.places.left.now (omega (arith, c.in_default.ensures.item.3))) c.places.invariant)
