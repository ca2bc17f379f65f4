use Rattle.std.proofs.Common.{ℕ, List, Option, None, refl, subst, get_or}
use Rattle.dwarf_source_frames.specs.SectionsViews.{sections_view}
use Rattle.dwarf_asked_frames.proofs.FoundLemmas.{AreUnder, found_under, is_under, of_unit_placed}
use Rattle.dwarf_asked_frames.proofs.address_frames.find.Goals as goal

pub find_all-requires-clause-units : goal.find_all-requires-clause-units
find_all-requires-clause-units c =
    let s = sections_view c.args.info.now.sections in
    let addresses = c.args.addresses.now in
    let places = c.in_ok-places.places.items in
    let by_unit = c.in_ok-by_unit.by_unit in
    let under = subst (λ (ps : List (Option ℕ)). AreUnder addresses ps by_unit) c.deref.ensures.value c.in_ok-by_unit.ensures.under in
    of_unit_placed s addresses places by_unit c.in_ok-places.ensures under

pub returns : goal.returns
returns c = λ i h.
    let s = sections_view c.args.info.now.sections in
    let addresses = c.args.addresses.now in
    let places = c.in_ok-places.places.items in
    let a = get_or addresses i 0 in
    let own = get_or places i None in
    let by_unit = c.in_ok-by_unit.by_unit in
    let under = subst (λ (ps : List (Option ℕ)). AreUnder addresses ps by_unit) c.deref.ensures.value c.in_ok-by_unit.ensures.under in
    found_under s c.in_ok-found.found by_unit a own c.in_ok-found.ensures.right (c.in_ok-places.ensures.each i h)
    (is_under addresses places by_unit under a own (i, h, refl, refl)) c.in_ok-found.ensures.each
