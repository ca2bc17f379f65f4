use Rattle.std.proofs.Common.{◌≡◌, ◌<◌, ◌≤◌, ◌-◌, ◌^◌, ◌∙◌, ◌++◌, ◌∷◌, [], ℕ, List, Option, None, Some, ap, arith, get_or, length, refl, subst, sym, IfSome}
use Rattle.dwarf_functions.specs.Links.{AreFramesOfRowAndLink}
use Rattle.std.specs.Option.{option_map_or}
use Rattle.std.proofs.lemmas.List.{length-map}
use Rattle.dwarf_functions.specs.LinkViews.{link_view, links_view}
use Rattle.dwarf_functions.specs.declared.links.Links.{Links}
use Rattle.dwarf_lines.specs.declared.registers.Row.{Row}
use Rattle.dwarf_functions.specs.AddressSteps.{at_step}
use Rattle.dwarf_source_frames.specs.FrameViews.{lines_view}
use Rattle.dwarf_asked_addresses.specs.Rising.{AreRising, IsCountBelow}
use Rattle.dwarf_frame_changes.specs.Between.{AreFramesAt, IsCountTo, IsMerged, IsNextStart, parts_of}
use Rattle.dwarf_frame_changes.proofs.GivenLemmas.{takes_more, takes_none}
use Rattle.dwarf_frame_changes.proofs.MergeLemmas.{AreTurnsBelow, IsUpto, above_upto, all_below, falls, links_next}
use Rattle.dwarf_frame_changes.proofs.MergeLemmas.{merged_first, merged_next, none_below, rows_next, turns_more}
use Rattle.dwarf_frame_changes.proofs.merging.UnitParts.push_turns_between.Goals as goal

pub turns-init : goal.turns-init
turns-init g c =
    let starts = c.args.rows.now.starts.items in
    let links = c.args.self.now.links.starts.items in
    let parts = parts_of (lines_view c.args.lines.now) c.args.rows.now c.args.self.now.links in
    record {
      links = refl;
      told = c.requires.told;
      row = subst (λ (xs : List ℕ). IsCountBelow xs c.args.from c.count_below-row.result) c.deref.ensures.value
          (c.count_below-row.ensures.is (subst (λ (xs : List ℕ). AreRising xs) (sym c.deref.ensures.value)
          c.requires.steps.rows_rise));
      link = subst (λ (xs : List ℕ). IsCountBelow xs c.args.from c.count_below-link.result) c.deref-2.ensures.value
          (c.count_below-link.ensures.is (subst (λ (xs : List ℕ). AreRising xs) (sym c.deref-2.ensures.value)
          c.requires.steps.links_rise));
      here = merged_first parts c.args.from c.args.end c.requires.below;
      given = ([], takes_none (g.T.FrameSink.has_received c.args.sink.now), none_below parts c.args.from c.args.end);
    }

pub push_turn-requires : goal.push_turn-requires
push_turn-requires g c = λ κs.
    let J = c.args.self.now.links in
    let same : ◌≡◌ {A = Links} c.turns.self.links J = c.turns.invariant.links in
    let most : (i : ℕ) → i < length J.numbers.items → get_or J.numbers.items i 0 ≤ length J.links.items = λ i h. let w =
    c.requires.steps.within i h in let e = length-map J.links.items link_view in omega (arith, w, e) in
    let most_now = subst (λ (l : Links). (i : ℕ) → i < length l.numbers.items → get_or l.numbers.items i 0 ≤ length l.links.items) (sym same) most in
    ((refl, tt), (c.number_of-number.ensures.most (length c.turns.self.links.links.items) most_now, c.turns.invariant.told))

pub turns-preserved : goal.turns-preserved
turns-preserved g c =
    let lines = lines_view c.args.lines.now in
    let rows = c.args.rows.now in
    let J = c.args.self.now.links in
    let parts = parts_of lines rows J in
    let from = c.args.from in
    let end = c.args.end in
    let at = c.in-Some.at in
    let row = c.count_to-row.result in
    let link = c.count_to-link.result in
    let number = c.number_of-number.result in
    let same : ◌≡◌ {A = Links} c.turns.self.links J = c.turns.invariant.links in
    let after : ◌≡◌ {A = Links} c.push_turn.new.self.links J = c.in_ok-push_turn.ensures.links ∙ same in
    let here : IsMerged parts from end at = subst (λ (o : Option ℕ). IfSome o (λ a. IsMerged parts from end a)) c.in-Some.is c.turns.invariant.here in
    let far : AreTurnsBelow parts from end (Some at) c.turns.invariant.given.0 =
    subst (λ (o : Option ℕ). AreTurnsBelow parts from end o c.turns.invariant.given.0) c.in-Some.is
    c.turns.invariant.given.2 in
    let row_to : IsCountTo rows.starts.items at row = subst (λ (xs : List ℕ). IsCountTo xs at row) c.deref-in-Some.ensures.value c.count_to-row.ensures in
    let link_now : IsCountTo c.turns.self.links.starts.items at link =
    subst (λ (xs : List ℕ). IsCountTo xs at link) c.deref-in-Some-2.ensures.value c.count_to-link.ensures in
    let link_to : IsCountTo J.starts.items at link = subst (λ (l : Links). IsCountTo l.starts.items at link) same link_now in
    let row_is : c.row_of.result ≡ at_step None rows.starts.items rows.rows.items at = c.row_of.ensures at row_to in
    let number_is : number ≡ at_step 0 J.starts.items J.numbers.items at =
    subst (λ (l : Links). number ≡ at_step 0 l.starts.items l.numbers.items at) same
    (c.number_of-number.ensures.is at link_now) in
    let given = c.in_ok-push_turn.ensures.given in
    let frames = given.0 in
    let told : AreFramesOfRowAndLink lines (links_view J.links.items) c.row_of.result number frames =
    subst (λ (l : Links). AreFramesOfRowAndLink lines (links_view l.links.items) c.row_of.result number frames) same
    given.1 in
    let told_row : AreFramesOfRowAndLink lines (links_view J.links.items)
    (at_step None rows.starts.items rows.rows.items at) number frames =
    subst (λ (r : Option Row). AreFramesOfRowAndLink lines (links_view J.links.items) r number frames) row_is told
    in
    let are : AreFramesAt parts at frames = subst (λ (n : ℕ). AreFramesOfRowAndLink lines (links_view J.links.items)
    (at_step None rows.starts.items rows.rows.items at) n frames) number_is told_row in
    let link_after : c.deref-in-Some-4.result.now ≡ J.starts.items = c.deref-in-Some-4.ensures.value ∙ ap (λ (l : Links). l.starts.items) after in
    let next_found = c.next_start-next.ensures at (subst (λ (xs : List ℕ). IsCountTo xs at row)
    (sym c.deref-in-Some-3.ensures.value) row_to) (subst (λ (xs : List ℕ). IsCountTo xs at link) (sym link_after)
    link_to) in
    let next : IsNextStart rows.starts.items J.starts.items at row link c.next_start-next.result =
    subst (λ (xs : List ℕ). IsNextStart xs J.starts.items at row link c.next_start-next.result) c.deref-in-Some-3.ensures.value
    (subst (λ (xs : List ℕ). IsNextStart c.deref-in-Some-3.result.now xs at row link c.next_start-next.result) link_after next_found) in
    let upto : IsUpto c.next_start-next.result end c.below-address.result = (c.below-address.ensures.some, c.below-address.ensures.none) in
    record {
      links = after;
      told = c.in_ok-push_turn.ensures.told;
      row = rows_next parts from end at c.turns.invariant.given.0 frames far here c.push_turn.ensures.fits are row link
          c.next_start-next.result c.below-address.result next upto;
      link = links_next parts from end at c.turns.invariant.given.0 frames far here c.push_turn.ensures.fits are row link
          c.next_start-next.result c.below-address.result next upto;
      here = merged_next parts from end at c.turns.invariant.given.0 frames far here c.push_turn.ensures.fits are row link
          c.next_start-next.result c.below-address.result next upto;
      given = (
        c.turns.invariant.given.0 ++ record { address = at; frames = frames } ∷ [],
        takes_more (g.T.FrameSink.has_received c.args.sink.now) (g.T.FrameSink.has_received c.turns.sink)
            (g.T.FrameSink.has_received c.push_turn.new.sink) c.turns.invariant.given.0
            (record { address = at; frames = frames } ∷ []) c.turns.invariant.given.1 given.2,
        turns_more parts from end at c.turns.invariant.given.0 frames far here c.push_turn.ensures.fits are row link
            c.next_start-next.result c.below-address.result next upto,
      );
    }

pub turns-smaller : goal.turns-smaller
turns-smaller g c =
    let rows = c.args.rows.now in
    let J = c.args.self.now.links in
    let at = c.in-Some.at in
    let row = c.count_to-row.result in
    let link = c.count_to-link.result in
    let same : ◌≡◌ {A = Links} c.push_turn.new.self.links c.turns.self.links = c.in_ok-push_turn.ensures.links in
    let row_to : IsCountTo rows.starts.items at row = subst (λ (xs : List ℕ). IsCountTo xs at row) c.deref-in-Some.ensures.value c.count_to-row.ensures in
    let link_to : IsCountTo c.turns.self.links.starts.items at link =
    subst (λ (xs : List ℕ). IsCountTo xs at link) c.deref-in-Some-2.ensures.value c.count_to-link.ensures in
    let link_after : c.deref-in-Some-4.result.now ≡ c.turns.self.links.starts.items = c.deref-in-Some-4.ensures.value
    ∙ ap (λ (l : Links). l.starts.items) same in
    let next = c.next_start-next.ensures at (subst (λ (xs : List ℕ). IsCountTo xs at row)
    (sym c.deref-in-Some-3.ensures.value) row_to) (subst (λ (xs : List ℕ). IsCountTo xs at link) (sym link_after)
    link_to) in
    let above = above_upto c.deref-in-Some-3.result.now c.deref-in-Some-4.result.now at row link
    c.next_start-next.result c.args.end c.below-address.result next
    (c.below-address.ensures.some, c.below-address.ensures.none) in
    let less = falls at c.below-address.result c.push_turn.ensures.fits above in
    subst (λ (o : Option ℕ). option_map_or (λ a. 2 ^ 64 - a) c.below-address.result 0 < option_map_or (λ a. 2 ^ 64 - a) o 0) (sym c.in-Some.is) less

pub returns-clause-given : goal.returns-clause-given
returns-clause-given g c = (
  c.turns.invariant.given.0,
  c.turns.invariant.given.1,
  all_below (parts_of (lines_view c.args.lines.now) c.args.rows.now c.args.self.now.links) c.args.from c.args.end c.turns.invariant.given.0
      (subst (λ (o : Option ℕ). AreTurnsBelow (parts_of (lines_view c.args.lines.now) c.args.rows.now
      c.args.self.now.links) c.args.from c.args.end o c.turns.invariant.given.0) c.in_default.is
      c.turns.invariant.given.2),
)
