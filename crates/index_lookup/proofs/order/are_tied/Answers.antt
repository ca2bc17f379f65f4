use Rattle.std.proofs.Common.{◌≡◌, ◌+◌, ◌&&◌, Bool, true, false, map, take, sym, subst, ap, refl, ◌∙◌, arith}
use Rattle.std.specs.Str.{bytes_eq}
use Rattle.std.proofs.Math.ListN.{length-map}
use Rattle.std.proofs.lemmas.Bool.{and_parts, eqb-false, eqb-true}
use Rattle.std.proofs.lemmas.List.{get_or-map}
use Rattle.std.proofs.lemmas.Option.{get_or_from_slice_get, slice_get_within}
use Rattle.index_lookup.proofs.Places.{elsewhere_parts, same_index}
use Rattle.index_format.specs.Entry.{length_in}
use Rattle.index_lookup.specs.InnerAnswering.{entry_at, has_same_length_elsewhere}
use Rattle.index_lookup.proofs.Lists.{map_within, read_map}
use Rattle.index_lookup.proofs.Tied.{ArePassed, alike_more, all_passed, longer, none_passed, tied}
use Rattle.index_lookup.proofs.order.are_tied.Goals as goal

pub entries-init : goal.entries-init
entries-init c = none_passed (map entry_at c.args.entries.now) (entry_at c.in-Some.first.now)
    (omega (arith, length-map c.args.entries.now entry_at, slice_get_within c.args.entries.now 0 c.in-Some.first.now (sym c.in-Some.ensures.value)))
    (λ d. sym (get_or-map entry_at c.args.entries.now 0 c.in-Some.first.now d
    (slice_get_within c.args.entries.now 0 c.in-Some.first.now (sym c.in-Some.ensures.value))
    ∙ ap entry_at (get_or_from_slice_get c.args.entries.now 0 c.in-Some.first.now c.in-Some.first.now
    (sym c.in-Some.ensures.value))))

pub entries-preserved-then-not-have_one_length : goal.entries-preserved-then-not-have_one_length
entries-preserved-then-not-have_one_length c =
    let ns = c.args.entries.now in
    let i = c.entries.next-index in
    let n = c.next-item.result in
    let lt = map_within entry_at ns i n c.entries-test.true c.next-item.is in
    let is = read_map entry_at ns i n c.entries-test.true c.next-item.is in
    longer (map entry_at ns) i (entry_at c.entries.first) c.entries.differ (entry_at n) c.requires lt is c.entries.invariant
    (eqb-false (length_in (entry_at n).entry) (length_in (entry_at c.entries.first).entry) (sym c.have_one_length.ensures ∙ c.if-not-have_one_length.true))

pub returns-then-ties : goal.returns-then-ties
returns-then-ties c =
    let ns = c.args.entries.now in
    let i = c.entries.next-index in
    let n = c.next-item.result in
    let first = entry_at c.entries.first in
    let lt = map_within entry_at ns i n c.entries-test.true c.next-item.is in
    let is = read_map entry_at ns i n c.entries-test.true c.next-item.is in
    let same = eqb-true (length_in (entry_at n).entry) (length_in first.entry) (sym c.have_one_length.ensures ∙ c.if-not-have_one_length.false) in
    let some = and_parts c.differ_now-differ.result (has_same_length_elsewhere (entry_at n) first) (sym c.ties.ensures ∙ c.if-ties.true) in
    tied (map entry_at ns) i first c.entries.differ (entry_at n) c.requires lt is c.entries.invariant
    same (bytes_eq (take 57 first.entry) (take 57 (entry_at n).entry)) refl (sym c.differ_now-differ.ensures ∙ some.0)
    (elsewhere_parts (entry_at n) first some.1).1

pub entries-preserved : goal.entries-preserved
entries-preserved c =
    let ns = c.args.entries.now in
    let i = c.entries.next-index in
    let n = c.next-item.result in
    let first = entry_at c.entries.first in
    let lt = map_within entry_at ns i n c.entries-test.true c.next-item.is in
    let is = read_map entry_at ns i n c.entries-test.true c.next-item.is in
    let same = eqb-true (length_in (entry_at n).entry) (length_in first.entry) (sym c.have_one_length.ensures ∙ c.if-not-have_one_length.false) in
    let not_tied = sym c.ties.ensures ∙ c.if-ties.false in
    subst (ArePassed (map entry_at ns) (i + 1) first) (sym c.differ_now-differ.ensures)
    (alike_more (map entry_at ns) i first c.entries.differ (entry_at n) c.requires lt is c.entries.invariant same
    (bytes_eq (take 57 first.entry) (take 57 (entry_at n).entry)) refl
    (λ some. same_index (entry_at n) first (here c.differ_now-differ.result
    (has_same_length_elsewhere (entry_at n) first) not_tied (c.differ_now-differ.ensures ∙ some)) same))
  where
    here : (d e : Bool) → (d && e) ≡ false → d ≡ true → e ≡ false
    here d e off on = grind arith

pub returns : goal.returns
returns c =
    let xs = map entry_at c.args.entries.now in
    all_passed xs c.entries.next-index (entry_at c.entries.first) c.entries.differ
    (omega (arith, c.entries-test.false, length-map c.args.entries.now entry_at)) c.entries.invariant
