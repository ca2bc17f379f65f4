use Rattle.std.proofs.Common.{◌≡◌, ◌+◌, ◌∙◌, ap, arith, get_or, length, refl, replicate, rules, subst, sym}
use Rattle.std.proofs.lemmas.List.{get_or-replicate, length-map, length-replicate}
use Rattle.table_source_frames_build.specs.KeptViews.{kept_view}
use Rattle.table_source_frames_build.specs.Places.{ArePlacesBelow}
use Rattle.table_source_frames_build.specs.declared.keys.TextKey.{TextKey}
use Rattle.table_source_frames_build.proofs.NoteLemmas.{all_placed, none_placed}
use Rattle.table_source_frames_build.proofs.PlaceLemmas.{next_begins}
use Rattle.table_source_frames_build.proofs.kept.Kept.places.Goals as goal

pub strings-init : goal.strings-init
strings-init c =
    let zeros : c.in_ok-places.places.items ≡ replicate c.len.result 0 = c.in_ok-places.ensures.items_if_clones_equal (λ y same. search rules) in
    let long : length c.in_ok-places.places.items ≡ c.len.result = ap length zeros ∙ length-replicate c.len.result 0 in
    record {
      begins = λ less. refl;
      places =
          none_placed (kept_view c.args.self.now) c.args.strings.now c.in_ok-places.places.items
          (omega (arith, long, c.len.ensures, length-map c.args.self.now.texts (λ (t : TextKey). t.text.now)))
          (λ i less. ap (λ l. get_or l i 0) zeros ∙ get_or-replicate c.len.result i 0 0 (omega (arith, less, long)));
    }

pub strings-preserved : goal.strings-preserved
strings-preserved c = record {
  begins = λ less. next_begins c.args.strings.now c.strings.from (c.strings.invariant.begins c.strings-test.true) c.strings-test.true _
      (ap (λ s. c.strings.from + length s + 1) c.string_at.ensures) less;
  places = subst (λ n. ArePlacesBelow (kept_view c.args.self.now) c.args.strings.now n c.note_string.new.places.items)
      (ap (λ s. c.strings.from + length s + 1) (sym c.string_at.ensures)) c.note_string.ensures;
}

pub returns : goal.returns
returns c =
    all_placed (kept_view c.args.self.now) c.args.strings.now c.strings.places.items c.strings.from (omega arith) c.strings.invariant.places
