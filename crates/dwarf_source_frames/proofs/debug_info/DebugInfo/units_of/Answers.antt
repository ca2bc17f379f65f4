use Rattle.std.proofs.Common.{◌∙◌, List, subst, slice_index}
use Rattle.std.specs.Ordering.{nat_cmp}
use Rattle.std.specs.BTreeMap as tree_map
use Rattle.dwarf_ranges.specs.Aranges.{IsFirstTuple}
use Rattle.dwarf_ranges.specs.declared.arange.Arange.{Arange}
use Rattle.dwarf_source_frames.proofs.UnitAddressLemmas.{both_said, joined}
use Rattle.dwarf_source_frames.proofs.debug_info.DebugInfo.units_of.Goals as goal

pub returns : goal.returns
returns c = both_said c.answers_for.result _ _ _
    (λ found len each. record {
      len = len;
      each = λ i h.
          let a = slice_index c.args.addresses.now i in
          let tuples = c.in_ok-tuples.tuples in (
            tree_map.get nat_cmp tuples a,
            subst (λ (all : List Arange). IsFirstTuple all a (tree_map.get nat_cmp tuples a)) c.of.ensures (c.in_ok-tuples.ensures.each i h),
            each i h ∙ joined _ _ _ _ _ (c.in_ok-places.ensures.place_of i h) (c.in_ok-places.ensures.waits i h) (c.in_ok-places.ensures.pending_only a)
                (c.in_ok-assign_pending.ensures.found a) (c.in_ok-assign_pending.ensures.others a),
          );
    })
    c.answers_for.ensures.len c.answers_for.ensures.each
