use Rattle.std.proofs.Common.{Some, None, arith, get_or, refl}
use Rattle.dwarf_source_frames.specs.ByUnit.{addresses_under}
use Rattle.dwarf_source_frames.proofs.ByUnitLemmas.{all_steps, under_more, without_more}
use Rattle.dwarf_source_frames.proofs.unit_lists.by_unit.Goals as goal

pub loop-i-preserved : goal.loop-i-preserved
loop-i-preserved c =
    let addresses = c.args.addresses.now in
    let places = c.args.places.now in
    let i = c.loop-i.i in
    let own = get_or places i None in
    record {
      without = λ a. without_more addresses places i own refl a c.loop-i.without.items c.add_placed.new.without.items
          (c.loop-i.invariant.without a) c.in_ok-add_placed.ensures.without;
      under = λ place a. under_more addresses places i own refl place a (addresses_under c.loop-i.by_unit place)
          (addresses_under c.add_placed.new.by_unit place) (c.loop-i.invariant.under place a)
          (c.in_ok-add_placed.ensures.under place);
    }

pub returns-clause-without : goal.returns-clause-without
returns-clause-without c = λ a.
    all_steps c.args.addresses.now c.args.places.now c.loop-i.i c.loop-i.without.items a None (omega arith) (c.loop-i.invariant.without a)

pub returns-clause-under : goal.returns-clause-under
returns-clause-under c = λ place a.
    all_steps c.args.addresses.now c.args.places.now c.loop-i.i (addresses_under c.loop-i.by_unit place) a (Some place)
    (omega arith) (c.loop-i.invariant.under place a)
