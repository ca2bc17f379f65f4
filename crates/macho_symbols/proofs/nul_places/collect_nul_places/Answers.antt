use Rattle.std.proofs.Common.{◌+◌, length, arith, ap, sym, subst}
use Rattle.macho_symbols.proofs.Nuls.{NulPlacesTo, nul_places_none, nul_places_pushed}
use Rattle.macho_symbols.proofs.nul_places.collect_nul_places.Goals as goal

pub loop-index-init : goal.loop-index-init
loop-index-init c =
    subst (λ places. NulPlacesTo c.args.strings.now places 0 (length c.before_nul-known.result.now)) (sym c.new-places.ensures.items)
    (nul_places_none c.args.strings.now (length c.before_nul-known.result.now) (ap length c.before_nul-known.ensures))

pub next_nul-known-requires-clause-known : goal.next_nul-known-requires-clause-known
next_nul-known-requires-clause-known c = c.loop-index.invariant.last

pub loop-index-preserved : goal.loop-index-preserved
loop-index-preserved c =
    subst (λ places. NulPlacesTo c.args.strings.now places (c.loop-index.index + 4096) c.next_nul-known.result) (sym (c.in_ok-push.ensures.items))
    (nul_places_pushed c.args.strings.now c.loop-index.places.items c.loop-index.index c.loop-index.known c.next_nul-known.result
    c.loop-index.invariant c.next_nul-known.ensures)

pub returns : goal.returns
returns c =
    let held = c.loop-index.invariant in
    record { all = omega (arith, held.at, c.loop-index-test.false); each = held.each }
