use Rattle.std.proofs.Common.{◌≡◌, ◌<◌, ◌^◌, ◌∙◌, [], arith, get_or, refl}
use Rattle.std.proofs.Math.Facts.{Fits-lt-pow}
use Rattle.std.proofs.lemmas.List.{get_or_default}
use Rattle.dwarf_frame_changes.specs.Given.{without_frames}
use Rattle.dwarf_frame_changes.proofs.GivenLemmas.{takes_all, takes_next, takes_none}
use Rattle.dwarf_frame_changes.proofs.unit_by_unit.push_without_frames.Goals as goal

pub loop-address-init : goal.loop-address-init
loop-address-init g c = record {
  taken = takes_none (g.T.FrameSink.has_received c.args.sink.now);
  none = c.no_frames-none.ensures;
}

pub push-requires : goal.push-requires
push-requires g c = λ k. ((refl, tt), ([], c.loop-address.invariant.none))

pub loop-address-preserved : goal.loop-address-preserved
loop-address-preserved g c = record {
  taken = takes_next (g.T.FrameSink.has_received c.args.sink.now) (g.T.FrameSink.has_received c.loop-address.sink)
      (g.T.FrameSink.has_received c.push.new.self) (λ a. without_frames a) c.args.addresses.now
      c.loop-address.address-index
      (omega (arith, c.loop-address-test.true)) c.loop-address.invariant.taken (c.in_ok-push.ensures.taken [] c.loop-address.invariant.none);
  none = c.push.ensures.frames c.no_frames-none.result [] c.loop-address.invariant.none;
}

pub returns-clause-given : goal.returns-clause-given
returns-clause-given g c =
    takes_all (g.T.FrameSink.has_received c.args.sink.now) (g.T.FrameSink.has_received c.loop-address.sink)
    (λ a. without_frames a) c.args.addresses.now c.loop-address.address-index
    (omega (arith, c.loop-address-test.false)) c.loop-address.invariant.taken

pub returns-clause-fits : goal.returns-clause-fits
returns-clause-fits g c = λ a h.
    let value : get_or c.args.addresses.now h.0 0 ≡ a = get_or_default c.args.addresses.now h.0 0 a h.1 ∙ h.2 in
    let fits : get_or c.args.addresses.now h.0 0 < 2 ^ 64 = Fits-lt-pow (c.type_inv.addresses h.0) in
    omega (arith, value, fits)
