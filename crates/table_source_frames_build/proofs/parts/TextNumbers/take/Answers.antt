use Rattle.std.proofs.Common.{◌∙◌, ap, nat_eq, sym}
use Rattle.table_source_frames.specs.Numbering.{numbered_after}
use Rattle.table_source_frames_build.proofs.FirstUsesLemmas.{on_same}
use Rattle.table_source_frames_build.proofs.LoopLemmas.{after_none}
use Rattle.table_source_frames_build.proofs.NoteLemmas.{place_none, unplaced_none, unplaced_some}
use Rattle.table_source_frames_build.proofs.parts.TextNumbers.take.Goals as goal

pub returns-then-place_of-ne0-clause-taken : goal.returns-then-place_of-ne0-clause-taken
returns-then-place_of-ne0-clause-taken c =
    after_none c.args.self.now.uses.order.items
    ∙ ap (numbered_after nat_eq c.args.self.now.uses.order.items)
    (sym (unplaced_some c.args.self.now.places.items c.args.number (λ e. c.if-place_of-ne0.true (c.place_of.ensures ∙ e))))

pub returns-clause-taken : goal.returns-clause-taken
returns-clause-taken c =
    on_same c.take_some.result c.take_some.new.self.order.items _ _
    (ap (numbered_after nat_eq c.args.self.now.uses.order.items)
    (sym (unplaced_none c.args.self.now.places.items c.args.number (place_none c.place_of.result _ c.place_of.ensures c.if-place_of-ne0.false))))
    c.take_some.ensures.taken
