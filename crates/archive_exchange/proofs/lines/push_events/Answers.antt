use Rattle.std.proofs.Common.{◌<◌, length, arith}
use Rattle.archive_exchange.proofs.Events.{no_lines, one_more}
use Rattle.archive_exchange.proofs.lines.push_events.Goals as goal

pub events-init : goal.events-init
events-init g c = no_lines c.args.world.now.messages _

pub events-preserved : goal.events-preserved
events-preserved g c =
    let lt : c.events.number-counter < length c.args.outcomes.now = omega (arith, c.events-test.true) in
    one_more c.args.world.now.messages c.events.number-counter c.args.outcomes.now c.index-outcomes-number.result _ _ _ _
    lt c.index-outcomes-number.is c.events.invariant c.in_ok-write.ensures.bytes c.in_ok-push_outcome.ensures
