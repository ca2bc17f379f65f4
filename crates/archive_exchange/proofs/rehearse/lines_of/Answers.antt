use Rattle.std.proofs.Common.{length, subst, sym}
use Rattle.std.specs.Prelude.{All}
use Rattle.archive_exchange.specs.EventLines.{IsSentAmong}
use Rattle.archive_exchange.proofs.Rehearsed.{all_there, told_so}
use Rattle.archive_exchange.proofs.rehearse.lines_of.Goals as goal

pub push_events-requires : goal.push_events-requires
push_events-requires g c =
    let run = c.in_ok-world in
    let meant = c.one_meaning.ensures.some c.deref.result.now in
    subst (All (IsSentAmong (length run.world.messages))) (sym c.deref-2.ensures.value)
    (all_there c.args.script.now.sites meant.0 run.world.sites run.world.messages run.outcomes.items
    (run.ensures.state meant.0 meant.1) (run.ensures.outcomes meant.0 meant.1))

pub returns : goal.returns
returns g c =
    let run = c.in_ok-world in
    let meant = c.one_meaning.ensures.some c.deref.result.now in
    told_so c.args.script.now.sites c.deref.result.now c.args.script.now.events.items meant.0 run.world.sites
    run.world.messages run.outcomes.items c.deref-2.result.now _ _ _
    c.deref.ensures.value meant.1 (run.ensures.state meant.0 meant.1) (run.ensures.outcomes meant.0 meant.1) run.ensures.number
    c.deref-2.ensures.value c.new-text.ensures.bytes c.in_ok-push_events.ensures c.in_ok-push_sites.ensures
