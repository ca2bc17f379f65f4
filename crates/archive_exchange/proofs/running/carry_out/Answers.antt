use Rattle.std.proofs.Common.{◌≡◌, length, refl, sym, ◌∙◌, arith}
use Rattle.std.proofs.lemmas.Slice.Zip.{AllZip-long}
use Rattle.archive_exchange.specs.ModelEvent.{IsSeen}
use Rattle.std.proofs.lemmas.Option.{slice_get_read}
use Rattle.archive_exchange.proofs.Runs.{none_run, run_next, run_end}
use Rattle.archive_exchange.proofs.Gained.{shown_whole}
use Rattle.archive_exchange.proofs.running.carry_out.Goals as goal

pub events-init : goal.events-init
events-init g c = record {
  number = c.in_ok-row.ensures.number;
  run = λ seen are. none_run c.args.sites seen _ _ _ c.new-messages.ensures.items c.new-outcomes.ensures.items c.in_ok-row.ensures.empty;
}

pub events-preserved : goal.events-preserved
events-preserved g c = record {
  number = c.in_ok-outcome.ensures.number ∙ c.events.invariant.number;
  run = λ seen are. run_next c.args.sites c.args.events.now seen c.events.event-index c.event-item.result _ _ _ _ _ _ _ are
      (slice_get_read c.args.events.now (length c.args.events.now) c.events.event-index c.event-item.result refl c.events-test.true c.event-item.is)
      c.events.invariant.number (c.events.invariant.run seen are) c.in_ok-outcome.ensures.happens c.in_ok-outcome.ensures.recorded c.in_ok-push.ensures.items;
}

pub returns-clause-has_run : goal.returns-clause-has_run
returns-clause-has_run g c = λ seen are.
    let all : c.events.event-index ≡ length c.args.events.now = omega arith in
    run_end c.args.sites seen c.events.event-index _ _ _ _ _ (c.events.invariant.run seen are)
    (all ∙ sym (AllZip-long IsSeen c.args.events.now seen are)) c.new.ensures.sites c.new.ensures.messages

pub new-requires : goal.new-requires
new-requires g c =
    let meant = c.one_meaning.ensures.some c.args.events.now in
    record {
      whole = shown_whole _ _ _ (c.events.invariant.run meant.0 meant.1).shows;
      number = omega (arith, c.events.invariant.number);
    }
