use Rattle.std.proofs.Common.{length, ap}
use Rattle.archive_exchange.proofs.RunStates.{none_shown, shown_more, one_longer}
use Rattle.archive_exchange.proofs.running.empty_sites.Goals as goal

pub sites-init : goal.sites-init
sites-init g c = record { number = ap length c.new-row.ensures.items; empty = rw c.new-row.ensures.items none_shown }

pub sites-preserved : goal.sites-preserved
sites-preserved g c = record {
  number = one_longer c.sites.row.items c.push.new.self.items c.in_ok-new.field-0 c.sites.counter c.in_ok-push.ensures.items c.sites.invariant.number;
  empty = rw c.in_ok-push.ensures.items (shown_more c.sites.row.items c.in_ok-new.field-0 c.sites.invariant.empty c.in_ok-new.ensures.empty);
}
