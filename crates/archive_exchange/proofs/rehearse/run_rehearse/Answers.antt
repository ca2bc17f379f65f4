use Rattle.std.proofs.Common.{subst, sym, refl}
use Rattle.archive_exchange.specs.Rehearse.{TellsEvents}
use Rattle.command_common.proofs.Endings.{reported}
use Rattle.archive_exchange.proofs.rehearse.run_rehearse.Goals as goal

pub returns : goal.returns
returns g c = reported _ _ _ _ c.write_report.result _ _ c.in_ok-script.ensures.unfailed
    (record {
      sites = c.in_ok-script.script.sites;
      events = c.in_ok-script.script.events.items;
      script_is = c.in_ok-script.ensures.is;
      tells = subst (TellsEvents c.in_ok-script.script.sites c.in_ok-script.script.events.items) (sym c.deref.ensures) c.in_ok-text.ensures;
      status_is = refl;
    })
    c.write_report.ensures
