use Rattle.archive_exchange.proofs.Rehearsed.{no_sites, one_site}
use Rattle.archive_exchange.proofs.rehearse.push_sites.Goals as goal

pub sites-init : goal.sites-init
sites-init g c = λ w shows. no_sites w.held _

pub sites-preserved : goal.sites-preserved
sites-preserved g c = λ w shows. one_site w c.sites.number _ _ _ _ _ _ shows c.site.ensures.site (c.sites.invariant w shows) c.in_ok-push_held.ensures
