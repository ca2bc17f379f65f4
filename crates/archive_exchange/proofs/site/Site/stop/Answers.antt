use Rattle.archive_exchange.proofs.Texts.{begun_again}
use Rattle.archive_exchange.proofs.site.Site.stop.Goals as goal

pub returns-clause-held : goal.returns-clause-held
returns-clause-held g c =
    begun_again c.args.self.now (g.A.Join.content c.self.inside.archive) c.self.inside.saved.items c.deref.result.now
    (g.A.Join.content c.in-Ok.archive) c.self.view_is c.self.invariant.saved c.deref.ensures.value
    c.in-Ok.ensures.gives
