use Rattle.archive_exchange.proofs.Gained.{read_whole}
use Rattle.archive_exchange.proofs.world.World.site.Goals as goal

pub returns-clause-whole : goal.returns-clause-whole
returns-clause-whole g c = read_whole c.self.inside.sites.items c.self.inside.messages.items c.args.self.now
    c.args.number c.index.result.now c.self.invariant c.self.view_is c.requires c.index.ensures
