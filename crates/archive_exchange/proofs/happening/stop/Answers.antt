use Rattle.archive_exchange.proofs.Followed.{stops}
use Rattle.archive_exchange.proofs.happening.stop.Goals as goal

pub returns : goal.returns
returns g c = λ i texts. stops i c.args.site.now c.stop.new.self texts c.in_ok-stop.ensures.held c.in_ok-stop.ensures.saved
