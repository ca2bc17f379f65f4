use Rattle.archive_exchange.proofs.Gained.{recorded_retire}
use Rattle.archive_exchange.proofs.Followed.{retired}
use Rattle.archive_exchange.proofs.happening.retire.Goals as goal

pub returns-clause-follows : goal.returns-clause-follows
returns-clause-follows g c = λ i texts. retired i _ texts _ _ _ c.in_ok-new.ensures.recorded c.in_ok-new.ensures.held
    c.in_ok-new.ensures.saved c.in_ok-new.ensures.new

pub returns-clause-recorded : goal.returns-clause-recorded
returns-clause-recorded g c = λ i. recorded_retire i _ c.in_ok-new.ensures.recorded
