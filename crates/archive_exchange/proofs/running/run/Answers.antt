use Rattle.std.proofs.Common.{suc, max, sym, ◌∙◌, subst}
use Rattle.archive_core.specs.Content.{IsContent}
use Rattle.archive_exchange.proofs.Kept.{held_content}
use Rattle.archive_exchange.proofs.Runs.{records_of, alike}
use Rattle.archive_exchange.proofs.running.run.Goals as goal

pub returns-clause-same_operations_same_bytes : goal.returns-clause-same_operations_same_bytes
returns-clause-same_operations_same_bytes g c = λ seen are i site others later j at same.
    let shows = (c.in_ok-done.ensures.has_run seen are).shows in
    let held = (shows.each i site at).held in
    alike _ _ (subst IsContent (sym held) (shows.held i)) (held ∙ c.same_operations_same_content.ensures c.args.sites others seen later i j same)

pub returns-clause-records : goal.returns-clause-records
returns-clause-records g c = λ seen are. records_of c.args.sites seen _ _ _ (c.in_ok-done.ensures.has_run seen are)

pub returns-clause-lifted : goal.returns-clause-lifted
returns-clause-lifted g c = λ seen are i x a r k tell ex. c.asker_is_above_replier.ensures c.args.sites seen i x a r k
    (records_of c.args.sites seen _ _ _ (c.in_ok-done.ensures.has_run seen are)) tell ex

pub returns-clause-agreed : goal.returns-clause-agreed
returns-clause-agreed g c = λ seen are i j a r d b s e tell one other quiet also.
    let records = records_of c.args.sites seen _ _ _ (c.in_ok-done.ensures.has_run seen are) in
    alike _ _ (held_content c.args.sites seen (suc (max d e)) i records)
    (c.mutual_replies_agree.ensures c.args.sites seen i j a r d b s e records tell one other quiet also)
