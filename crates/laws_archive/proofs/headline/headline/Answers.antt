use Rattle.std.proofs.Common.{length, refl, ap, sym, subst}
use Rattle.std.specs.Cmp.{both_ways}
use Rattle.std.specs.Cmp.Lexicographic.{nat_list_cmp_total}
use Rattle.std.specs.FinSet as set
use Rattle.std.specs.FinSet.{same_set}
use Rattle.archive_core.specs.Content.{Operations, content_of}
use Rattle.archive_core.specs.Lookup.{IsAnswer}
use Rattle.archive_core.proofs.Made.{bytes_same}
use Rattle.archive_records.specs.Text.{written}
use Rattle.archive_exchange.specs.World.{state}
use Rattle.archive_exchange.specs.Reached.{reached}
use Rattle.archive_exchange.specs.SiteState.{IsArchiveTextOf}
use Rattle.laws_archive.proofs.headline.headline.Goals as goal

pub returns-clause-same_operations : goal.returns-clause-same_operations
returns-clause-same_operations g c = λ sites others events later i j same.
    let o = reached sites events i in
    let p = reached others later j in
    ap content_of (same_set nat_list_cmp_total bytes_same o p (λ r. both_ways (set.contains o r) (set.contains p r) (same r).0 (same r).1))

pub returns-clause-same_bytes : goal.returns-clause-same_bytes
returns-clause-same_bytes g c = λ sites others events later i j same records.
    let held = c.same_operations_same_content.ensures sites others events later i j same in
    let content = c.records_make_contents.ensures.held sites events _ i records in
    let text = written ((state sites events (length events)).held i) in
    (text, record { content = content; is = refl }, subst (λ (o : Operations). IsArchiveTextOf text o) held (record { content = content; is = refl }))

pub returns-clause-same_answers : goal.returns-clause-same_answers
returns-clause-same_answers g c = λ sites others events later i j same key asked answer.
    let held = c.same_operations_same_content.ensures sites others events later i j same in
    (subst (λ (o : Operations). IsAnswer o key asked answer) held, subst (λ (o : Operations). IsAnswer o key asked answer) (sym held))
