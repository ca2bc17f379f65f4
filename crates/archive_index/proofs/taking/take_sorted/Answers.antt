use Rattle.std.proofs.Common.{◌≡◌, map, ap, ◌∙◌}
use Rattle.std.specs.FinSet as set
use Rattle.std.proofs.lemmas.Result.{err_from_is_err_and}
use Rattle.archive_core.specs.Content.{with_records}
use Rattle.archive_core.specs.Record.{record_bytes}
use Rattle.archive_core.proofs.Joined.{least_is_joined, towards_in_words, none_taken, gathered_joined, gathered_in_part}
use Rattle.archive_index.proofs.taking.take_sorted.Goals as goal

pub returns-in_err-take_in_turn : goal.returns-in_err-take_in_turn
returns-in_err-take_in_turn g c =
    let p = err_from_is_err_and c.from_residual.result c.from_residual.ensures.1 in
    rw p.1 (none_taken (g.A.Join.content c.args.archive.now) (map record_bytes c.args.operations.items) c.len-before.ensures.content)

pub returns-in_err-absorb : goal.returns-in_err-absorb
returns-in_err-absorb g c =
    let join = g.A.Join in
    let law = g.met.A.Archive in
    let old = join.content c.args.archive.now in
    let gathered = join.content c.take_in_turn.new.archive in
    let new = join.content c.absorb.new.self in
    let p = err_from_is_err_and c.from_residual-in_err-absorb.result c.from_residual-in_err-absorb.ensures.1 in
    let is : gathered ≡ with_records set.empty (map record_bytes c.sort_unstable_by.new.self.items) =
    c.in_ok-take_in_turn.ensures.taken.0 ∙ ap (λ o. with_records o
    (map record_bytes c.sort_unstable_by.new.self.items)) c.empty-taken.ensures in
    rw p.1 (gathered_in_part old gathered new c.args.operations.items c.sort_unstable_by.new.self.items
    c.sort_unstable_by.ensures.permutation is c.len-before.ensures.content c.in_ok-take_in_turn.ensures.content
    (towards_in_words join.is_content join.below law.is_content_is law.below_is old gathered new c.in_err-absorb.ensures.refused))

pub returns : goal.returns
returns g c =
    let join = g.A.Join in
    let law = g.met.A.Archive in
    let old = join.content c.args.archive.now in
    let gathered = join.content c.take_in_turn.new.archive in
    let new = join.content c.absorb.new.self in
    let sorted = c.sort_unstable_by.new.self.items in
    let is : gathered ≡ with_records set.empty (map record_bytes sorted) = c.in_ok-take_in_turn.ensures.taken.0
    ∙ ap (λ o. with_records o (map record_bytes sorted)) c.empty-taken.ensures in
    let both = least_is_joined join.is_content join.below law.is_content_is law.below_is old gathered new
    c.len-before.ensures.content c.in_ok-take_in_turn.ensures.content c.in_ok-absorb.ensures.joined in
    gathered_joined old gathered new c.args.operations.items sorted c.len-before.ensures.content.itself c.sort_unstable_by.ensures.permutation is both
