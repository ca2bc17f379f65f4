use Rattle.std.proofs.lemmas.Result.{on_ok_weaker, on_err_weaker}
use Rattle.archive_core.proofs.Joined.{least_is_joined, towards_in_words}
use Rattle.archive_core.proofs.archives.take_all.Goals as goal

pub returns-clause-joined : goal.returns-clause-joined
returns-clause-joined g c =
    let join = g.A.Join in
    let law = g.met.A.Archive in
    on_ok_weaker c.absorb.result
    (least_is_joined join.is_content join.below law.is_content_is law.below_is (join.content c.args.archive.now)
    (join.content c.args.other) (join.content c.absorb.new.self) c.len.ensures.content c.len-2.ensures.content)
    c.absorb.ensures.joined

pub returns-clause-refused : goal.returns-clause-refused
returns-clause-refused g c =
    let join = g.A.Join in
    let law = g.met.A.Archive in
    on_err_weaker c.absorb.result
    (towards_in_words join.is_content join.below law.is_content_is law.below_is (join.content c.args.archive.now)
    (join.content c.args.other) (join.content c.absorb.new.self))
    c.absorb.ensures.refused
