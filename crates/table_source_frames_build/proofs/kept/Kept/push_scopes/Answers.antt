use Rattle.table_source_frames_build.specs.KeptViews.{kept_view}
use Rattle.table_source_frames_build.proofs.LoopLemmas.{pushed_end, pushed_on}
use Rattle.table_source_frames_build.proofs.kept.Kept.push_scopes.Goals as goal

pub callers-preserved : goal.callers-preserved
callers-preserved c =
    let both = pushed_on (kept_view c.args.self.now) c.args.self.now.right c.callers.next c.location_key_of-scope.result c.scope_key_of-next.result
    c.callers.numbers.items c.push.new.self.items _ c.callers-test.true c.callers.invariant.next
    c.location_key_of-scope.ensures c.scope_key_of-next.ensures c.in_ok-push.ensures.items c.callers.invariant.pushed in
    record { next = both.1; pushed = both.2 }

pub returns : goal.returns
returns c = pushed_end (kept_view c.args.self.now) c.callers.next c.callers.numbers.items _ c.callers-test.false c.callers.invariant.pushed
