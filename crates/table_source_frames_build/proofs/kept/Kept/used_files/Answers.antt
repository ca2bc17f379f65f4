use Rattle.std.proofs.Common.{◌∙◌, [], ap, nat_eq}
use Rattle.table_source_frames.specs.Numbering.{numbered_after}
use Rattle.table_source_frames_build.specs.FirstUses.{some_number}
use Rattle.table_source_frames_build.specs.Kept.{scope_key_at}
use Rattle.table_source_frames_build.specs.KeptViews.{kept_view}
use Rattle.table_source_frames_build.specs.declared.keys.ScopeKey.{ScopeKey}
use Rattle.table_source_frames_build.proofs.LoopLemmas.{after_more, after_none}
use Rattle.table_source_frames_build.proofs.kept.Kept.used_files.Goals as goal

pub loop-scope-init : goal.loop-scope-init
loop-scope-init c = record { count = c.in_ok-uses.ensures.count ∙ c.len.ensures; order = c.in_ok-uses.ensures.none ∙ after_none [] }

pub loop-scope-preserved : goal.loop-scope-preserved
loop-scope-preserved c = record {
  count = c.take_some.ensures.count ∙ c.loop-scope.invariant.count;
  order =
      after_more (λ n. some_number (scope_key_at (kept_view c.args.self.now) n).file) c.args.scopes.now
      c.loop-scope.scope-index 0 [] c.loop-scope.uses.order.items c.take_some.new.self.order.items
      c.loop-scope-test.true
      (c.in_ok-take_some.ensures.taken ∙ ap (λ (key : ScopeKey). numbered_after nat_eq
      c.loop-scope.uses.order.items (some_number key.file)) c.scope_key_of.ensures)
      c.loop-scope.invariant.order;
}
