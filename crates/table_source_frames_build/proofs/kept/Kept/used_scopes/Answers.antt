use Rattle.std.proofs.Common.{◌∙◌, [], ap, nat_eq, reverse, List, ℕ}
use Rattle.table_source_frames.specs.Numbering.{numbered_after}
use Rattle.table_source_frames_build.specs.Kept.{scope_numbers_of}
use Rattle.table_source_frames_build.specs.KeptViews.{kept_view}
use Rattle.table_source_frames_build.specs.declared.step.Step.{Step}
use Rattle.table_source_frames_build.proofs.LoopLemmas.{after_more, after_none, callers_here, scopes_all}
use Rattle.table_source_frames_build.proofs.kept.Kept.used_scopes.Goals as goal

pub loop-step-init : goal.loop-step-init
loop-step-init c = record {
  count = c.in_ok-uses.ensures.count ∙ c.len.ensures;
  empty = c.new-scopes.ensures.items;
  order = c.in_ok-uses.ensures.none ∙ after_none [];
}

pub take_back-requires : goal.take_back-requires
take_back-requires c =
    scopes_all (kept_view c.args.self.now) c.args.self.now.right _ _ c.loop-step.scopes.items _
    (c.requires c.loop-step.step-index (record { start = 0; location = 0 }) c.loop-step-test.true)
    c.loop-step.invariant.empty c.in_ok-push_scopes.ensures c.loop-step.invariant.count

pub loop-step-preserved : goal.loop-step-preserved
loop-step-preserved c = record {
  count = c.take_back.ensures.count ∙ c.loop-step.invariant.count;
  empty = c.in_ok-take_back.ensures.empty;
  order =
      after_more (λ (s : Step). reverse (scope_numbers_of (kept_view c.args.self.now) s.location)) c.args.steps.now
      c.loop-step.step-index (record { start = 0; location = 0 }) [] c.loop-step.uses.order.items
      c.take_back.new.self.order.items c.loop-step-test.true
      (c.in_ok-take_back.ensures.taken ∙ ap (λ (l : List ℕ). numbered_after nat_eq c.loop-step.uses.order.items
      (reverse l)) (callers_here c.loop-step.scopes.items _ _ c.loop-step.invariant.empty
      c.in_ok-push_scopes.ensures)) c.loop-step.invariant.order;
}
