use Rattle.std.proofs.Common.{◌∙◌, nat_eq, refl}
use Rattle.table_source_frames.specs.Numbering.{numbered_after}
use Rattle.table_source_frames_build.specs.Kept.{scope_key_at}
use Rattle.table_source_frames_build.specs.KeptViews.{kept_view}
use Rattle.table_source_frames_build.specs.PartNumbers.{unplaced}
use Rattle.table_source_frames_build.proofs.LoopLemmas.{after_more, after_none}
use Rattle.table_source_frames_build.proofs.kept.Kept.take_names.Goals as goal

pub loop-scope-init : goal.loop-scope-init
loop-scope-init c = record { count = refl; before = refl; places = refl; order = after_none c.args.texts.now.uses.order.items }

pub loop-scope-preserved : goal.loop-scope-preserved
loop-scope-preserved c = record {
  count = c.take.ensures.count ∙ c.loop-scope.invariant.count;
  before = c.take.ensures.before ∙ c.loop-scope.invariant.before;
  places = c.take.ensures.places ∙ c.loop-scope.invariant.places;
  order =
      after_more (λ n. unplaced c.args.texts.now.places.items (scope_key_at (kept_view c.args.self.now) n).name) c.args.scopes.now
      c.loop-scope.scope-index 0 c.args.texts.now.uses.order.items c.loop-scope.texts.uses.order.items
      c.take.new.self.uses.order.items c.loop-scope-test.true
      (c.in_ok-take.ensures.taken
      ∙ (λ i. numbered_after nat_eq c.loop-scope.texts.uses.order.items
      (unplaced (c.loop-scope.invariant.places i).items (c.scope_key_of.ensures i).name)))
      c.loop-scope.invariant.order;
}
