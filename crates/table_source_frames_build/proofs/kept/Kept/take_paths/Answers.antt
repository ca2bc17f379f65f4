use Rattle.std.proofs.Common.{◌∙◌, flat_map, nat_eq, refl}
use Rattle.table_source_frames.specs.Numbering.{numbered_after}
use Rattle.table_source_frames_build.specs.Kept.{file_key_at}
use Rattle.table_source_frames_build.specs.KeptViews.{kept_view}
use Rattle.table_source_frames_build.specs.PartNumbers.{path_numbers, unplaced}
use Rattle.table_source_frames_build.proofs.LoopLemmas.{after_more, after_none}
use Rattle.table_source_frames_build.proofs.kept.Kept.take_paths.Goals as goal

pub loop-file-init : goal.loop-file-init
loop-file-init c = record { count = refl; before = refl; places = refl; order = after_none c.args.texts.now.uses.order.items }

pub loop-file-preserved : goal.loop-file-preserved
loop-file-preserved c = record {
  count = c.take_path.ensures.count ∙ c.loop-file.invariant.count;
  before = c.take_path.ensures.before ∙ c.loop-file.invariant.before;
  places = c.take_path.ensures.places ∙ c.loop-file.invariant.places;
  order =
      after_more (λ n. flat_map (unplaced c.args.texts.now.places.items) (path_numbers (file_key_at (kept_view c.args.self.now) n)))
      c.args.files.now c.loop-file.file-index
      0 c.args.texts.now.uses.order.items c.loop-file.texts.uses.order.items c.take_path.new.texts.uses.order.items
      c.loop-file-test.true
      (c.in_ok-take_path.ensures.taken
      ∙ (λ i. numbered_after nat_eq c.loop-file.texts.uses.order.items
      (flat_map (unplaced (c.loop-file.invariant.places i).items) (path_numbers (c.file_key_of.ensures i)))))
      c.loop-file.invariant.order;
}
