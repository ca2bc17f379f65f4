use Rattle.std.proofs.Common.{◌∙◌, nat_eq}
use Rattle.table_source_frames.specs.Numbering.{numbered_after}
use Rattle.table_source_frames_build.specs.PartNumbers.{unplaced}
use Rattle.table_source_frames_build.proofs.LoopLemmas.{after_three, on_ok_weaker}
use Rattle.table_source_frames_build.proofs.kept.Kept.take_path.Goals as goal

pub returns-clause-taken : goal.returns-clause-taken
returns-clause-taken c =
    let places = c.args.texts.now.places.items in
    on_ok_weaker c.take-3.result
    (λ third. after_three (unplaced places) c.args.texts.now.uses.order.items c.take.new.self.uses.order.items c.take-2.new.self.uses.order.items
    c.take-3.new.self.uses.order.items c.args.key.base c.args.key.directory c.args.key.name c.in_ok-take.ensures.taken
    (c.in_ok-take-2.ensures.taken ∙ (λ i. numbered_after nat_eq c.take.new.self.uses.order.items
    (unplaced (c.take.ensures.places i).items c.args.key.directory)))
    (third ∙ (λ i. numbered_after nat_eq c.take-2.new.self.uses.order.items
    (unplaced ((c.take-2.ensures.places ∙ c.take.ensures.places) i).items c.args.key.name))))
    c.take-3.ensures.taken
