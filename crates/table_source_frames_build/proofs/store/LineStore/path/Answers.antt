use Rattle.std.proofs.Common.{ap}
use Rattle.table_source_frames_build.specs.KeptViews.{kept_view}
use Rattle.table_source_frames_build.specs.StoreViews.{StoreRecord}
use Rattle.table_source_frames_build.proofs.StoreLemmas.{taken_same, told_before}
use Rattle.table_source_frames_build.proofs.store.LineStore.path.Goals as goal

pub returns-clause-tells : goal.returns-clause-tells
returns-clause-tells c = told_before (kept_view c.self.inside.kept) (kept_view c.file.new.self) c.self.inside.kept.right
    c.file.ensures.grows c.args.self.now.kept (ap (λ (s : StoreRecord). s.kept) c.self.view_is)

pub returns-clause-taken : goal.returns-clause-taken
returns-clause-taken c =
    taken_same (kept_view c.self.inside.kept) (kept_view c.file.new.self) c.self.inside.kept.right c.file.ensures.grows
    c.self.inside.steps.items c.args.self.now.taken c.self.invariant
    (ap (λ (s : StoreRecord). s.taken) c.self.view_is)
