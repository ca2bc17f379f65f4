use Rattle.table_source_frames_build.specs.KeptViews.{kept_view}
use Rattle.table_source_frames_build.proofs.KeptLemmas.{scoped}
use Rattle.table_source_frames_build.proofs.KeyLemmas.{IfOk-weaker}
use Rattle.table_source_frames_build.proofs.kept.Kept.location_number.Goals as goal

pub returns-clause-is : goal.returns-clause-is
returns-clause-is c =
    IfOk-weaker c.location.result _ _
    (λ n h. scoped (kept_view c.args.self.now) (kept_view c.scope.new.self) (kept_view c.location.new.self) c.args.self.now.right
    c.scope.ensures.grows c.args.key c.requires c.in_ok-scope.scope c.args.line c.args.column n c.in_ok-scope.ensures.is h)
    c.location.ensures.is
