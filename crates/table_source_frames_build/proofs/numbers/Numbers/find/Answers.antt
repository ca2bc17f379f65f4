use Rattle.std.proofs.Common.{subst, ◌∙◌}
use Rattle.table_source_frames_build.specs.Numbers.{IsFoundIn}
use Rattle.table_source_frames_build.proofs.KeyLemmas.{found_by}
use Rattle.table_source_frames_build.proofs.numbers.Numbers.find.Goals as goal

pub returns : goal.returns
returns g c =
    subst (λ l. IsFoundIn g.K.Ord.cmp l c.args.key.now c.copied.result) c.self.view_is
    (found_by g.K.Ord.cmp g.met.K.Ord.total c.self.inside.by_key c.self.inside.keys.items c.args.key.now c.copied.result c.self.invariant
    (c.copied.ensures ∙ c.get.ensures.value))
