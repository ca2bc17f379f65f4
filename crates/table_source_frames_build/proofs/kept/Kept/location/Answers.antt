use Rattle.std.proofs.Common.{List, sym, subst}
use Rattle.table_source_frames_build.specs.Kept.{Grows, IsKept, KeptRecord}
use Rattle.table_source_frames_build.specs.KeptViews.{kept_view}
use Rattle.table_source_frames_build.specs.Numbers.{IsNumbered}
use Rattle.table_source_frames_build.specs.declared.keys.LocationKey.{LocationKey}
use Rattle.table_source_frames_build.proofs.KeptLemmas.{grows_none, located, located_grows, located_kept}
use Rattle.table_source_frames_build.proofs.KeyLemmas.{location_cmp, location_told, IfOk-weaker, either_way}
use Rattle.table_source_frames_build.proofs.kept.Kept.location.Goals as goal

pub invariant_of-self : goal.invariant_of-self
invariant_of-self c =
    let k : KeptRecord = kept_view c.args.self.now in
    record {
      right =
          either_way c.number.result _ _ _ c.number.ensures.numbered c.number.ensures.unchanged
          (λ n h. located_kept k c.args.self.now.right c.args.key c.requires
          c.number.new.self n
          (location_told c.args.self.now.locations c.args.key n c.number.new.self h))
          (λ e. subst (λ (l : List LocationKey). IsKept (record k { locations = l })) (sym e) c.args.self.now.right);
    }

pub returns-clause-grows : goal.returns-clause-grows
returns-clause-grows c =
    let k : KeptRecord = kept_view c.args.self.now in
    either_way c.number.result _ _ _ c.number.ensures.numbered c.number.ensures.unchanged
    (λ n h. located_grows k c.args.self.now.right c.args.key c.requires
    c.number.new.self n
    (location_told c.args.self.now.locations c.args.key n c.number.new.self h))
    (λ e. subst (λ (l : List LocationKey). Grows k (record k { locations = l })) (sym e) (grows_none k))

pub returns-clause-is : goal.returns-clause-is
returns-clause-is c =
    let k : KeptRecord = kept_view c.args.self.now in
    IfOk-weaker c.number.result (λ n. IsNumbered location_cmp c.args.self.now.locations c.args.key n c.number.new.self) _
    (λ n h. located k c.args.self.now.right c.args.key c.requires
    c.number.new.self n (location_told c.args.self.now.locations c.args.key n c.number.new.self h))
    c.number.ensures.numbered
