use Rattle.std.proofs.Common.{List, sym, subst}
use Rattle.table_source_frames_build.specs.Kept.{Grows, IsKept, KeptRecord}
use Rattle.table_source_frames_build.specs.KeptViews.{kept_view}
use Rattle.table_source_frames_build.specs.Numbers.{IsNumbered}
use Rattle.table_source_frames_build.specs.declared.keys.ScopeKey.{ScopeKey}
use Rattle.table_source_frames_build.proofs.KeptLemmas.{grows_none, scope_grows, scope_kept}
use Rattle.table_source_frames_build.proofs.KeyLemmas.{scope_cmp, scope_told, IfOk-weaker, either_way}
use Rattle.table_source_frames_build.proofs.kept.Kept.scope.Goals as goal

pub invariant_of-self : goal.invariant_of-self
invariant_of-self c =
    let k : KeptRecord = kept_view c.args.self.now in
    record {
      right =
          either_way c.number.result _ _ _ c.number.ensures.numbered c.number.ensures.unchanged
          (λ n h. scope_kept k c.args.self.now.right c.number.new.self c.args.key n
          (scope_told c.args.self.now.scopes c.args.key n c.number.new.self h) c.requires)
          (λ e. subst (λ (l : List ScopeKey). IsKept (record k { scopes = l })) (sym e) c.args.self.now.right);
    }

pub returns-clause-grows : goal.returns-clause-grows
returns-clause-grows c =
    let k : KeptRecord = kept_view c.args.self.now in
    either_way c.number.result _ _ _ c.number.ensures.numbered c.number.ensures.unchanged
    (λ n h. scope_grows k c.args.self.now.right c.number.new.self c.args.key n
    (scope_told c.args.self.now.scopes c.args.key n c.number.new.self h))
    (λ e. subst (λ (l : List ScopeKey). Grows k (record k { scopes = l })) (sym e) (grows_none k))

pub returns-clause-is : goal.returns-clause-is
returns-clause-is c =
    IfOk-weaker c.number.result (λ n. IsNumbered scope_cmp c.args.self.now.scopes c.args.key n c.number.new.self) _
    (λ n h. let t = scope_told c.args.self.now.scopes c.args.key n c.number.new.self h
    in record { is_number = t.is_number; is = t.is }) c.number.ensures.numbered
