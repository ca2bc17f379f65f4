use Rattle.std.proofs.Common.{◌∙◌, List, map, sym, subst}
use Rattle.table_source_frames_build.specs.Kept.{IsKept, KeptRecord}
use Rattle.table_source_frames_build.specs.KeptViews.{kept_view}
use Rattle.table_source_frames_build.specs.Numbers.{IsNumbered}
use Rattle.table_source_frames_build.specs.declared.keys.TextKey.{TextKey}
use Rattle.table_source_frames_build.proofs.KeptLemmas.{text_kept}
use Rattle.table_source_frames_build.proofs.KeyLemmas.{text_cmp, text_told, IfOk-weaker, either_way}
use Rattle.table_source_frames_build.proofs.kept.Kept.text.Goals as goal

pub invariant_of-self : goal.invariant_of-self
invariant_of-self c =
    let k : KeptRecord = kept_view c.args.self.now in
    record {
      right =
          either_way c.number.result _ _ _ c.number.ensures.numbered c.number.ensures.unchanged
          (λ n h. text_kept k c.args.self.now.right (map (λ (t : TextKey). t.text.now) c.number.new.self)
          c.of.result.text.now n (text_told c.args.self.now.texts c.of.result n c.number.new.self h))
          (λ e. subst (λ (l : List TextKey). IsKept (record k { texts = map (λ (t : TextKey). t.text.now) l })) (sym e) c.args.self.now.right);
    }

pub returns-clause-is : goal.returns-clause-is
returns-clause-is c =
    IfOk-weaker c.number.result (λ n. IsNumbered text_cmp c.args.self.now.texts c.of.result n c.number.new.self) _
    (λ n h. let t = text_told c.args.self.now.texts c.of.result n c.number.new.self h
    in record { is_number = t.is_number; is = t.is ∙ c.of.ensures }) c.number.ensures.numbered
