use Rattle.std.proofs.Common.{List, sym, subst, Option, option_map}
use Rattle.dwarf_lines.specs.declared.path.PathParts.{PathParts}
use Rattle.dwarf_lines.specs.PathViews.{path_view}
use Rattle.table_source_frames_build.specs.Kept.{IsKept, IsFile, KeptRecord}
use Rattle.table_source_frames_build.specs.KeptViews.{kept_view}
use Rattle.table_source_frames_build.specs.Numbers.{IsNumbered}
use Rattle.table_source_frames_build.specs.declared.keys.FileKey.{FileKey}
use Rattle.table_source_frames_build.proofs.KeptLemmas.{file_kept, is_file}
use Rattle.table_source_frames_build.proofs.KeyLemmas.{file_cmp, file_told, IfOk-weaker, either_way}
use Rattle.table_source_frames_build.proofs.kept.Kept.file.Goals as goal

pub invariant_of-self : goal.invariant_of-self
invariant_of-self c =
    let k : KeptRecord = kept_view c.file_key.new.self in
    record {
      right =
          either_way c.number.result _ _ _ c.number.ensures.numbered c.number.ensures.unchanged
          (λ n h. file_kept k c.file_key.new.self.right c.number.new.self c.in_ok-key.key n
          (file_told c.file_key.new.self.files c.in_ok-key.key n c.number.new.self h) c.in_ok-key.ensures.is.is_key)
          (λ e. subst (λ (l : List FileKey). IsKept (record k { files = l })) (sym e) c.file_key.new.self.right);
    }

pub returns-clause-is : goal.returns-clause-is
returns-clause-is c =
    IfOk-weaker c.number.result (λ n. IsNumbered file_cmp c.file_key.new.self.files c.in_ok-key.key n c.number.new.self) _
    (λ n h.
    subst (λ (o : Option PathParts). IsFile (record (kept_view c.file_key.new.self) { files = c.number.new.self }) n
    (option_map path_view o)) (sym c.in-Some.is)
    (is_file (kept_view c.file_key.new.self) c.number.new.self c.in_ok-key.key n (path_view c.in-Some.path)
    (file_told c.file_key.new.self.files c.in_ok-key.key n c.number.new.self h) c.in_ok-key.ensures.is))
    c.number.ensures.numbered
