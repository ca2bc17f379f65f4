use Rattle.archive_core.specs.declared.keys.SliceKey.{SliceKey}
use Rattle.text_reports.specs.InnerSlices.{HasKey, own_key}
use Rattle.text_reports.proofs.Kept.{AreOfFirst}
use Rattle.text_reports.proofs.slices.keys_without.Given as goal

abbrev pub invariant-keys : goal.invariant-keys
invariant-keys l = AreOfFirst own_key (λ (key : SliceKey). HasKey l.rows key → ⊥) l.keys l.key-index l.absent.items
