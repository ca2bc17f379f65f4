use Rattle.std.proofs.Common.{ℕ, List, length, ◌∙◌, ap, refl}
use Rattle.std.specs.Int.{w64, to_be_bytes}
use Rattle.archive_core.specs.Key.{key_bytes}
use Rattle.archive_core.proofs.Heads.{laid_behind, two}
use Rattle.archive_records.proofs.head.admission_head.Goals as goal

pub returns-clause-head : goal.returns-clause-head
returns-clause-head c =
    let key = c.copy_from_slice.ensures.after ∙ c.key_prefix.ensures ∙ ap key_bytes c.key.ensures in
    laid_behind 2 c.copy_from_slice.new.self _ c.copy_from_slice-2.new.self 8 c.copy_from_slice.ensures.len refl
    ∙ two 2 _ _ _ _ key (c.copy_from_slice-2.ensures.after ∙ c.to_be_bytes.ensures ∙ ap (λ (t : List ℕ). to_be_bytes w64 (length t)) c.bytes.ensures.bytes)
