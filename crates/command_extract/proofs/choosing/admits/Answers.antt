use Rattle.std.proofs.Common.{◌≡◌, ◌∙◌, ap, sym}
use Rattle.std.specs.Cmp.Lexicographic.{slice_cmp}
use Rattle.std.specs.Ordering.{is_eq, nat_cmp}
use Rattle.std.specs.Str.{bytes_eq}
use Rattle.std.proofs.lemmas.Map.Text.{is_eq-slice_cmp}
use Rattle.std.proofs.lemmas.Slice.Eq.{bytes_eq-Decides}
use Rattle.archive_core.specs.Record.{admission_record, borrowed_bytes}
use Rattle.command_extract.proofs.choosing.admits.Goals as goal

pub returns : goal.returns
returns c =
    let a = borrowed_bytes c.args.held in
    let b = admission_record c.args.slice.now in
    let is : c.is_eq.result ≡ bytes_eq a b = c.is_eq.ensures
    ∙ ap is_eq (c.compare.ensures ∙ ap (λ s. slice_cmp nat_cmp a (admission_record s)) c.lend.ensures) ∙ is_eq-slice_cmp a b in
    (λ h. (bytes_eq-Decides a b).0 (sym is ∙ h), λ e. is ∙ (bytes_eq-Decides a b).1 e)
