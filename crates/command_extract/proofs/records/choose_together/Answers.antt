use Rattle.std.proofs.Common.{◌∙◌, ap, arith}
use Rattle.std.proofs.lemmas.Result.{err_from_is_err_and}
use Rattle.archive_core.specs.Key.{key_bytes}
use Rattle.archive_core.specs.Part.{is_under}
use Rattle.command_common.proofs.Parts.{refusal_of, together_tells}
use Rattle.command_common.specs.Archives.{AreRefused, AreUnfailed, HoldTogether}
use Rattle.command_common.specs.Inputs.{reader, readers}
use Rattle.command_common.specs.declared.faults.CommandFault.TheVariants.{Input, OutOfMemory}
use Rattle.command_extract.specs.Evidence.{StopsBefore}
use Rattle.command_extract.specs.Extract.{extract}
use Rattle.command_extract.proofs.Extracted.{keeps_none, keeps_wanted}
use Rattle.command_extract.proofs.records.choose_together.Goals as goal

pub returns-in_err-kept : goal.returns-in_err-kept
returns-in_err-kept g c =
    let archive = reader g.S.Source.left g.S.Source.failures c.args.archive.now c.read_parts.new.archive in
    let others = readers g.S.Source.left g.S.Source.failures c.args.others.now c.read_parts.new.others in
    let command = extract archive others c.args.key.now c.args.digest.now in
    let p = err_from_is_err_and c.from_residual.result c.from_residual.ensures.1 in
    rw (p.1, p.2) (refusal_of (AreRefused archive others) (λ at why. StopsBefore command (Input at why)) (AreUnfailed archive others)
    (StopsBefore command OutOfMemory) c.in_err-kept.field-0.0 (λ at why r draft took. (r, took)) (λ u draft took. (u, took)) c.in_err-kept.ensures)

pub returns-in_err-chosen : goal.returns-in_err-chosen
returns-in_err-chosen g c =
    let p = err_from_is_err_and c.from_residual-in_err-chosen.result c.from_residual-in_err-chosen.ensures.1 in
    rw (p.1, p.2) (λ draft took. (c.in_ok-kept.ensures.unfailed, took))

pub returns-in-One : goal.returns-in-One
returns-in-One g c =
    let archive = reader g.S.Source.left g.S.Source.failures c.args.archive.now c.read_parts.new.archive in
    let others = readers g.S.Source.left g.S.Source.failures c.args.others.now c.read_parts.new.others in
    let key = c.args.key.now in
    let unfailed = c.in_ok-kept.ensures.unfailed in
    let choice = rw c.in-One.is at c.in_ok-chosen.ensures in
    let chosen = c.in-One.chosen in
    record {
      is = keeps_wanted (extract archive others key c.args.digest.now) (HoldTogether archive others) key c.args.digest.now
          (g.A.Join.content c.in_ok-kept.kept) (λ draft. unfailed)
          (λ IsTrue tells. together_tells archive others _ IsTrue (λ o alike. tells o (alike (key_bytes key)
          (omega (arith, c.bytes_of-prefix.ensures.long))
          (λ r h. ap (λ prefix. is_under prefix r) c.bytes_of-prefix.ensures.bytes ∙ h))) c.in_ok-kept.ensures.is)
          chosen.place chosen.digest chosen.size (λ draft slice told makes. makes) choice;
      unfailed = λ draft took. (unfailed, took);
    }

pub returns-in-Undecided : goal.returns-in-Undecided
returns-in-Undecided g c =
    let archive = reader g.S.Source.left g.S.Source.failures c.args.archive.now c.read_parts.new.archive in
    let others = readers g.S.Source.left g.S.Source.failures c.args.others.now c.read_parts.new.others in
    let key = c.args.key.now in
    let unfailed = c.in_ok-kept.ensures.unfailed in
    let choice = rw c.in-Undecided.is at c.in_ok-chosen.ensures in
    record {
      is = keeps_none (extract archive others key c.args.digest.now) (HoldTogether archive others) key c.args.digest.now
          (g.A.Join.content c.in_ok-kept.kept) (λ draft. unfailed)
          (λ IsTrue tells. together_tells archive others _ IsTrue (λ o alike. tells o (alike (key_bytes key)
          (omega (arith, c.bytes_of-prefix.ensures.long))
          (λ r h. ap (λ prefix. is_under prefix r) c.bytes_of-prefix.ensures.bytes ∙ h))) c.in_ok-kept.ensures.is)
          c.in-Undecided.rows.items (λ draft told lacks. lacks) choice;
      unfailed = λ draft took. (unfailed, took);
    }
