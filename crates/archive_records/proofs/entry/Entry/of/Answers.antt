use Rattle.std.proofs.Common.{ap, sym, ◌∙◌}
use Rattle.archive_core.specs.Key.{key_bytes}
use Rattle.archive_core.specs.Record.{borrowed_bytes}
use Rattle.archive_core.specs.Summary.{entry}
use Rattle.archive_core.proofs.Entries.{admission_entry, retirement_entry}
use Rattle.archive_core.proofs.Heads.{two}
use Rattle.archive_records.proofs.entry.Entry.of.Goals as goal

pub returns-in-Admit : goal.returns-in-Admit
returns-in-Admit c =
    two 2 _ _ _ _ (ap key_bytes c.key.ensures) c.digest.ensures.digest
    ∙ sym (ap (λ r. entry (borrowed_bytes r)) c.in-Admit.is
    ∙ admission_entry c.in-Admit.slice c.digest.ensures.valid)

pub returns-in-Retire : goal.returns-in-Retire
returns-in-Retire c = sym (ap (λ r. entry (borrowed_bytes r)) c.in-Retire.is ∙ retirement_entry c.in-Retire.key c.in-Retire.digest.0)
