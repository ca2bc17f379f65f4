use Rattle.std.proofs.Common.{IfOk, Option, subst, sym}
use Rattle.archive_core.specs.declared.keys.Digest.{Digest}
use Rattle.command_extract.specs.InnerEntries.{IsEntryChoice}
use Rattle.command_extract.proofs.ChosenEntries.{none_given}
use Rattle.command_extract.proofs.entries.choose_entry.Goals as goal

pub returns-in_default : goal.returns-in_default
returns-in_default c =
    subst (λ (digest : Option Digest). IfOk c.answering.result (IsEntryChoice c.args.key.now digest c.args.read.now))
    (sym (none_given c.args.digest.now c.in_default.not-Some)) c.answering.ensures
