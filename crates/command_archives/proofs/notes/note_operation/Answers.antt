use Rattle.std.proofs.Common.{sym, inl, inr}
use Rattle.std.proofs.lemmas.List.{append-nil}
use Rattle.command_archives.proofs.notes.note_operation.Goals as goal

pub returns-in-New : goal.returns-in-New
returns-in-New c = elim c.in-New.is [
  | inl new ↦ rw new (sym (append-nil c.args.notes.now.items))
  | inr had ↦ rw had (sym (append-nil c.args.notes.now.items))
]
