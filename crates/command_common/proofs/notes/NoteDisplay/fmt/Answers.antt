use Rattle.std.proofs.Common.{append_assoc}
use Rattle.std.specs.Prelude.{codes}
use Rattle.text_reports.specs.Escapes.{escaped}
use Rattle.command_common.specs.Notes.{note_text}
use Rattle.command_common.proofs.notes.NoteDisplay.fmt.Goals as goal

pub returns-in-Retired-clause-writes : goal.returns-in-Retired-clause-writes
unfolding note_text
returns-in-Retired-clause-writes g c = rw c.in-Retired.is (simp append_assoc c.write.ensures.writes)

pub returns-in-Underscored-clause-writes : goal.returns-in-Underscored-clause-writes
unfolding note_text
returns-in-Underscored-clause-writes g c =
    let name = escaped c.deref.result.now in
    rw (c.in-Underscored.is, ← c.deref.ensures.value, append_assoc name (codes ", but there is _") name)
    c.write-in-Underscored.ensures.writes
