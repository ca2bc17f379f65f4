-- Notes as they are added: definitions for private functions. No public contract uses them.
use Rattle.std.specs.Prelude.{◌≡◌, List, [], ◌∷◌, ◌++◌}
use Rattle.sha2.specs.Sha256.{sha256}
use Rattle.archive_core.specs.Content.{Operations, IsContent}
use Rattle.archive_core.specs.Valid.{key_of}
use Rattle.archive_core.specs.declared.operations.Operation.{Operation}
use Rattle.archive_core.specs.declared.operations.Operation.TheVariants.{Admit, Retire}
use Rattle.archive_merge.specs.declared.arrivals.Arrival.{Arrival}
use Rattle.archive_merge.specs.declared.arrivals.Arrival.TheVariants.{New, Had, Retired}
use Rattle.command_common.specs.Inputs.{HoldsArchive, Reader}
use Rattle.command_common.specs.declared.notes.Note.{Note}
use Rattle.command_common.specs.declared.notes.Note.TheVariants as note
use Rattle.command_archives.specs.Notes.{retired_notes}

-- the notes of an operation, by its arrival in a content: one for a slice that is retired
abbrev pub note_of : Arrival → Operation → List Note
note_of New operation = []
note_of Had operation = []
note_of Retired (Admit slice) = note.Retired (key_of slice) (record { 0 = sha256 slice }) ∷ []
note_of Retired (Retire key digest) = []

-- The input is an archive's text, and a note was added for each of these operations that its content retires.
pub record IsNoted {R : Type 0} (input : Reader R) (came : Operations) (old new : List Note) : Type 0 where
  pub before : Operations
  pub is_content : IsContent before
  pub archive : HoldsArchive input before
  pub added : new ≡ old ++ retired_notes before came
