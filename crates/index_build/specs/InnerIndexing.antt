-- ARCHIVE's index, made in OUT's draft: the terms of an inner function. No contract of a public function has them.
use Rattle.std.specs.Prelude.{List, ℕ, Result, Ok, Err}
use Rattle.std.specs.FinSet as set
use Rattle.byte_device.specs.Devices.{Stream}
use Rattle.archive_core.specs.Content.{Operations, IsContent}
use Rattle.archive_records.specs.Text.{written}
use Rattle.archive_records.specs.Writing.{IsWrittenWhole}
use Rattle.archive_records.specs.declared.writing.Sizes.{Sizes}
use Rattle.index_build.specs.Content.{HasByteSlices, IsIndexOf}
use Rattle.command_common.specs.Ends.{HasTaken}
use Rattle.command_common.specs.Inputs.{Holds, Reader, Unfailed}
use Rattle.command_common.specs.Outputs.{writer}
use Rattle.command_common.specs.declared.faults.CommandFault.{CommandFault}
use Rattle.index_build.specs.Index.{StopsIndex}

-- The archive is the text of a content of byte strings in version 2, and its index was written, with these sizes.
pub record IsIndexed {R D : Type 0} (archive : Reader R) (draft : Stream D) (sizes : Sizes) : Type 0 where
  pub content : Operations
  pub is_content : IsContent content
  pub slices : HasByteSlices content
  pub archive_is : Holds archive (written content)
  pub unfailed : Unfailed archive
  pub text : List ℕ
  pub is_index : IsIndexOf content text
  pub written_is : IsWrittenWhole draft.bytes draft.failures draft.old draft.new (set.len content) text sizes

-- the result of making the index: it was written; or the bytes that the draft accepted, and the fault
abbrev pub IndexesAmidst : {R D : Type 0} → Reader R → Stream D → Result Sizes CommandFault → Type 0
IndexesAmidst archive draft (Ok sizes) = IsIndexed archive draft sizes
IndexesAmidst archive draft (Err told) =
    HasTaken (writer draft.bytes draft.failures draft.old draft.new) told × StopsIndex archive draft told
