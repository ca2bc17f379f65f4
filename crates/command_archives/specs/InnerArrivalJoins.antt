-- IN's archive, merged with operations in memory, and the arrival of each of these in IN: definitions for private
-- functions. No public contract uses them.
use Rattle.std.specs.Prelude.{◌≡◌, ℕ, ◌-◌, List, Bool, Some, length, map}
use Rattle.std.specs.List.{count_by, list_any}
use Rattle.std.specs.FinSet as set
use Rattle.join_core.specs.Listing.{listing}
use Rattle.archive_core.specs.Content.{Operations, IsContent, changes, content_of, is_covered, joined, with_record}
use Rattle.archive_core.specs.Record.{retirement_record}
use Rattle.archive_core.specs.declared.keys.Digest.{Digest}
use Rattle.archive_core.specs.declared.keys.SliceKey.{SliceKey}
use Rattle.archive_core.specs.declared.operations.Operation.{Operation}
use Rattle.archive_records.specs.declared.writing.Sizes.{Sizes}
use Rattle.archive_records.specs.Text.{AreOperations, IsOperationsText, old_written, written}
use Rattle.archive_records.specs.Writing.{IsWrittenWhole}
use Rattle.byte_device.specs.Devices.{Stream}
use Rattle.archive_merge.specs.declared.arrivals.Arrival.{Arrival}
use Rattle.archive_merge.specs.Arrivals.{arrival_of}
use Rattle.text_reports.specs.Report.{apply_line}
use Rattle.command_common.specs.Ends.{Command, MakesArchive}
use Rattle.command_common.specs.Inputs.{Gives, HoldsArchive, IsRefusedArchive, Reader, Unfailed}
use Rattle.archive_index.specs.InTurn.{AreSortedWithSameEffect}
use Rattle.command_archives.specs.Joining.{IsJoined}
use Rattle.command_archives.specs.Notes.{has_slice}

-- A source has the text of an archive of version 1 with these operations, and does not fail.
pub record HoldsVersion1Text {S : Type 0} (side : Stream S) (operations : Operations) : Type 0 where
  pub are : AreOperations operations
  pub bytes : side.bytes side.old ≡ Some (old_written operations)
  pub unfailed_before : side.failures side.old ≡ 0
  pub unfailed : side.failures side.new ≡ 0

-- The input is an archive's text, and the text of the join of its content with these operations was written. `arrived`
-- has the arrival of each operation in that content, and `withdraws` is whether one of them retires a slice of it.
pub record IsJoinedWithArrivals {R W : Type 0} (input : Reader R) (operations : Operations) (draft : Stream W)
    (sizes : Sizes) (arrived : List Arrival) (withdraws : Bool) : Type 0 where
  pub joined : IsJoined input (content_of operations) draft sizes
  pub arrivals_are : arrived ≡ map (arrival_of joined.content) (listing operations)
  pub withdraws_is : withdraws ≡ list_any (is_covered operations) (listing joined.content)

-- The input is an archive's text, and the text of its content with the retirement was written. `changed` is whether the
-- retirement changed the content, and `had` whether the content had such a slice.
pub record IsRetired {R W : Type 0} (input : Reader R) (key : SliceKey) (digest : Digest) (draft : Stream W)
    (sizes : Sizes) (changed had : Bool) : Type 0 where
  pub before : Operations
  pub is_content : IsContent before
  pub archive : HoldsArchive input before
  pub unfailed : Unfailed input
  pub written_is : IsWrittenWhole draft.bytes draft.failures draft.old draft.new
      (set.len (with_record before (retirement_record key digest.0)))
      (written (with_record before (retirement_record key digest.0))) sizes
  pub changed_is : changed ≡ changes before (retirement_record key digest.0)
  pub had_is : had ≡ has_slice before key digest

-- The input is an archive's text, and `content` is the join of its content with these operations; `lines_of` makes the
-- lines from the records that change that content.
pub record MakesTold {R : Type 0} (input : Reader R) (operations : Operations) (lines_of : (List ℕ → Bool) → List ℕ)
    (content : Operations) (lines : List ℕ) : Type 0 where
  pub before : Operations
  pub is_content : IsContent before
  pub archive : HoldsArchive input before
  pub content_is : content ≡ joined before (content_of operations)
  pub lines_are : lines ≡ lines_of (changes before)

-- the command that writes that join
abbrev pub telling : {R : Type 0} → Reader R → Operations → ((List ℕ → Bool) → List ℕ) → Command
telling input operations lines_of = record {
  Makes = MakesArchive (MakesTold input operations lines_of);
  Refuses = IsRefusedArchive 0 input;
  Unfailed = Unfailed input;
}

-- the line of `apply`: of `number` operations, those of these records that pass the test are new, and the others known
abbrev pub counts_of : List (List ℕ) → ℕ → (List ℕ → Bool) → List ℕ
counts_of records number is_new =
    apply_line (count_by is_new records) (number - count_by is_new records)

-- OPS is the text of `number` operations, and `sorted` are those that are new when applied in order.
pub record HasSortedOperations {S : Type 0} (ops : Reader S) (sorted : List Operation) (number : ℕ) : Type 0 where
  pub operations : List Operation
  pub ops_are : Gives ops (λ text. IsOperationsText text operations)
  pub sorted_is : AreSortedWithSameEffect operations sorted
  pub number_is : number ≡ length operations
