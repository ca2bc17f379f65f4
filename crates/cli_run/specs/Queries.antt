-- Queries of archives, which are read by their indexes, or to their ends; and the notes of `name`.
use Rattle.std.specs.Prelude.{◌≡◌, ◌<◌, ◌⊎◌, ℕ, List, [], ◌∷◌, ◌++◌, Bool, true, false, nat_lt, length, Option, Some}
use Rattle.std.specs.Prelude.{None}
use Rattle.std.specs.Prelude.{if◌then◌else◌, Result, Ok, Err}
use Rattle.archive_core.specs.declared.keys.{Digest.Digest, SliceKey.SliceKey}
use Rattle.command_common.specs.declared.faults.CommandFault.{CommandFault, TheVariants.Input}
use Rattle.command_common.specs.declared.faults.InputName.TheVariants.{Archive, Index}
use Rattle.command_common.specs.declared.faults.Why.TheVariants.{NoArchive, NoIndex}
use Rattle.command_common.specs.{Archives.HoldTogether, Ends.Query, Inputs.Reader, Outputs.Takes, Outputs.Writer}
use Rattle.command_queries.specs.{Find.find, List.list, Name.SaysUnderscored}
use Rattle.command_queries.specs.{Frames.frames, Symbolicate.symbolicate}
use Rattle.command_common.specs.declared.notes.Note.{Note}
use Rattle.command_common.specs.declared.notes.Note.TheVariants.{Retired, Missing, Underscored}
use Rattle.command_given_indexes.specs.{Find.find_by, List.list_at}
use Rattle.command_frames.specs.Frames.{frames_at, symbolicate_at}
use Rattle.command_extract.specs.{Extract.Extraction, Extract.extract, Indexed.extract_at}

-- the fault of the index with this number, which has no archive, and of the archive without an index
abbrev pub no_archive : ℕ → CommandFault
no_archive number = Input (Index number) NoArchive

abbrev pub no_index : ℕ → CommandFault
no_index number = Input (Archive number) NoIndex

-- with these numbers of archives and indexes, the first index without an archive, or archive without an index, is
-- refused with this fault
abbrev pub IsAlone : ℕ → ℕ → CommandFault → Type 0
IsAlone archives indexes fault =
    ((archives < indexes) × (fault ≡ no_archive archives)) ⊎ ((indexes < archives) × (fault ≡ no_index indexes))

-- `Ok` if there are as many indexes as archives, else the fault of the first without a partner
abbrev pub index_for_each_archive : ℕ → ℕ → Result (Unit {0}) CommandFault
index_for_each_archive archives indexes = if nat_lt archives indexes then Err (no_archive archives)
    else if nat_lt indexes archives then Err (no_index indexes)
    else Ok tt

-- the query if the check succeeded, or its refusal
abbrev pub if_paired : Result (Unit {0}) CommandFault → Query → Query
if_paired (Ok _) query = query
if_paired (Err fault) query = record {
  Makes = λ status text. ⊥;
  Refuses = λ at why. fault ≡ Input at why;
  Unfailed = ⊥;
}

-- `find`, over archives as they are read from their start and at any offset, and their indexes, if there are any
abbrev pub find_of : {S : Type 0} → List (Reader S) → List (Reader S) → List (Reader S) → List ℕ → Query
find_of (archive ∷ others) places [] uuid = find archive others uuid
find_of archives places indexes uuid =
    if_paired (index_for_each_archive (length archives) (length indexes)) (find_by indexes places uuid)

-- `list`, over an archive, and its index, if there is one
abbrev pub list_of : {S : Type 0} → Reader S → Reader S → List (Reader S) → Query
list_of archive place [] = list archive
list_of archive place (index ∷ _) = list_at index place

-- `symbolicate`, over archives and indexes as for `find`
abbrev pub symbolicate_of : {S : Type 0} → List (Reader S) → List (Reader S) → List (Reader S) → SliceKey → Option ℕ
    → Bool → Bool → List ℕ → Query
symbolicate_of (archive ∷ others) places [] key load lines slices addresses =
    symbolicate archive others key load lines slices addresses
symbolicate_of archives places indexes key load lines slices addresses =
    if_paired (index_for_each_archive (length archives) (length indexes))
    (symbolicate_at indexes places key load lines slices addresses)

-- `frames`, over FRAMES, and archives and indexes as for `find`
abbrev pub frames_of : {S : Type 0} → Bool → Bool → Reader S → List (Reader S) → List (Reader S) → List (Reader S)
    → Query
frames_of lines slices crash (archive ∷ others) places [] = frames lines slices crash archive others
frames_of lines slices crash archives places indexes =
    if_paired (index_for_each_archive (length archives) (length indexes)) (frames_at lines slices crash indexes places)

-- the same for a command that writes a slice
abbrev pub extraction_if_paired : Result (Unit {0}) CommandFault → Writer → Extraction → Extraction
extraction_if_paired (Ok _) draft command = command
extraction_if_paired (Err refused) draft command = record {
  writes = record {
    Makes = λ text told. ⊥;
    Stops = λ fault. (fault ≡ refused) × Takes draft [];
    Unfailed = ⊥;
  };
  Lacks = λ told. ⊥;
}

-- `extract`, over archives and indexes as for `find`
abbrev pub extract_of : {S : Type 0} → List (Reader S) → List (Reader S) → List (Reader S) → SliceKey → Option Digest
    → Writer → Extraction
extract_of (archive ∷ others) places [] key digest draft = extract archive others key digest draft
extract_of archives places indexes key digest draft =
    extraction_if_paired (index_for_each_archive (length archives) (length indexes)) draft
    (extract_at indexes places key digest draft)

-- the name in a note that a symbol has it only with a `_` before it
abbrev pub underscored_in : Note → Option (List ℕ)
underscored_in (Retired key digest) = None
underscored_in (Missing key digest) = None
underscored_in (Underscored name) = Some name.items

-- if so, one note with this name is added, and otherwise none
abbrev pub AddsUnderscored : Bool → List ℕ → List Note → List Note → Type 0
AddsUnderscored true name old new =
    (note : Note) × (underscored_in note ≡ Some name) × (new ≡ old ++ note ∷ [])
AddsUnderscored false name old new = new ≡ old

-- The notes of `name`: one is added if the join of the archives has a symbol of the name only with a `_` before it.
abbrev pub NotesUnderscored : {R S : Type 0} → Reader R → List (Reader S) → List ℕ → List Note → List Note → Type 0
NotesUnderscored archive others name old new =
    (is_underscored : Bool) × HoldTogether archive others (λ o. SaysUnderscored o name is_underscored)
    × AddsUnderscored is_underscored name old new
