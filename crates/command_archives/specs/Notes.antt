-- The notes of `admit` and of `retire`, about requested records that are not in the archive.
use Rattle.std.specs.Prelude.{◌≡◌, ℕ, List, [], ◌∷◌, ◌++◌, Bool, drop, map, if◌then◌else◌}
use Rattle.std.specs.FinSet as set
use Rattle.std.specs.List.{AllByRecursion, AllZip, filter, list_any}
use Rattle.sha2.specs.Sha256.{sha256}
use Rattle.join_core.specs.Listing.{listing}
use Rattle.archive_core.specs.Content.{Operations, IsContent, is_covered}
use Rattle.archive_core.specs.Record.{retirement_record}
use Rattle.archive_core.specs.Valid.{key_of}
use Rattle.archive_core.specs.declared.keys.Digest.{Digest}
use Rattle.archive_core.specs.declared.keys.SliceKey.{SliceKey}
use Rattle.archive_image_admission.specs.File.{IsAcceptedFile}
use Rattle.archive_image_admission.specs.Take.{admitted}
use Rattle.command_common.specs.Inputs.{Holds, HoldsArchive, Reader}
use Rattle.command_archives.specs.Admit.{images_of}
use Rattle.command_common.specs.declared.notes.Note.{Note}
use Rattle.command_common.specs.declared.notes.Note.TheVariants.{Retired, Missing}

-- the note of a retired slice that is not admitted, from the record of its admission, where it begins at offset 33
abbrev pub retired_note : List ℕ → Note
retired_note r = Retired (key_of (drop 33 r)) (record { 0 = sha256 (drop 33 r) })

-- a note for each of these operations that a content retires, in the order of their records
abbrev pub retired_notes : Operations → Operations → List Note
retired_notes o came = map retired_note (filter (is_covered o) (listing came))

-- whether a content has a slice under the key with the digest: one that this retirement covers
abbrev pub has_slice : Operations → SliceKey → Digest → Bool
has_slice o key digest = list_any (is_covered (set.from_list (retirement_record key digest.0 ∷ []))) (listing o)

-- the note for a slice to retire, unless the content has it
abbrev pub missing_notes : Operations → SliceKey → Digest → List Note
missing_notes o key digest = if has_slice o key digest then [] else Missing key digest ∷ []

-- The notes of `admit`: IN is the text of a content and the files are accepted; one note is added for each of their
-- slices that the content retires.
pub record NotesRetired {R S : Type 0} (input : Reader R) (files : List (Reader S)) (old new : List Note)
    : Type 0 where
  pub before : Operations
  pub texts : List (List ℕ)
  pub is_content : IsContent before
  pub archive : HoldsArchive input before
  pub files_are : AllZip Holds files texts
  pub accepted : AllByRecursion IsAcceptedFile texts
  pub added : new ≡ old ++ retired_notes before (admitted set.empty (images_of texts))

-- The notes of `retire`: IN is the text of a content; one note is added unless the content has a slice under the key
-- with the digest.
pub record NotesMissing {R : Type 0} (input : Reader R) (key : SliceKey) (digest : Digest) (old new : List Note)
    : Type 0 where
  pub before : Operations
  pub is_content : IsContent before
  pub archive : HoldsArchive input before
  pub added : new ≡ old ++ missing_notes before key digest
