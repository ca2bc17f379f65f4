-- What is refused, from what reading an index and its archive came to.
use Rattle.std.proofs.Common.{◌≡◌, ◌≢◌, ℕ, ◌+◌, List, Option, Some, None, Ok, Err, ap, inl, inr, refl, subst}
use Rattle.std.specs.Prelude.{IfSome}
use Rattle.archive_core.specs.Summary.{Entries}
use Rattle.command_common.specs.Inputs.{AreRead, IsUntouched, Reader, IsRefusal, Unfailed, reader}
use Rattle.command_common.specs.declared.faults.CommandFault.{CommandFault}
use Rattle.command_common.specs.declared.faults.CommandFault.TheVariants.{Input, OutOfMemory}
use Rattle.command_common.specs.declared.faults.InputName.TheVariants.{Index}
use Rattle.command_common.specs.declared.faults.Why.TheVariants.{Index as IndexFaulty}
use Rattle.index_format.specs.declared.index_fault.IndexFault.{IndexFault}
use Rattle.index_format.specs.declared.index_fault.IndexFaultKind.{IndexFaultKind}
use Rattle.index_format.specs.declared.index_fault.IndexFaultKind.TheVariants.{OutOfMemory as IndexOutOfMemory}
use Rattle.index_format.specs.Reading.{Blames, ReadsIndex, ReadsText}
use Rattle.index_format.specs.Index.{lengths_of}
use Rattle.index_format.specs.Part.{IsPartFault, IsPartOf}
use Rattle.index_format.specs.Text.{IsIndexText}
use Rattle.command_given_indexes.specs.Indexes.{HoldsIndex, HoldsPart, HoldsTables, IsOfOtherLength, IsRefusedByIndex}
use Rattle.command_given_indexes.specs.Indexes.{IsRefusedByPart, IsUnreadIndex, IsUnreadPart}
use Rattle.command_given_indexes.specs.Together.{IsKept}

-- ---- INDEX

-- what is true of the text that bytes are known to be is true where they are known
where_known : (whole : Option (List ℕ)) (P : List ℕ → Type 0) → ((text : List ℕ) → whole ≡ Some text → P text) → IfSome whole P
where_known None P says = tt
where_known (Some text) P says = says text refl

module _ {S : Type 0} (left : S → Option (List ℕ)) (failures : S → ℕ) (source after : S) where
  abbrev index : Reader S
  index = reader left failures source after

  -- an index was read
  pub tables_read : (all : List (List ℕ)) → ReadsIndex left failures source after (Ok all) → AreRead (HoldsTables index all) (Unfailed index)
  tables_read all reads = record {
    is = where_known (left source) (λ text. IsIndexText text all) reads.says;
    unfailed = reads.counts;
  }

  -- which is kept
  pub index_kept : (all : List (List ℕ)) → ReadsIndex left failures source after (Ok all) → IsKept left failures source after
  index_kept all reads = (reads.keeps, reads.counts)

  -- what is reported where none was read
  pub index_refused : (number : ℕ) (fault : IndexFault) (told : CommandFault) → ReadsIndex left failures source after (Err fault)
      → IsRefusal (λ at why. (at ≡ Index number) × (why ≡ IndexFaulty fault) × (fault.kind ≢ IndexOutOfMemory)) (fault.kind ≡ IndexOutOfMemory) told
      → IsRefusal (λ at why. (at ≡ Index number) × IsUnreadIndex index why) (Unfailed index) told
  index_refused number fault (Input at why) reads r = (r.0, (fault, r.1, r.2, reads))
  index_refused number fault OutOfMemory reads r = subst (λ (kind : IndexFaultKind). Blames (failures source) (failures after) kind) r reads.counts
  index_refused number fault told reads r = absurd r

  -- entries under UUIDs were read
  pub part_read : (uuids all : List (List ℕ)) (size : ℕ)
      → ReadsText {T = List (List ℕ) × ℕ} left failures source after (Ok (all, size)) (λ text read. IsPartOf uuids text read.0 read.1) IsPartFault
      → AreRead (HoldsPart uuids index all size) (Unfailed index)
  part_read uuids all size reads = record {
    is = where_known (left source) (λ text. IsPartOf uuids text all size) reads.says;
    unfailed = reads.counts;
  }

  pub part_kept : (uuids all : List (List ℕ)) (size : ℕ)
      → ReadsText {T = List (List ℕ) × ℕ} left failures source after (Ok (all, size)) (λ text read. IsPartOf uuids text read.0 read.1) IsPartFault
      → IsKept left failures source after
  part_kept uuids all size reads = (reads.keeps, reads.counts)

  -- and were not
  pub part_refused : (uuids : List (List ℕ)) (number : ℕ) (fault : IndexFault) (told : CommandFault)
      → ReadsText {T = List (List ℕ) × ℕ} left failures source after (Err fault) (λ text read. IsPartOf uuids text read.0 read.1) IsPartFault
      → IsRefusal (λ at why. (at ≡ Index number) × (why ≡ IndexFaulty fault) × (fault.kind ≢ IndexOutOfMemory)) (fault.kind ≡ IndexOutOfMemory) told
      → IsRefusal (λ at why. (at ≡ Index number) × IsUnreadPart index why) (Unfailed index) told
  part_refused uuids number fault (Input at why) reads r =
      (r.0, (fault, r.1, r.2, record { says = reads.says; keeps = reads.keeps; counts = reads.counts }))
  part_refused uuids number fault OutOfMemory reads r =
      subst (λ (kind : IndexFaultKind). Blames (failures source) (failures after) kind) r reads.counts
  part_refused uuids number fault told reads r = absurd r

-- ---- INDEX and its archive

module _ {R S : Type 0} (number : ℕ) (index : Reader R) (archive : Reader S) where
  abbrev RefusedSo : CommandFault → Type 0
  RefusedSo fault = IsRefusal (IsRefusedByIndex number index archive) (Unfailed index × Unfailed archive) fault

  -- the archive is, whose index was read
  pub archive_refused : (fault : CommandFault) (entries : Entries) → HoldsIndex index entries → Unfailed index
      → IsRefusal (IsOfOtherLength number archive (17 + lengths_of entries)) (Unfailed archive) fault → RefusedSo fault
  archive_refused (Input at why) entries holds unfailed r = inr (entries, holds, unfailed, r)
  archive_refused OutOfMemory entries holds unfailed r = (unfailed, r)
  archive_refused fault entries holds unfailed r = absurd r

  -- INDEX is
  pub first_refused : (fault : CommandFault) → IsUntouched archive
      → IsRefusal (λ at why. (at ≡ Index number) × IsUnreadIndex index why) (Unfailed index) fault → RefusedSo fault
  first_refused (Input at why) untouched r = inl (r.0, r.1, untouched)
  first_refused OutOfMemory untouched r = (r, ap archive.failures untouched)
  first_refused fault untouched r = absurd r

  -- the same where the entries under these UUIDs are read
  module _ (uuids : List (List ℕ)) where
    abbrev PartRefusedSo : CommandFault → Type 0
    PartRefusedSo fault = IsRefusal (IsRefusedByPart uuids number index archive) (Unfailed index × Unfailed archive) fault

    pub part_archive_refused : (fault : CommandFault) (all : List (List ℕ)) (size : ℕ) → HoldsPart uuids index all size → Unfailed index
        → IsRefusal (IsOfOtherLength number archive size) (Unfailed archive) fault → PartRefusedSo fault
    part_archive_refused (Input at why) all size holds unfailed r = inr (all, size, holds, unfailed, r)
    part_archive_refused OutOfMemory all size holds unfailed r = (unfailed, r)
    part_archive_refused fault all size holds unfailed r = absurd r
