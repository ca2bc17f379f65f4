-- Whom a fault blames after a step in which the reader did not fail.
use Rattle.std.proofs.Common.{◌≡◌, ℕ, List, Option, ◌∙◌}
use Rattle.archive_records.proofs.Blamed.{blames_behind}
use Rattle.index_format.specs.InnerMaking.{BlamesIndexing}
use Rattle.index_format.specs.declared.fault.IndexingFault.{IndexingFault}
use Rattle.index_format.specs.declared.fault.IndexingFault.TheVariants.{Archive as Archive_fault, OldArchive, TooLong}

module _ {R : Type 0} (left : R → Option (List ℕ)) (failures : R → ℕ) (old mid new : R) (unfailed : failures mid ≡ failures old) where
  pub indexing_behind : (fault : IndexingFault) → BlamesIndexing left failures mid new fault → BlamesIndexing left failures old new fault
  indexing_behind (Archive_fault fault) blames = blames_behind left failures old mid new unfailed fault.kind blames
  indexing_behind OldArchive same = same ∙ unfailed
  indexing_behind TooLong same = same ∙ unfailed
