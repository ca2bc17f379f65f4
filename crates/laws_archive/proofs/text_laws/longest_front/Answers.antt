use Rattle.std.proofs.Common.{◌≡◌, ℕ, ◌+◌, List, inl, inr, ◌⊎◌}
use Rattle.archive_records.specs.declared.fault.RecordFaultKind.TheVariants.{Trailing}
use Rattle.archive_records.specs.declared.fault.RecordFault.{RecordFault}
use Rattle.archive_records.specs.Fault.{IsMagicFault, IsFaultOf, IsFaultAfter}
use Rattle.archive_records.specs.declared.format.Format.{Format}
use Rattle.archive_records.specs.Front.{IsLongestFront, front_length}
use Rattle.archive_records.proofs.Exact.{fault_longest}
use Rattle.laws_archive.proofs.text_laws.longest_front.Goals as goal

place : (file : Format) (records : List (List ℕ)) (rest : List ℕ) (fault : RecordFault)
    → IsFaultAfter file records rest fault → (fault.offset ≡ front_length records)
    ⊎ ((fault.kind ≡ Trailing) × (fault.offset ≡ front_length records + 9))
place file records rest fault (inl f) = inl f.1
place file records rest fault (inr t) = inr (t.0, t.2)

front : (file : Format) (text : List ℕ) (fault : RecordFault) → IsFaultOf file text fault
    → IsMagicFault file text fault.kind ⊎ ((records : List (List ℕ)) × IsLongestFront file text records
    × ((fault.offset ≡ front_length records) ⊎ ((fault.kind ≡ Trailing) × (fault.offset ≡ front_length records + 9))))
front file text fault (inl m) = inl m.0
front file text fault (inr f) = inr (f.0, fault_longest file text f.0 f.1 fault f.3, place file f.0 f.1.rest fault f.3)

pub returns : goal.returns
returns c = front
