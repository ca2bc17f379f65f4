-- An archive of version 1 is told by its first eight bytes.
use Rattle.std.proofs.Common.{◌≡◌, ◌≢◌, ℕ, ◌<◌, List, [], ◌++◌, length, take, Option, Some, None, Err, refl, sym, ap}
use Rattle.std.proofs.Common.{◌∙◌, inl, inr, arith, length-take, length-append}
use Rattle.std.specs.Io.KnownBytes.{Consumes, IsAtEnd}
use Rattle.std.proofs.lemmas.List.{take-append-le, take-take}
use Rattle.archive_records.specs.declared.fault.RecordFaultKind.{RecordFaultKind}
use Rattle.archive_records.specs.declared.fault.RecordFaultKind.TheVariants.{BadMagic, Truncated}
use Rattle.archive_records.specs.declared.format.Format.TheVariants.{OldArchive as Old_format}
use Rattle.archive_records.specs.declared.kind.TextKind.TheVariants.{Archive as Archive_text}
use Rattle.archive_records.specs.Fault.{IsMagicFault}
use Rattle.archive_records.specs.Kind.{old_magic}
use Rattle.archive_records.specs.Reading.{IsOfMachine}
use Rattle.archive_records.specs.Reader.{StopsInMagicOf}
use Rattle.index_format.specs.declared.fault.IndexingFault.{IndexingFault}
use Rattle.index_format.specs.declared.fault.IndexingFault.TheVariants.{Archive as Archive_fault, OldArchive, TooLong}
use Rattle.index_format.specs.InnerMaking.{MagicTested}
use Rattle.index_format.specs.Making.{TellsVersion}

-- the magic of version 1 is no fault of it
no_fault : (text came left : List ℕ) (kind : RecordFaultKind) → text ≡ came ++ left → (length came < 8 → left ≡ [])
    → take 8 text ≡ old_magic → IsMagicFault Old_format came kind → ⊥
no_fault text came left BadMagic whole ends old f =
    f.3 (sym (take-append-le f.0 came left f.2) ∙ ap (take f.0) (sym whole) ∙ sym (take-take f.0 8 text f.1) ∙ ap (take f.0) old)
no_fault text came left Truncated whole ends old f =
    omega (arith, f.0, length-take 8 text, ap length old, ap length whole, length-append came left, ap length (ends f.0))
no_fault text came left _ whole ends old f = f

stops_old : (text came left : List ℕ) (kind : RecordFaultKind) → text ≡ came ++ left → (length came < 8 → left ≡ [])
    → StopsInMagicOf Archive_text came kind → take 8 text ≡ old_magic → IsOfMachine kind
stops_old text came left kind whole ends stops old = elim (stops Old_format refl) [
  | inl f ↦ absurd (no_fault text came left kind whole ends old f)
  | inr (inl f) ↦ inl f.0
  | inr (inr f) ↦ inr f.0
]

-- the tests of the magic tell the version
pub tells_version : (a b : Option (List ℕ)) (came : List ℕ) (fault : IndexingFault) → Consumes a b came
    → (length came < 8 → IsAtEnd b) → MagicTested came (Err fault) → TellsVersion a fault
tells_version a b came OldArchive taken ends tested = tt
tells_version a b came TooLong taken ends tested = absurd tested
tells_version None b came (Archive_fault fault) taken ends tested = tt
tells_version (Some text) None came (Archive_fault fault) taken ends tested = absurd taken
tells_version (Some text) (Some left) came (Archive_fault fault) taken ends tested = stops_old text came left fault.kind taken ends tested.1

-- no test of the magic says that something stands too far
pub never_long : (came : List ℕ) (fault : IndexingFault) → MagicTested came (Err fault) → fault ≢ TooLong
never_long came OldArchive tested = λ e. absurd (cc)
never_long came TooLong tested = absurd tested
never_long came (Archive_fault fault) tested = λ e. absurd (cc)
