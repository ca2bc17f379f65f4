-- What one pass over the records of a file made, and that it came to its end.
use Rattle.std.proofs.Common.{◌≡◌, ℕ, List, [], Option, Some, subst, arith}
use Rattle.std.proofs.lemmas.List.{append-nil}
use Rattle.std.specs.Io.KnownBytes.{Consumes}
use Rattle.byte_device.proofs.Known.{Consumes-then}
use Rattle.archive_records.specs.Kind.{kind_of, end_length}
use Rattle.archive_records.specs.Text.{text_of}
use Rattle.archive_records.specs.Reader.{Position, GathersAll, IsGathered}
use Rattle.archive_records.specs.declared.kind.TextKind.{TextKind}
use Rattle.archive_records.specs.declared.kind.TextKind.TheVariants.{Operations as Operations_text}
use Rattle.archive_records.specs.declared.format.Format.{Format}

-- what was made of all records, with nothing read after them
pub gathered : {T : Type 0} (kind : TextKind) (Makes : List (List ℕ) → T → Type 0) (a b c : Option (List ℕ)) (value : T)
    (position : Position) (format : Format) → kind_of format ≡ kind → GathersAll format Makes a b value position
    → Consumes b c [] → IsGathered kind Makes a c value
gathered kind Makes a b c value position format is all more = record {
  format = format;
  kind_is = is;
  records = all.records;
  few = all.read.few;
  taken = subst (Consumes a c) (append-nil (text_of format all.records)) (Consumes-then a b c (text_of format all.records) [] all.read.taken more);
  ordered = all.read.ordered;
  apart = all.read.apart;
  makes = all.makes;
}

-- a file that is not open has an end record
pub closed_end : (format : Format) → (kind_of format ≡ Operations_text → ⊥) → end_length format ≡ Some 9
closed_end format closed = grind arith
