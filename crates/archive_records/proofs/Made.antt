-- What was made of the records of a text that was read, and what the text says.
use Rattle.std.proofs.Common.{◌≡◌, ℕ, List, [], ◌++◌, length, Option, Result, Ok, Err, refl, sym, ap, ◌∙◌, subst, arith, inl, inr}
use Rattle.std.proofs.Math.ListN.{length-map}
use Rattle.std.specs.List.{concat}
use Rattle.std.specs.Io.KnownBytes.{Consumes, IsAtEnd}
use Rattle.std.specs.Cmp.Lexicographic.{nat_list_cmp_total}
use Rattle.join_core.specs.Listing.{listing}
use Rattle.join_core.proofs.Listing.{listing_ascending}
use Rattle.archive_core.specs.Record.{record_bytes}
use Rattle.archive_core.proofs.Made.{bytes_same}
use Rattle.archive_records.specs.declared.fault.RecordFault.{RecordFault}
use Rattle.archive_records.specs.declared.fault.RecordFaultKind.TheVariants.{OutOfMemory}
use Rattle.archive_records.specs.declared.format.Format.{Format}
use Rattle.archive_records.specs.declared.format.Format.TheVariants.{Archive, OldArchive, Operations as Operations_file, Summary as Summary_file}
use Rattle.archive_records.specs.declared.kind.TextKind.{TextKind}
use Rattle.archive_records.specs.declared.kind.TextKind.TheVariants.{Archive as Archive_text, Operations as Operations_text, Summary as Summary_text}
use Rattle.archive_records.specs.Kind.{kind_of}
use Rattle.archive_records.specs.Text.{ending, text_of, InOrder, taken_of}
use Rattle.archive_records.specs.Reading.{IsMeaning, IsReadInPart, IsReadWhole, Meaning, ReadsInPart, ReadsWhole, records_in}
use Rattle.archive_records.specs.Reader.{set_of, IsGathered}
use Rattle.archive_records.proofs.Apart.{apart_none}
use Rattle.archive_records.proofs.FaultKinds.{memory_blames}
use Rattle.archive_records.proofs.Undecided.{cut_text}
use Rattle.archive_records.proofs.Contents.{sorted-InOrder, sorted-entries, AreEntries-entries}
use Rattle.archive_records.proofs.Formats.{in_order_old, operations_form, summary_form}
use Rattle.archive_records.proofs.Inputs.{IsReadTo, IsReadTo-content, IsReadAs, read_whole, refused}
use Rattle.archive_records.proofs.OperationRecords.{operations_in}
use Rattle.archive_records.proofs.Versions.{kept_set, kept_records}

-- the records that are taken are those of their content
pub taken_listing : (f : Format) → kind_of f ≡ Archive_text → (xs : List (List ℕ)) → InOrder f [] xs → listing (set_of (taken_of f xs)) ≡ taken_of f xs
taken_listing Archive is xs a = listing_ascending nat_list_cmp_total bytes_same xs (sorted-InOrder [] xs a).1
taken_listing OldArchive is xs a = ap listing (kept_set xs (in_order_old [] xs a)) ∙ kept_records xs (in_order_old [] xs a)
taken_listing _ is xs a = cc

-- what it says, of which the value was made
pub record Says {T : Type 0} (file : TextKind) (Makes : List (List ℕ) → T → Type 0) (a b : Option (List ℕ)) (value : T) : Type 0 where
  pub meaning : Meaning file
  pub is : IsMeaning file meaning
  pub makes : Makes (records_in file meaning) value
  pub said : IsReadAs file a b meaning

-- the set of the records that are taken was read
pub read_to : {T : Type 0} {Makes : List (List ℕ) → T → Type 0} {a b : Option (List ℕ)} {value : T} {file : TextKind}
    (m : IsGathered file Makes a b value) → IsReadTo file a b (set_of (taken_of m.format m.records))
read_to m = record {
  format = m.format;
  kind_is = m.kind_is;
  records = m.records;
  few = m.few;
  taken = m.taken;
  ordered = m.ordered;
  apart = m.apart;
  makes = refl;
}

module _ {T : Type 0} (Makes : List (List ℕ) → T → Type 0) (a b : Option (List ℕ)) (value : T) (end : IsAtEnd b) where
  pub says : (file : TextKind) → IsGathered file Makes a b value → Says file Makes a b value
  says Archive_text m =
      let read = read_to m in
      record {
        meaning = set_of (taken_of m.format m.records);
        is = IsReadTo-content a b (set_of (taken_of m.format m.records)) read;
        makes = subst (λ (xs : List (List ℕ)). Makes xs value) (sym (taken_listing m.format m.kind_is m.records m.ordered)) m.makes;
        said = read;
      }
  says Operations_text m =
      let form = operations_form m.format m.kind_is in
      let xs = operations_in [] m.records (subst (λ (f : Format). InOrder f [] m.records) form m.ordered) in
      let few = m.few in
      record {
        meaning = xs.0;
        is = xs.1;
        makes = subst (λ (rs : List (List ℕ)). Makes rs value) (sym xs.2) (subst (λ (f : Format). Makes (taken_of f m.records) value) form m.makes);
        said = record {
          few = omega (arith, sym (length-map xs.0 record_bytes) ∙ ap length xs.2);
          taken = subst (λ (rs : List (List ℕ)). Consumes a b (text_of Operations_file rs)) (sym xs.2)
              (subst (λ (f : Format). Consumes a b (text_of f m.records)) form m.taken);
          at_end = end;
          are = xs.1;
        };
      }
  says Summary_text m =
      let form = summary_form m.format m.kind_is in
      let ordered : InOrder Summary_file [] m.records = subst (λ (f : Format). InOrder f [] m.records) form m.ordered in
      record {
        meaning = set_of m.records;
        is = AreEntries-entries m.records ordered;
        makes = subst (λ (xs : List (List ℕ)). Makes xs value)
            (sym (listing_ascending nat_list_cmp_total bytes_same m.records (sorted-entries [] m.records ordered).1))
            (subst (λ (f : Format). Makes (taken_of f m.records) value) form m.makes);
        said = subst (IsReadTo Summary_text a b) (ap (λ (f : Format). set_of (taken_of f m.records)) form) (read_to m);
      }

-- ---- the whole input

-- what is told after the last record
pub finished : {R T X : Type 0} (file : TextKind) (Makes : List (List ℕ) → T → Type 0)
    (Tells : X → Meaning file → Type 0) (left : R → Option (List ℕ)) (failures : R → ℕ) (old new : R) (value : T)
    (told : X)
    → IsGathered file Makes (left old) (left new) value → IsAtEnd (left new) → failures new ≡ failures old
    → ((m : Meaning file) → IsMeaning file m → Makes (records_in file m) value → Tells told m)
    → IsReadInPart file (Tells told) left failures old new
finished file Makes Tells left failures old new value told gathered end unfailed tells =
    let s = says Makes (left old) (left new) value end file gathered in
    record { meaning = s.meaning; whole = read_whole file s.meaning left failures old new s.said end unfailed; kept = tells s.meaning s.is s.makes }

-- memory was wanted after the text
pub wanted : {R T : Type 0} (file : TextKind) (Makes : List (List ℕ) → T → Type 0) (left : R → Option (List ℕ)) (failures : R → ℕ) (old new : R) (value : T)
    → IsGathered file Makes (left old) (left new) value → IsAtEnd (left new) → failures new ≡ failures old
    → ReadsWhole file (λ (m : Meaning file). m) left failures old new (Err (record { kind = OutOfMemory; offset = 8 }))
wanted file Makes left failures old new value m end unfailed =
    refused file left failures old new (record { kind = OutOfMemory; offset = 8 }) (inr (
      m.format,
      m.kind_is,
      [],
      record {
        rest = concat m.records ++ ending m.format (length m.records);
        taken = m.taken;
        ordered = tt;
        apart = apart_none m.format;
        few = omega arith;
        unended = λ known. absurd (known.1 refl);
        stops = inl (refl, λ other. absurd (other refl));
        undecided = λ _. cut_text m.format m.records m.ordered m.apart (omega (arith, m.few)) (ending m.format (length m.records)) refl;
      },
    )) (memory_blames left failures old new unfailed)

-- where the whole of it is told
pub told_whole : {R X : Type 0} (file : TextKind) (meaning : X → Meaning file) (left : R → Option (List ℕ))
    (failures : R → ℕ) (old new : R) (r : Result X RecordFault)
    → ReadsInPart file (λ x m. meaning x ≡ m) left failures old new r → ReadsWhole file meaning left failures old new r
told_whole file meaning left failures old new (Ok x) h = subst (λ (m : Meaning file). IsReadWhole file m left failures old new) (sym h.kept) h.whole
told_whole file meaning left failures old new (Err fault) h = h
