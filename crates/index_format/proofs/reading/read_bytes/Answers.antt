use Rattle.std.proofs.Common.{◌≡◌, ◌+◌, ◌*◌, ◌<◌, ◌≤◌, ◌^◌, ℕ, List, subst, sym, inl, inr, refl, arith, length}
use Rattle.std.specs.Prelude.{Option, Err}
use Rattle.table_checked_pages.specs.Pages.{AreStored, Claim}
use Rattle.table_checked_pages.specs.Reading.{ReadsStored}
use Rattle.table_checked_pages.specs.declared.fault.CheckFault.{CheckFault}
use Rattle.table_checked_pages.specs.declared.fault.CheckFault.TheVariants.{Changed, Device, OutOfMemory}
use Rattle.index_format.specs.Fault.{FailsDigest}
use Rattle.index_format.specs.InnerReading.{AreEndsOf, unread_kind}
use Rattle.index_format.specs.Reading.{IsRefused, ReadsText}
use Rattle.index_format.specs.Text.{entries_claim, entries_in}
use Rattle.index_format.specs.declared.ends.Ends.{Ends}
use Rattle.index_format.proofs.IndexTexts.{are_entries, ends_fill, first_fills, first_after}
use Rattle.index_format.proofs.reading.read_bytes.Goals as goal

-- the claim of the entries, by the ends
abbrev claim_of : Ends → Claim
claim_of ends = record { offset = ends.start; size = 122 * ends.count; root = ends.root }

claim_is : (text : List ℕ) (ends : Ends) → AreEndsOf text ends → claim_of ends ≡ entries_claim text
claim_is text ends are = λ i. record { offset = are.start_is i; size = 122 * are.count_is i; root = are.root_is i }

-- a fault of the pages is one of the index
fault_as : {D T U : Type 0} (whole : D → Option (List ℕ)) (failures : D → ℕ) (old new : D) (f : CheckFault) (ends : Ends)
    (A : List ℕ → T → Type 0) (A' : List ℕ → U → Type 0) → ends.first + 122 * ends.count + 57 < 2 ^ 64
    → ReadsStored whole failures old new (Err f) A
    (λ text. length text < 2 ^ 64 → (all : List ℕ) → AreStored text (claim_of ends) all → ⊥)
    → ReadsText whole failures old new (Err (record { kind = unread_kind f; offset = ends.start })) A'
    (λ text fault. AreEndsOf text ends → IsRefused FailsDigest text fault)
fault_as whole failures old new Changed ends A A' fits h = record {
  says = λ text known. inr (λ are. inr (record {
    ends = are.has;
    kind_is = refl;
    offset_is = are.start_is;
    other = λ stored. h.says text known (omega (arith, fits, ends_fill text ends are)) (entries_in text)
        (subst (λ claim. AreStored text claim (entries_in text)) (sym (claim_is text ends are)) stored);
  }));
  keeps = h.keeps;
  counts = h.counts;
}
fault_as whole failures old new Device ends A A' fits h = record {
  says = λ text known. inr (λ are. inl (inl refl, inr (inr are.start_is)));
  keeps = h.keeps;
  counts = h.counts;
}
fault_as whole failures old new OutOfMemory ends A A' fits h = record {
  says = λ text known. inr (λ are. inl (inr refl, inr (inr are.start_is)));
  keeps = h.keeps;
  counts = h.counts;
}

pub returns-in-Ok-clause-read : goal.returns-in-Ok-clause-read
returns-in-Ok-clause-read g c =
    let read = c.in-Ok.ensures.read in
    let ends = c.args.ends.now in
    let bytes : List ℕ = c.in-Ok.bytes.items in
    record {
      says = λ text known are.
          let inside : ends.start ≤ length text = omega (arith, are.start_is, first_after text are.has, first_fills text are.has) in
          let stored : AreStored text (entries_claim text) bytes =
          subst (λ claim. AreStored text claim bytes) (claim_is text ends are) (read.says text known inside) in
          let same = are_entries text are.has bytes stored in
          record {
            digest = record { ends = are.has; stored = subst (AreStored text (entries_claim text)) same stored };
            bytes_are = same;
          };
      keeps = read.keeps;
      counts = read.counts;
    }

pub returns-in-Err-clause-read : goal.returns-in-Err-clause-read
returns-in-Err-clause-read g c =
    rw c.unread.ensures (fault_as _ _ _ _ c.in-Err.fault c.args.ends.now _ _ c.requires c.in-Err.ensures.read)
