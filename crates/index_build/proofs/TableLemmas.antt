-- The table of a record, as it was written.
use Rattle.std.proofs.Common.{◌≡◌, ℕ, List, [], ◌++◌, length, Option, refl, sym, ap, ◌∙◌, subst, arith}
use Rattle.std.specs.Prelude.{Result, Ok, Err, IfOk, IfErr}
use Rattle.std.specs.Io.KnownBytes.{Appends}
use Rattle.byte_device.specs.Writes.{IsPut}
use Rattle.byte_device.proofs.Known.{Appends-none}
use Rattle.table_checked_pages.specs.Pages.{stored}
use Rattle.table_checked_pages.proofs.PageLemmas.{one_stored}
use Rattle.table_checked_pages.specs.Views.{claim_view}
use Rattle.table_checked_pages.specs.declared.claim.Claim.{Claim as ClaimFields}
use Rattle.table_source_frames.specs.SliceTable.{IsSliceTable}
use Rattle.archive_core.specs.Content.{is_admission}
use Rattle.archive_core.specs.Record.{admission_record, retirement_record}
use Rattle.archive_core.specs.Valid.{IsValid}
use Rattle.archive_core.specs.declared.keys.SliceKey.{SliceKey}
use Rattle.archive_core.proofs.Entries.{slice_of}
use Rattle.index_format.specs.Entry.{placed_bytes, placed_entry}
use Rattle.index_format.specs.declared.entry.IndexEntry.{IndexEntry}
use Rattle.index_format.specs.Entry.{claim_at, claim_bytes, entry_bytes, no_claim}
use Rattle.index_build.specs.Content.{IsTableOf, claim_of, table_entry}
use Rattle.index_build.specs.InnerMaking.{StopsTable}
use Rattle.index_build.specs.declared.fault.TableFault.{TableFault}
use Rattle.index_build.specs.declared.fault.TableFault.TheVariants.{OutOfMemory, Write}
use Rattle.index_build.proofs.Contents.{claim_admitted, claim_retired}

-- ---- the table of a slice is that of its admission

admitted_table : (slice t : List ℕ) → IsValid slice → IsSliceTable slice t → IsTableOf (admission_record slice) t
admitted_table slice t valid is = record { admitted = λ _. subst (λ s. IsSliceTable s t) (sym (slice_of slice valid)) is; retired = λ h. absurd (cc) }

module _ {W : Type 0} (held : W → Option (List ℕ)) (failures : W → ℕ) (old new : W) (done : ℕ) (slice r : List ℕ)
    (valid : IsValid slice) (is : admission_record slice ≡ r) where
  -- what was written of a slice's table, and of a record's
  abbrev PutsTable : List ℕ → ClaimFields × ℕ → Type 0
  PutsTable s put = (table : List ℕ) × IsSliceTable s table × (claim_view put.0 ≡ claim_at done table) × IsPut held failures old new done (stored table) put.1

  abbrev PutsTableOf : List ℕ → ClaimFields × ℕ → Type 0
  PutsTableOf s put = (table : List ℕ) × IsTableOf s table × (claim_view put.0 ≡ claim_of done s table) × IsPut held failures old new done (stored table) put.1

  puts_of : (put : ClaimFields × ℕ) → PutsTable slice put → PutsTableOf (admission_record slice) put
  puts_of put p = (p.0, admitted_table slice p.0 valid p.1, p.2 ∙ sym (claim_admitted done (admission_record slice) p.0 refl), p.3)

  pub put_admitted : {E : Type 0} (result : Result (ClaimFields × ℕ) E) → IfOk result (PutsTable slice) → IfOk result (PutsTableOf r)
  put_admitted (Ok put) p = subst (λ s. PutsTableOf s put) is (puts_of put p)
  put_admitted (Err fault) p = tt

  pub stopped_admitted : (fault : TableFault) → StopsTable held failures old new done (IsSliceTable slice) fault
      → StopsTable held failures old new done (IsTableOf r) fault
  stopped_admitted OutOfMemory p = p
  stopped_admitted (Write fault) p = (p.0, subst (λ s. IsTableOf s p.0) is (admitted_table slice p.0 valid p.1), p.2)

  pub stopped_as : {T : Type 0} (result : Result T TableFault)
      → IfErr result (StopsTable held failures old new done (IsSliceTable slice))
      → IfErr result (StopsTable held failures old new done (IsTableOf r))
  stopped_as (Ok value) p = tt
  stopped_as (Err fault) p = stopped_admitted fault p

-- ---- a retirement has none

stored_none : stored [] ≡ []
stored_none = one_stored [] (omega arith)

retired_table : (key : SliceKey) (digest : List ℕ) → IsTableOf (retirement_record key digest) []
retired_table key digest = record { admitted = λ h. absurd (cc); retired = λ _. refl }

pub put_retired : {W : Type 0} (held : W → Option (List ℕ)) (failures : W → ℕ) (w : W) (done : ℕ) (key : SliceKey)
    (digest r : List ℕ) (c : ClaimFields) (end : ℕ) → retirement_record key digest ≡ r → claim_view c ≡ no_claim → end
    ≡ done
    → (table : List ℕ) × IsTableOf r table × (claim_view c ≡ claim_of done r table) × IsPut held failures w w done (stored table) end
put_retired held failures w done key digest r c end is none same = (
  [],
  subst (λ s. IsTableOf s []) is (retired_table key digest),
  none ∙ sym (claim_retired done r [] (ap is_admission (sym is))),
  record {
    size_is = omega (arith, same, ap length stored_none);
    gained =
        subst (Appends (held w) (held w)) (sym stored_none) (Appends-none (held w));
    unfailed = refl;
  },
)

-- ---- the entry of a record

pub entry_made : (entry : IndexEntry) (claim : ClaimFields) (offset at before done : ℕ) (r table : List ℕ) → entry.claim
    ≡ claim → placed_bytes entry ≡ placed_entry offset r → claim_view claim ≡ claim_of at r table → offset ≡ before → at
    ≡ done
    → entry_bytes entry ≡ table_entry before done r table
unfolding entry_bytes table_entry
entry_made entry claim offset at before done r table has p c o a = (λ i. p i ++ claim_bytes ((ap claim_view has ∙ c) i))
    ∙ (λ i. placed_entry (o i) r ++ claim_bytes (claim_of (a i) r table))
