-- What steps that read say of the reader and of what they took: one alone, one after the other, and one that failed.
use Rattle.std.proofs.Common.{◌≡◌, ◌≢◌, ℕ, List, ◌++◌, length, take, drop, ap, refl, sym, ◌∙◌, subst, Option, arith, length-append, length-take, length-drop}
use Rattle.std.specs.Prelude.{Result, Ok, Err, IfErr, IsErrAnd}
use Rattle.std.proofs.lemmas.List.{take-take}
use Rattle.std.proofs.lemmas.Result.{err_from_is_err_and}
use Rattle.std.specs.Io.KnownBytes.{Consumes, IsAtEnd}
use Rattle.byte_device.specs.Devices.{FailedIn}
use Rattle.archive_records.specs.declared.fault.RecordFaultKind.{RecordFaultKind}
use Rattle.archive_records.specs.declared.fault.RecordFaultKind.TheVariants.{Device, Truncated}
use Rattle.archive_records.specs.declared.buffer.Buffer.{Buffer}
use Rattle.archive_records.specs.Reader.{BlamesReader, Bounds, Fills, bytes_so_far}
use Rattle.archive_records.specs.Reading.{Blames}

-- what `?` passes on is the fault
pub failed : {T E : Type 0} (result : Result T E) (kind : E) → IsErrAnd result (λ e. e ≡ kind) → result ≡ Err kind
failed result kind is = let p = err_from_is_err_and result is in p.1 ∙ ap (λ e. Err e) p.2

-- what the first step took stands in an empty buffer
pub filled_first : {a b : Option (List ℕ)} {buffer after : Buffer} → buffer.at ≡ 0 → Fills a b buffer after → Consumes a b (bytes_so_far after)
filled_first {a = a} {b = b} {buffer = buffer} start fills =
    subst (Consumes a b) (sym (fills.grows ∙ ap (λ (n : ℕ). take n buffer.bytes.items ++ fills.more) start)) fills.taken

-- a fault of the text says that the reader did not fail
pub text_blames : {R : Type 0} (left : R → Option (List ℕ)) (failures : R → ℕ) (old new : R) (kind : RecordFaultKind)
    → (kind ≡ Device → ⊥) → (kind ≡ Truncated → ⊥) → failures new ≡ failures old → Blames left failures old new kind
text_blames left failures old new kind no_device no_end unfailed = (λ e. absurd (no_device e), λ _. unfailed, λ e. absurd (no_end e))

-- where the input ended, the reader did not fail, and is at its end
pub end_blames : {R : Type 0} (left : R → Option (List ℕ)) (failures : R → ℕ) (old new : R) → failures new
    ≡ failures old → IsAtEnd (left new) → Blames left failures old new Truncated
end_blames left failures old new unfailed end = (λ e. cc, λ _. unfailed, λ _. end)

-- a device that failed says so
pub device_blames : {R : Type 0} (left : R → Option (List ℕ)) (failures : R → ℕ) (old new : R)
    → FailedIn (failures old) (failures new) → Blames left failures old new Device
device_blames left failures old new failed_in = (λ _. failed_in, λ other. absurd (other refl), λ e. cc)

-- a reader that did not fail in the first step is blamed for the second
module _ {R : Type 0} (left : R → Option (List ℕ)) (failures : R → ℕ) (old mid new : R) (unfailed : failures mid ≡ failures old) where
  pub blames_behind : (kind : RecordFaultKind) → Blames left failures mid new kind → Blames left failures old new kind
  blames_behind kind blames = (λ device. subst (λ n. FailedIn n (failures new)) unfailed (blames.0 device), λ other. blames.1 other ∙ unfailed, blames.2)

  pub blamed_behind : {T : Type 0} (result : Result T RecordFaultKind) → BlamesReader left failures mid new result → BlamesReader left failures old new result
  blamed_behind (Ok value) same = same ∙ unfailed
  blamed_behind (Err kind) blames = blames_behind kind blames

-- what is kept of a list that was cut off
pub cut_same : (items cut : List ℕ) (at : ℕ) → cut ≡ take at items → take at cut ≡ take at items
cut_same items cut at is = ap (take at) is ∙ take-take at at items (omega arith)

-- a test of what came blames no reader
pub tested_blames : {R T : Type 0} (left : R → Option (List ℕ)) (failures : R → ℕ) (old new : R)
    (result : Result T RecordFaultKind) → failures new ≡ failures old
    → IfErr result (λ kind. (kind ≢ Truncated) × (kind ≢ Device)) → BlamesReader left failures old new result
tested_blames left failures old new (Ok value) unfailed other = unfailed
tested_blames left failures old new (Err kind) unfailed other = text_blames left failures old new kind other.1 other.0 unfailed

-- a chunk that was pulled into is as long as it was
pub bounds_kept : (items pulled : List ℕ) (len count offset : ℕ) → len ≡ length items
    → Bounds (length items) count offset → Bounds (length (take len (pulled ++ drop (length pulled) items))) count
    offset
bounds_kept items pulled len count offset long bounds = record {
  some = let some = bounds.some in omega (
    arith,
    length-take len (pulled ++ drop (length pulled) items),
    length-append pulled (drop (length pulled) items),
    length-drop (length pulled) items,
  );
  few = bounds.few;
  fits = bounds.fits;
}
