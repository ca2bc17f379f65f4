-- What was sent of the slice of an entry, and told of it; or why it was not.
use Rattle.std.proofs.Common.{◌≡◌, ℕ, ◌+◌, ◌<◌, List, [], take, drop, length, Option, Some, None, Result, Ok, Err, refl, sym, ap, ◌∙◌, subst, inl, inr, arith}
use Rattle.std.specs.Prelude.{IfSome}
use Rattle.sha2.specs.Sha256.{sha256}
use Rattle.byte_device.specs.Devices.{stream}
use Rattle.byte_device.specs.Places.{Stands}
use Rattle.command_extract.specs.Copies.{IsCopied}
use Rattle.command_extract.specs.Sending.{HaveOther, HaveSome, StopsSending, Hinders as HindersSending}
use Rattle.command_extract.specs.declared.tested_copy.SendFault.{SendFault}
use Rattle.command_extract.specs.declared.tested_copy.SendFault.TheVariants.{Other, Device, Sink}
use Rattle.command_common.specs.Inputs.{Gives, Reader, Unfailed, reader}
use Rattle.command_common.specs.Outputs.{IsPublished, Out, Publishes, Reports, Takes, Writer, writer}
use Rattle.command_common.specs.declared.faults.CommandFault.{CommandFault}
use Rattle.command_common.specs.declared.faults.CommandFault.TheVariants.{Report}
use Rattle.command_common.specs.declared.faults.InputName.TheVariants.{Archive, Index}
use Rattle.command_common.specs.declared.faults.Status.{Status}
use Rattle.command_common.specs.declared.faults.Status.TheVariants.{Done}
use Rattle.command_common.specs.declared.faults.Why.TheVariants.{Stale}
use Rattle.index_lookup.specs.Among.{EntryAt}
use Rattle.archive_core.specs.declared.keys.SliceKey.{SliceKey}
use Rattle.index_format.specs.Entry.{offset_in}
use Rattle.index_lookup.specs.Named.{Names}
use Rattle.index_lookup.specs.declared.named.NamedSlice.{NamedSlice}
use Rattle.command_extract.specs.Entries.{Hinders, HoldsSlice, IsSliceOf, StandFor, StopsSlice}
use Rattle.command_extract.specs.InnerEntries.{told_fault}
use Rattle.command_extract.specs.Wanted.{line_of, written_line}

-- the draft was not begun
pub unbegun : {P : Type 0} (archive : Reader P) (x : EntryAt) (draft : Writer) (fault : CommandFault) → Takes draft []
    → Hinders archive x draft 0 fault → StopsSlice archive x draft fault
unbegun archive x draft fault took hinders = record {
  bytes = [];
  took = took.0;
  within = omega arith;
  stand = λ some. absurd (some refl);
  held_back = λ some. absurd (some refl);
  hinders = hinders;
}

module _ {P W : Type 0} (whole : P → Option (List ℕ)) (failures : P → ℕ) (held : W → Option (List ℕ))
    (failures_of_draft : W → ℕ) (device after : P) (before behind : W) (named : NamedSlice) (x : EntryAt)
    (names : Names x named) where
  abbrev archive : Reader P
  archive = reader whole failures device after

  abbrev draft : Writer
  draft = writer held failures_of_draft before behind

  place : named.offset + 33 ≡ offset_in x.entry + 33
  place = ap (λ (n : ℕ). n + 33) names.offset_is

  stand_for : (bytes : List ℕ) → Stands (whole device) (named.offset + 33) bytes → Gives archive (StandFor x bytes)
  stand_for bytes stand = subst (λ (k : ℕ). Stands (whole device) k bytes) place stand

  -- so many bytes with the SHA-256 are a slice as the entry says
  holds_slice : HaveSome (whole device) (named.offset + 33) named.size named.row.digest.0 → (slice : List ℕ) × HoldsSlice archive x slice
  holds_slice have =
      let d = have.1 in (
        d.bytes,
        record {
          of = record { some = omega (arith, have.0, d.long); long = d.long ∙ names.size_is; digest_is = sym d.digest_is ∙ names.row.digest_is };
          stands = stand_for d.bytes d.stands;
        },
      )

  -- others are none
  holds_other : (known : Option (List ℕ)) → HaveOther known (named.offset + 33) named.size named.row.digest.0
      → IfSome known (λ text. (slice : List ℕ) → IsSliceOf x slice → StandFor x slice text → ⊥)
  holds_other None other = tt
  holds_other (Some text) other = λ slice of stands. other (
    omega (arith, of.some, of.long, names.size_is),
    record {
      bytes = slice;
      long = of.long ∙ sym names.size_is;
      stands = subst (λ (k : ℕ). take (length slice) (drop k text) ≡ slice) (sym place) stands;
      digest_is = names.row.digest_is ∙ sym of.digest_is;
    },
  )

  hindered : (sent : ℕ) (fault : SendFault) → HindersSending (stream whole failures device after)
      (stream held failures_of_draft before behind) (named.offset + 33) named.size named.row.digest.0 sent fault
      → Hinders archive x draft sent (told_fault named.input named.number named.offset fault)
  hindered sent Other h = (inr (ap Index names.input_is, ap (λ (n : ℕ). Stale (Some n)) names.number_is, h.1, holds_other (whole device) h.0), h.2)
  hindered sent Device h = (inl (ap Archive names.input_is, (refl, names.offset_is, h.0)), h.1)
  hindered sent (Sink written) h = (h.0, omega (arith, h.1, names.size_is), h.2, h.3)

  -- the slice was sent
  pub sent : (0 < named.size) × IsCopied (stream whole failures device after)
      (stream held failures_of_draft before behind) (named.offset + 33) named.size named.row.digest.0 → (slice : List ℕ)
      × HoldsSlice archive x slice × Takes draft slice × Unfailed archive
  sent (some, copied) = (
    copied.bytes,
    record {
      of = record { some = omega (arith, some, copied.long); long = copied.long ∙ names.size_is; digest_is = sym copied.digest_is ∙ names.row.digest_is };
      stands = stand_for copied.bytes copied.gains.stands;
    },
    (copied.gains.gained, copied.unfailed.1),
    copied.unfailed.0,
  )

  -- the slice was not sent
  pub unsent : (fault : SendFault) → StopsSending (stream whole failures device after)
      (stream held failures_of_draft before behind) (named.offset + 33) named.size named.row.digest.0 fault
      → StopsSlice archive x draft (told_fault named.input named.number named.offset fault)
  unsent fault stops = record {
    bytes = stops.bytes;
    took = stops.gains.gained;
    within = omega (arith, stops.within, names.size_is);
    stand = λ some. stand_for stops.bytes stops.gains.stands;
    held_back = λ some. holds_slice (stops.held_back some);
    hinders = hindered (length stops.bytes) fault stops.hinders;
  }

-- the line that an entry tells is that of its slice
pub same_line : (key : SliceKey) (named : NamedSlice) (x : EntryAt) (slice : List ℕ) → Names x named → IsSliceOf x slice
    → line_of key named.row.digest named.size ≡ written_line key slice
same_line key named x slice names of =
    ap (λ (d : List ℕ). line_of key (record { 0 = d }) named.size) (names.row.digest_is ∙ sym of.digest_is)
    ∙ ap (λ (n : ℕ). line_of key (record { 0 = sha256 slice }) n) (names.size_is ∙ sym of.long)

-- what is in place is published, whatever came of the report
pub told_so : (out : Out) (report : Writer) (slice told : List ℕ) (result : Result Status CommandFault) → IsPublished out slice
    → Reports report Done told result → Publishes out report slice told result
told_so out report slice told (Ok ended) placed reported = (reported.0, placed, reported.1)
told_so out report slice told (Err (Report n)) placed reported = (placed, reported)
told_so out report slice told result placed reported = absurd reported
