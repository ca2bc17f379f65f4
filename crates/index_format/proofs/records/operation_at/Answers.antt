use Rattle.std.proofs.Common.{◌∙◌, Err, sym, ap, subst, refl, arith, length}
use Rattle.std.proofs.lemmas.Option.{IfSome_then}
use Rattle.byte_device.specs.Devices.{FailsWithin}
use Rattle.byte_device.specs.Places.{Stands}
use Rattle.index_format.specs.Entry.{placed_bytes}
use Rattle.index_format.specs.Places.{IsNamedBy}
use Rattle.index_format.proofs.Gathered.{known}
use Rattle.index_format.proofs.NamedRecord.{named_retirement, none_other, none_short, read_of}
use Rattle.index_format.proofs.records.operation_at.Goals as goal
use Rattle.archive_core.specs.Record.{record_bytes}

pub returns-then-is_retirement : goal.returns-then-is_retirement
returns-then-is_retirement g c =
    let whole = g.P.Placed.whole c.args.archive.now in
    let made = c.retirement.ensures in
    let named = named_retirement whole c.args.entry.now c.requires.entry (omega arith) (omega arith)
    (c.is_retirement.ensures.yes c.if-is_retirement.true) made.operation.0 made.operation.1 in
    (IfSome_then whole named (λ text n. subst (IsNamedBy text (placed_bytes c.args.entry.now)) (sym (ap record_bytes made.is)) n), refl, refl)

pub returns-in-Ok-None : goal.returns-in-Ok-None
returns-in-Ok-None g c =
    let h = c.in-Ok-None.ensures in (
      none_short (g.P.Placed.whole c.args.archive.now) c.args.number c.args.entry.now c.requires.entry (omega arith)
          (omega arith) (c.is_retirement.ensures.no c.if-is_retirement.false) (rw c.in-Ok-None.field-0-is at h.read),
      h.keeps,
      h.unfailed,
    )

pub returns-in-Ok-None-admission_of : goal.returns-in-Ok-None-admission_of
returns-in-Ok-None-admission_of g c =
    let e = c.args.entry.now in
    let h = c.in-Ok-Some.ensures in
    let read = rw c.in-Ok-Some.field-0-is at h.read in
    let stands = subst (Stands (g.P.Placed.whole c.args.archive.now) e.offset) (sym c.deref.ensures.value) read.1 in (
      none_other (g.P.Placed.whole c.args.archive.now) c.args.number e c.deref.result.now c.requires.entry (omega arith)
          (omega arith) (c.is_retirement.ensures.no c.if-is_retirement.false)
          (ap length c.deref.ensures.value ∙ read.0) stands (rw c.in-Ok-None-admission_of.field-0-is at c.in-Ok-None-admission_of.ensures.none),
      h.keeps,
      h.unfailed,
    )

pub returns-in-Err-Device : goal.returns-in-Err-Device
returns-in-Err-Device g c =
    let h = c.in-Err-Device.ensures in (
      known _ (g.P.Placed.whole c.args.archive.now) (λ text. tt),
      h.keeps,
      (
        h.device (ap Err c.in-Err-Device.field-0-is),
        read_of (FailsWithin g.P.Placed.whole g.P.Placed.failures g.P.Placed.unread c.args.archive.now c.bytes_at.new.archive)
            c.args.entry.now c.requires.entry (omega arith) (omega arith)
            (c.is_retirement.ensures.no c.if-is_retirement.false) (h.unread (ap Err c.in-Err-Device.field-0-is)),
      ),
    )
