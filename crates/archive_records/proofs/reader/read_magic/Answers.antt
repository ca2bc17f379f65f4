use Rattle.std.proofs.Common.{◌∙◌, sym, ap, arith, inl, inr, refl}
use Rattle.std.specs.Prelude.{take}
use Rattle.std.proofs.lemmas.Bool.{false≢true}
use Rattle.std.proofs.lemmas.List.{length-take}
use Rattle.archive_records.specs.declared.fault.RecordFaultKind.TheVariants.{BadMagic}
use Rattle.archive_records.proofs.Blamed.{text_blames}
use Rattle.archive_records.proofs.Formats.{other_magic, other_front}
use Rattle.archive_records.proofs.Fills.{length-bytes_so_far}
use Rattle.archive_records.proofs.reader.read_magic.Goals as goal

pub returns-in-None-clause-stops : goal.returns-in-None-clause-stops
returns-in-None-clause-stops g c = λ format is.
    let at = c.fill.new.buffer.at in
    let items = c.fill.new.buffer.bytes.items in
    other_magic format (take at items) (omega (
      arith,
      c.in-Ok.ensures.came,
      c.requires.start,
      c.fill.ensures.fills.within,
      length-take at items,
    ))
    (λ e. c.in-None.ensures.none format is (ap (take at) c.deref.ensures.value ∙ e))

pub returns-else-magic_begins_with-clause-stops : goal.returns-else-magic_begins_with-clause-stops
returns-else-magic_begins_with-clause-stops g c = λ format is.
    let at = c.fill.new.buffer.at in
    let items = c.fill.new.buffer.bytes.items in
    let value = c.deref-in-Err-Truncated.ensures.value in
    other_front format (take at items) (omega (
      arith,
      c.in-Err-Truncated.ensures.came.0,
      c.requires.start,
      c.fill.ensures.fills.within,
      length-take at items,
    ))
    (λ e. false≢true (sym c.if-magic_begins_with.false ∙ (rw value at (c.magic_begins_with.ensures format is)).1 e))

pub returns-in-None-clause-reader : goal.returns-in-None-clause-reader
returns-in-None-clause-reader g c = text_blames g.R.Source.left g.R.Source.failures c.args.r.now c.fill.new.r BadMagic
    (λ e. cc) (λ e. cc) c.in-Ok.ensures.reader

pub returns-then-magic_begins_with-clause-reader : goal.returns-then-magic_begins_with-clause-reader
returns-then-magic_begins_with-clause-reader g c = rw c.in-Err-Truncated.field-0-is at c.in-Err-Truncated.ensures.reader

pub returns-else-magic_begins_with-clause-reader : goal.returns-else-magic_begins_with-clause-reader
returns-else-magic_begins_with-clause-reader g c = text_blames g.R.Source.left g.R.Source.failures c.args.r.now c.fill.new.r
    BadMagic (λ e. cc) (λ e. cc) ((rw c.in-Err-Truncated.field-0-is at c.in-Err-Truncated.ensures.reader).1 (λ e. cc))

pub returns-in-Err-Device-clause-reader : goal.returns-in-Err-Device-clause-reader
returns-in-Err-Device-clause-reader g c = rw c.in-Err-Device.field-0-is at c.in-Err-Device.ensures.reader

pub returns-in-Err-Device-clause-stops : goal.returns-in-Err-Device-clause-stops
returns-in-Err-Device-clause-stops g c = λ format is. inr
    (inl (
      refl,
      omega (
        arith,
        c.in-Err-Device.ensures.came.0,
        c.requires.start,
        length-bytes_so_far c.fill.new.buffer c.fill.ensures.fills.within,
      ),
    ))

pub returns-in-Some-clause-magic : goal.returns-in-Some-clause-magic
returns-in-Some-clause-magic g c = (c.in-Some.ensures.found.0, ap (take c.fill.new.buffer.at) (sym c.deref.ensures.value) ∙ c.in-Some.ensures.found.1)
