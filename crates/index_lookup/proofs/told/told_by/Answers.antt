use Rattle.std.proofs.Common.{ap, sym, subst, refl}
use Rattle.index_lookup.specs.Told.{HasNoLinesBy}
use Rattle.index_lookup.proofs.told.told_by.Goals as goal

pub returns-in-Ok-Some : goal.returns-in-Ok-Some
returns-in-Ok-Some g c =
    let read = rw c.in-Ok-Some.field-0-is at c.in-Ok-Some.ensures.read in
    record { says = λ text known. read.says text known; keeps = read.keeps; counts = read.counts }

pub returns-in-Ok-None : goal.returns-in-Ok-None
returns-in-Ok-None g c =
    let read = rw c.in-Ok-None.field-0-is at c.in-Ok-None.ensures.read in
    record {
      says = λ text known. (refl, refl, subst (HasNoLinesBy text) (sym c.args.numbered.now.fields.claim_is) (read.says text known));
      keeps = read.keeps;
      counts = (c.in-Ok-None.ensures.wanted c.in-Ok-None.field-0-is, read.counts);
    }

pub returns-in-Err-Changed : goal.returns-in-Err-Changed
returns-in-Err-Changed g c =
    let read = rw c.in-Err-Changed.field-0-is at c.in-Err-Changed.ensures.read in
    record { says = λ text known. (refl, refl, read.says text known); keeps = read.keeps; counts = read.counts }

pub returns-in-Err-Device : goal.returns-in-Err-Device
returns-in-Err-Device g c =
    let read = rw c.in-Err-Device.field-0-is at c.in-Err-Device.ensures.read in
    record {
      says = λ text known. tt;
      keeps = read.keeps;
      counts = (refl, ap (λ claim. claim.offset) (sym c.args.numbered.now.fields.claim_is), read.counts);
    }

pub returns-in-Err-OutOfMemory : goal.returns-in-Err-OutOfMemory
returns-in-Err-OutOfMemory g c =
    let read = rw c.in-Err-OutOfMemory.field-0-is at c.in-Err-OutOfMemory.ensures.read in
    record { says = λ text known. tt; keeps = read.keeps; counts = read.counts }
