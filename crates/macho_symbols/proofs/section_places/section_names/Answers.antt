use Rattle.std.proofs.Common.{ap, arith}
use Rattle.std.proofs.Math.Facts.{Fits-lt-pow}
use Rattle.macho_symbols.proofs.PlaceLemmas.{section_past, section_is}
use Rattle.macho_symbols.proofs.section_places.section_names.Goals as goal

pub returns-then-number-places : goal.returns-then-number-places
returns-then-number-places c =
    let past = section_past c.args.image.now c.args.places.now c.requires c.args.number c.if-number-places.true (Fits-lt-pow c.ranges.number) in
    record { segment = rw past; section = rw past }

pub at-section-requires : goal.at-section-requires
at-section-requires c =
    (section_is c.args.image.now c.args.places.now c.requires c.args.number _ (omega arith) c.if-number-places.false).room

pub returns : goal.returns
returns c =
    let is = (section_is c.args.image.now c.args.places.now c.requires c.args.number _ (omega arith) c.if-number-places.false).is in
    record {
      segment = rw is (ap (λ s. s.segment) c.at-section.ensures);
      section = rw is (ap (λ s. s.section) c.at-section.ensures);
    }
