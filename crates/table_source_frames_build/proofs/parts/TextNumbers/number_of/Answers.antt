use Rattle.std.proofs.Common.{◌∙◌, ◌+◌, ap, arith, nat_eq}
use Rattle.table_source_frames.specs.Numbering.{number_in}
use Rattle.table_source_frames.proofs.NumberingLemmas.{number_within}
use Rattle.table_source_frames_build.specs.PartBytes.{place_in}
use Rattle.table_source_frames_build.proofs.FirstUsesLemmas.{exact_numbers}
use Rattle.table_source_frames_build.proofs.NoteLemmas.{after_neither, after_other, after_some, place_none}
use Rattle.table_source_frames_build.proofs.parts.TextNumbers.number_of.Goals as goal

pub returns-then-place-ne0 : goal.returns-then-place-ne0
returns-then-place-ne0 c =
    c.place_of-place.ensures
    ∙ after_some c.args.self.now.before (place_in c.args.self.now.places.items c.args.number)
    (number_in nat_eq c.args.self.now.uses.order.items c.args.number) (λ e. c.if-place-ne0.true (c.place_of-place.ensures ∙ e))

pub returns-then-other-eq0 : goal.returns-then-other-eq0
returns-then-other-eq0 c =
    after_neither c.args.self.now.before (place_in c.args.self.now.places.items c.args.number)
    (number_in nat_eq c.args.self.now.uses.order.items c.args.number)
    (place_none c.place_of-place.result _ c.place_of-place.ensures c.if-place-ne0.false)
    (place_none c.number_of-other.result _ c.number_of-other.ensures c.if-other-eq0.true)

pub overflow_add-result : goal.overflow_add-result
overflow_add-result c =
    omega (
      arith,
      number_within nat_eq exact_numbers c.args.self.now.uses.order.items c.args.number,
      c.number_of-other.ensures,
      c.requires.few,
    )

pub returns : goal.returns
returns c =
    ap (λ n. c.args.self.now.before + n) c.number_of-other.ensures
    ∙ after_other c.args.self.now.before (place_in c.args.self.now.places.items c.args.number)
    (number_in nat_eq c.args.self.now.uses.order.items c.args.number)
    (place_none c.place_of-place.result _ c.place_of-place.ensures c.if-place-ne0.false)
    (λ e. c.if-other-eq0.false (c.number_of-other.ensures ∙ e))
