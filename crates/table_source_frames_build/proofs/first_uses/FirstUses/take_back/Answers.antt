use Rattle.std.proofs.Common.{arith, ◌∙◌, length, Some}
use Rattle.std.proofs.lemmas.List.Elements.{All-pop}
use Rattle.table_source_frames_build.specs.Numbering.{IsNumber}
use Rattle.table_source_frames_build.proofs.LoopLemmas.{after_end, after_last}
use Rattle.table_source_frames_build.proofs.first_uses.FirstUses.take_back.Goals as goal

pub numbers-preserved : goal.numbers-preserved
numbers-preserved c = record {
  count = c.take.ensures.count ∙ c.numbers.invariant.count;
  each = (All-pop (IsNumber (length c.args.self.now.given.items)) c.numbers.numbers.items c.pop.new.self.items
      (Some c.in-Some.number) c.in-Some.ensures.items c.numbers.invariant.each).0;
  taken =
      after_last c.numbers.self.order.items c.take.new.self.order.items c.numbers.numbers.items c.pop.new.self.items
      c.in-Some.number c.in-Some.ensures.items c.in_ok-take.ensures.taken
      ∙ c.numbers.invariant.taken;
}

pub returns-clause-taken : goal.returns-clause-taken
returns-clause-taken c = after_end c.numbers.self.order.items c.numbers.numbers.items _
    (omega (arith, c.in_default.ensures.cases.0, c.numbers.numbers.ok.0)) c.numbers.invariant.taken
