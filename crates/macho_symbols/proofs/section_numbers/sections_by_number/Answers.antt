use Rattle.std.proofs.Common.{rules, arith}
use Rattle.macho_symbols.proofs.Numbers.{next_number}
use Rattle.macho_symbols.proofs.section_numbers.sections_by_number.Goals as goal

pub loop-number-preserved : goal.loop-number-preserved
loop-number-preserved c =
    let more = next_number c.args.image.now c.loop-number.number c.loop-number.sections c.next.new.self c.next.result c.loop-number.by_number
    (omega arith) (omega arith) c.loop-number.invariant.rest c.next.ensures.steps c.loop-number.invariant.told in
    record {
      size = search rules;
      rest = more.0;
      told = more.1;
    }
