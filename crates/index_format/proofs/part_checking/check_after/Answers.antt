use Rattle.std.proofs.Common.{nat_cmp, sym, take}
use Rattle.std.specs.Cmp.Lexicographic.{slice_cmp}
use Rattle.index_format.proofs.Ascending.{less_is}
use Rattle.index_format.proofs.part_checking.check_after.Goals as goal

pub returns-clause-pass : goal.returns-clause-pass
returns-clause-pass c = (
  sym c.in_ok-check_entry.ensures.checked,
  less_is (slice_cmp nat_cmp (take 74 c.args.last.now) (take 74 c.args.entry.now)) (sym c.if-not-is_above.ensures),
)
