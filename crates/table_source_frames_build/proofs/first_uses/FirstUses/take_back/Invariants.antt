use Rattle.std.proofs.Common.{◌≡◌, length, reverse, nat_eq, vec_len, All}
use Rattle.table_source_frames.specs.Numbering.{numbered_after}
use Rattle.table_source_frames_build.specs.Numbering.{IsNumber}
use Rattle.table_source_frames_build.proofs.first_uses.FirstUses.take_back.Given as goal

abbrev pub invariant-numbers : goal.invariant-numbers
invariant-numbers l = record {
  count : length l.self.given.items ≡ length l.fn.self.given.items;
  each : All (IsNumber (length l.fn.self.given.items)) l.numbers.items;
  taken : numbered_after nat_eq l.self.order.items (reverse l.numbers.items) ≡ numbered_after nat_eq l.fn.self.order.items (reverse l.fn.numbers.items);
}

abbrev pub decreases-numbers : goal.decreases-numbers
decreases-numbers l = vec_len l.numbers
