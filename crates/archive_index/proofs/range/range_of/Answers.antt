use Rattle.std.proofs.Common.{◌∙◌, refl, sym, ap, length, rules, arith}
use Rattle.std.specs.Ordering.{nat_cmp, is_lt, is_le}
use Rattle.std.specs.Cmp.Lexicographic.{slice_cmp}
use Rattle.std.proofs.lemmas.List.Sorted.{IsPartitionPoint-from_clause}
use Rattle.archive_core.specs.declared.operations.Operation.{Operation}
use Rattle.archive_index.specs.InnerRange.{scope_prefix, prefix_of}
use Rattle.archive_index.proofs.Falling.{middle, parted_drop}
use Rattle.archive_index.proofs.Ranges.{below_place, none_at, parted}
use Rattle.archive_index.proofs.range.range_of.Goals as goal

pub returns-clause-range : goal.returns-clause-range
returns-clause-range c =
    let operations = c.args.operations.now in
    let start = c.partition_point-start.result in
    let count = c.partition_point-count.result in
    let compared = λ (a : Operation). slice_cmp nat_cmp (prefix_of c.args.scope a) (scope_prefix c.args.kind c.args.scope) in
    let before = λ (a : Operation). is_lt (compared a) in
    let upto = λ (a : Operation). is_le (compared a) in
    let rest = c.split_at.ensures.back in
    let first = IsPartitionPoint-from_clause before operations start c.partition_point-start.ensures.partitioned
    (parted is_lt refl refl c.args.scope (scope_prefix c.args.kind c.args.scope) operations c.requires.ascending
    c.requires.are) (λ a r f called. (search rules, search rules)) in
    let second =
    IsPartitionPoint-from_clause upto c.split_at.result.1.now count c.partition_point-count.ensures.partitioned
    (rw rest (parted_drop upto operations start (parted is_le refl refl c.args.scope
    (scope_prefix c.args.kind c.args.scope) operations c.requires.ascending c.requires.are)))
    (λ a r f called. (search rules, search rules)) in
    let later = rw rest at second in
    middle compared operations start count first.0 first.1 later.0 later.1

pub returns-then-is_lt-clause-range : goal.returns-then-is_lt-clause-range
returns-then-is_lt-clause-range c =
    let operations = c.args.operations.now in
    let len = length operations in
    let last = c.index-operations-len in
    let below = below_place c.args.kind c.args.scope operations c.requires.ascending c.requires.are len (omega arith)
    last.result c.if-len-gt0.true last.is (ap is_lt (sym c.compare.ensures) ∙ sym c.is_lt.ensures ∙ c.if-is_lt.true)
    in
    sym (none_at c.args.kind c.args.scope operations c.requires.ascending c.requires.are len (omega arith) below (λ k d low high. absurd (omega arith)))
