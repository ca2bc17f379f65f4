use Rattle.std.proofs.Common.{rules, nat_le, arith}
use Rattle.std.proofs.lemmas.List.Sorted.{IsPartitionPoint-from_clause}
use Rattle.macho_symbols.specs.declared.row.Row.{Row}
use Rattle.macho_symbols.proofs.RowSearch.{last_before, none_before, partitioned}
use Rattle.macho_symbols.proofs.row.row_for.Goals as goal

pub returns-then-end-eq0 : goal.returns-then-end-eq0
returns-then-end-eq0 c =
    none_before c.args.rows.now c.args.address c.partition_point-end.result
    (IsPartitionPoint-from_clause (λ (r : Row). nat_le r.start c.args.address) c.args.rows.now
    c.partition_point-end.result c.partition_point-end.ensures.partitioned
    (partitioned c.args.rows.now c.args.address c.requires) (λ a r f k. search rules))
    c.if-end-eq0.true

pub returns : goal.returns
returns c =
    last_before c.args.rows.now c.args.address c.partition_point-end.result
    (IsPartitionPoint-from_clause (λ (r : Row). nat_le r.start c.args.address) c.args.rows.now
    c.partition_point-end.result c.partition_point-end.ensures.partitioned
    (partitioned c.args.rows.now c.args.address c.requires) (λ a r f k. search rules))
    c.partition_point-end.ensures.bound (omega (arith, c.if-end-eq0.false)) _
