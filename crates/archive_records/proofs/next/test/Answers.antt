use Rattle.std.proofs.Common.{arith, length, ◌∙◌, sym}
use Rattle.archive_records.proofs.Ends.{ends}
use Rattle.archive_records.proofs.Holds.{holds, Holds-end}
use Rattle.archive_records.proofs.Tested.{tested-end, tested-miscounted, tested-following, tested-unordered}
use Rattle.archive_records.proofs.next.test.Goals as goal

pub bounds-bytes-0 : goal.bounds-bytes-0
bounds-bytes-0 c = omega (arith, (holds c.args.file c.args.bytes.now (length c.args.bytes.now) c.requires).one)

pub record_count_of-requires : goal.record_count_of-requires
record_count_of-requires c =
    let h = holds c.args.file c.args.bytes.now (length c.args.bytes.now) c.requires in
    omega (arith, Holds-end c.args.file c.args.bytes.now (length c.args.bytes.now) h c.if-bytes-eq-END.true)

pub returns-then-record_count_of-count-clause-end_is : goal.returns-then-record_count_of-count-clause-end_is
returns-then-record_count_of-count-clause-end_is c =
    λ _. ends c.args.file c.args.bytes.now c.args.count c.requires c.if-bytes-eq-END.true
    (sym c.record_count_of.ensures ∙ c.if-record_count_of-count.true) (λ i. omega (arith, c.type_inv.bytes i))

pub returns-then-record_count_of-count-clause-tested : goal.returns-then-record_count_of-count-clause-tested
returns-then-record_count_of-count-clause-tested c = λ last _.
    tested-end c.args.file last c.args.count c.args.bytes.now c.if-bytes-eq-END.true (sym c.record_count_of.ensures ∙ c.if-record_count_of-count.true)

pub returns-else-record_count_of-count-clause-tested : goal.returns-else-record_count_of-count-clause-tested
returns-else-record_count_of-count-clause-tested c = λ last _.
    tested-miscounted c.args.file last c.args.count c.args.bytes.now c.if-bytes-eq-END.true
    (λ same. c.if-record_count_of-count.false (c.record_count_of.ensures ∙ same))

pub returns-then-allowed-clause-tested : goal.returns-then-allowed-clause-tested
returns-then-allowed-clause-tested c = λ last allowed.
    tested-following c.args.file last c.args.count c.args.bytes.now c.if-bytes-eq-END.false (sym allowed ∙ c.if-allowed.true)

pub returns-else-allowed-clause-tested : goal.returns-else-allowed-clause-tested
returns-else-allowed-clause-tested c = λ last allowed.
    tested-unordered c.args.file last c.args.count c.args.bytes.now c.if-bytes-eq-END.false (sym allowed ∙ c.if-allowed.false)
