use Rattle.std.proofs.Common.{◌∙◌, sym, w32, arith}
use Rattle.std.specs.Int.{to_be_bytes}
use Rattle.std.specs.Ordering.{nat_cmp, ordering_then}
use Rattle.archive_core.specs.Key.{key_bytes}
use Rattle.archive_core.proofs.Compare.{three_parts, length_key_bytes}
use Rattle.archive_core.proofs.Digits.{cmp_sixteen, cmp_four}
use Rattle.archive_core.proofs.keys.compare_keys.Goals as goal

pub returns-clause-first : goal.returns-clause-first
returns-clause-first c = length_key_bytes c.args.a.now c.numbers_of.ensures.key.uuid

pub returns-clause-second : goal.returns-clause-second
returns-clause-second c = length_key_bytes c.args.b.now c.numbers_of-2.ensures.key.uuid

pub returns-clause-order : goal.returns-clause-order
unfolding key_bytes
returns-clause-order c =
    let a = c.args.a.now in
    let b = c.args.b.now in
    let first = c.numbers_of.ensures in
    let second = c.numbers_of-2.ensures in
    let uuids = cmp_sixteen a.uuid b.uuid first.key.uuid second.key.uuid first.bytes second.bytes in
    let types = cmp_four a.arch.cputype b.arch.cputype first.key.cputype second.key.cputype in
    let subtypes = cmp_four a.arch.cpusubtype b.arch.cpusubtype first.key.cpusubtype second.key.cpusubtype in
    c.cmp.ensures
    ∙ (λ i. ordering_then (ordering_then (nat_cmp (first.numbers i).0 (second.numbers i).0)
    (nat_cmp (first.numbers i).1 (second.numbers i).1)) (nat_cmp (first.numbers i).2 (second.numbers i).2))
    ∙ (λ i. ordering_then (ordering_then (uuids i) (types i)) (subtypes i))
    ∙ sym (three_parts a.uuid (to_be_bytes w32 a.arch.cputype) (to_be_bytes w32 a.arch.cpusubtype) b.uuid
    (to_be_bytes w32 b.arch.cputype) (to_be_bytes w32 b.arch.cpusubtype) (first.key.uuid ∙ sym second.key.uuid)
    (omega arith))
