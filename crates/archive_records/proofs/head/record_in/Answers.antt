use Rattle.std.proofs.Common.{arith}
use Rattle.std.proofs.lemmas.List.{take_rest}
use Rattle.archive_records.proofs.Forms.{long-retirement, tag-retirement, long-admission, tagged_is, admitted_is}
use Rattle.archive_records.proofs.head.record_in.Goals as goal

pub digest_in-requires : goal.digest_in-requires
digest_in-requires c = omega (arith, long-retirement c.args.bytes.now (rw c.in-None.is at c.requires))

pub slice_bounds-of_checked-count : goal.slice_bounds-of_checked-count
slice_bounds-of_checked-count c = long-admission c.args.bytes.now (rw c.in-Some.is at c.requires).0

pub slice_bounds-of_checked-start : goal.slice_bounds-of_checked-start
slice_bounds-of_checked-start c = long-admission c.args.bytes.now (rw c.in-Some.is at c.requires).0

pub of_checked-requires : goal.of_checked-requires
of_checked-requires c = rw take_rest (rw c.in-Some.is at c.requires).1

pub returns-in-None-clause-bytes : goal.returns-in-None-clause-bytes
returns-in-None-clause-bytes c =
    let t = rw c.in-None.is at c.requires in
    tagged_is 1 c.args.bytes.now c.key_in.result c.digest_in.result.0 (long-retirement c.args.bytes.now t)
    (tag-retirement c.args.bytes.now t) c.key_in.ensures.bytes c.digest_in.ensures

pub returns-in-Some-clause-bytes : goal.returns-in-Some-clause-bytes
returns-in-Some-clause-bytes c = admitted_is c.args.bytes.now c.of_checked.result (rw c.in-Some.is at c.requires).0 (rw take_rest at c.of_checked.ensures)
