use Rattle.std.proofs.Common.{sym, ◌∙◌}
use Rattle.std.proofs.lemmas.List.{take_rest}
use Rattle.archive_records.proofs.Forms.{long-admission, tag-retirement}
use Rattle.archive_records.proofs.FoundOut.{covered_admission, uncovered_retirement}
use Rattle.archive_records.proofs.retired.retires.Goals as goal

pub returns-in_default-clause-retires : goal.returns-in_default-clause-retires
returns-in_default-clause-retires c = λ r. sym (uncovered_retirement c.args.retired.now c.args.bytes.now
    (tag-retirement c.args.bytes.now ((rw c.in_default.is at c.requires) r)))

pub slice_bounds-of_checked-count : goal.slice_bounds-of_checked-count
slice_bounds-of_checked-count c = long-admission c.args.bytes.now (rw c.in-Some.is at c.requires).0

pub slice_bounds-of_checked-start : goal.slice_bounds-of_checked-start
slice_bounds-of_checked-start c = long-admission c.args.bytes.now (rw c.in-Some.is at c.requires).0

pub of_checked-slice-requires : goal.of_checked-slice-requires
of_checked-slice-requires c = rw take_rest (rw c.in-Some.is at c.requires).1

pub returns-clause-retires : goal.returns-clause-retires
returns-clause-retires c = λ r. c.covers-covered.ensures.covers
    ∙ covered_admission c.args.retired.now c.args.bytes.now c.of_checked-slice.result (rw c.in-Some.is at c.requires).0
    (rw take_rest at c.of_checked-slice.ensures)

pub returns-clause-found : goal.returns-clause-found
returns-clause-found c = ((rw c.in-Some.is at c.requires).0, rw (c.covers-covered.ensures.same, rw take_rest at c.of_checked-slice.ensures) at c.facts.ensures)
