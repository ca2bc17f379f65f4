use Rattle.std.proofs.Common.{sym, ap, map, ◌∙◌}
use Rattle.std.specs.Ordering.{nat_cmp}
use Rattle.std.specs.Cmp.Lexicographic.{slice_cmp}
use Rattle.std.specs.FinSet.{contains, from_list}
use Rattle.sha2.specs.Sha256.{sha256}
use Rattle.archive_core.specs.Record.{record_bytes, retirement_record}
use Rattle.archive_index.proofs.Ranges.{none_retired}
use Rattle.archive_index.proofs.covered.retires.Goals as goal

pub returns-then-not-has_retirement : goal.returns-then-not-has_retirement
returns-then-not-has_retirement c =
    let operations = c.args.operations.now in
    let slice = c.args.slice.now in
    let none = c.has_retirement.ensures.none c.if-not-has_retirement.true in
    sym (
    ap (λ k. contains (from_list {R = slice_cmp nat_cmp} (map record_bytes operations)) (retirement_record k (sha256 slice))) (sym c.key.ensures)
    ∙ none_retired operations c.key.result slice c.requires c.has_retirement.ensures.key none
    )
