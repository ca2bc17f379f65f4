use Rattle.std.proofs.Common.{◌≡◌, ◌+◌, map, ap, ◌∙◌, arith}
use Rattle.std.specs.FinSet as set
use Rattle.archive_core.specs.Content.{new_among}
use Rattle.archive_core.specs.Record.{record_bytes}
use Rattle.archive_index.proofs.Put.{len_with_admissions}
use Rattle.archive_index.proofs.taking.take_admissions.Goals as goal

pub overflow_sub-result : goal.overflow_sub-result
overflow_sub-result g c =
    let old = g.A.Join.content c.args.archive.now in
    let new = g.A.Join.content c.take_sorted.new.archive in
    let more : set.len new ≡ set.len old + new_among old (map record_bytes c.args.operations.items) =
    ap set.len c.in_ok-take_sorted.ensures ∙ len_with_admissions old c.args.operations.items
    c.len-before.ensures.content.itself c.requires in
    omega (arith, more, c.len-before.ensures.len, c.len.ensures.len)

pub returns : goal.returns
returns g c =
    let old = g.A.Join.content c.args.archive.now in
    let new = g.A.Join.content c.take_sorted.new.archive in
    let more : set.len new ≡ set.len old + new_among old (map record_bytes c.args.operations.items) =
    ap set.len c.in_ok-take_sorted.ensures ∙ len_with_admissions old c.args.operations.items
    c.len-before.ensures.content.itself c.requires in
    (c.in_ok-take_sorted.ensures, omega (arith, more, c.len-before.ensures.len, c.len.ensures.len))
