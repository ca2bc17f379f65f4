use Rattle.std.proofs.Common.{◌≡◌, subst, arith, map, length}
use Rattle.std.proofs.Math.ListN.{length-map}
use Rattle.std.specs.Cmp.Lexicographic.{nat_list_cmp_total}
use Rattle.join_core.proofs.Place.{len_listed}
use Rattle.archive_core.specs.Record.{record_bytes}
use Rattle.archive_core.specs.Content.{IsContent}
use Rattle.archive_index.proofs.Held.{bytes_same, content_of_held}
use Rattle.archive_index.proofs.plain.PlainArchiveArchive.len.Goals as goal

pub returns-clause-len : goal.returns-clause-len
returns-clause-len c =
    let items = c.self.inside.operations.items in
    let listed = len_listed nat_list_cmp_total bytes_same (map record_bytes items) c.self.invariant.ascending in
    let as_long : length (map record_bytes items) ≡ length items = length-map items record_bytes in
    rw (← c.self.view_is) (omega (arith, listed, as_long, c.self.inside.operations.ok.0))

pub returns-clause-content : goal.returns-clause-content
returns-clause-content c = subst IsContent c.self.view_is (content_of_held c.self.inside.operations.items c.self.invariant)
