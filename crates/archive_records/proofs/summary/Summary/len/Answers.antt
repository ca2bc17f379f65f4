use Rattle.std.proofs.Common.{◌≡◌, arith, map, length, subst}
use Rattle.std.proofs.Math.ListN.{length-map}
use Rattle.std.specs.Cmp.Lexicographic.{nat_list_cmp_total}
use Rattle.join_core.proofs.Place.{len_listed}
use Rattle.archive_records.specs.Entry.{entry_bytes, AreEntries}
use Rattle.archive_records.proofs.Summarised.{AreEntries-listed}
use Rattle.archive_records.proofs.summary.Summary.len.Goals as goal
use Rattle.archive_core.proofs.Made.{bytes_same}

pub returns-clause-len : goal.returns-clause-len
returns-clause-len c =
    let items = c.self.inside.entries.items in
    let listed = len_listed nat_list_cmp_total bytes_same (map entry_bytes items) c.self.invariant.ascending in
    let as_long : length (map entry_bytes items) ≡ length items = length-map items entry_bytes in
    rw (← c.self.view_is) (omega (arith, listed, as_long, c.self.inside.entries.ok.0))

pub returns-clause-entries : goal.returns-clause-entries
returns-clause-entries c = subst AreEntries c.self.view_is (AreEntries-listed (map entry_bytes c.self.inside.entries.items) c.self.invariant.are)
