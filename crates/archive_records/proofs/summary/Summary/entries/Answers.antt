use Rattle.std.proofs.Common.{◌∙◌, ap, sym, map}
use Rattle.std.specs.Cmp.Lexicographic.{nat_list_cmp_total}
use Rattle.join_core.specs.Listing.{listing}
use Rattle.join_core.proofs.Listing.{listing_ascending}
use Rattle.archive_records.specs.Entry.{entry_bytes}
use Rattle.archive_records.proofs.summary.Summary.entries.Goals as goal
use Rattle.archive_core.proofs.Made.{bytes_same}

pub returns : goal.returns
returns c =
    ap (map entry_bytes) c.deref.ensures.value
    ∙ sym (sym (ap listing c.self.view_is) ∙ listing_ascending nat_list_cmp_total bytes_same
    (map entry_bytes c.self.inside.entries.items) c.self.invariant.ascending)
