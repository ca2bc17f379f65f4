use Rattle.std.proofs.Common.{ap, map, subst, sym, ◌∙◌}
use Rattle.std.specs.Cmp.Lexicographic.{nat_list_cmp_total}
use Rattle.join_core.specs.Listing.{listing}
use Rattle.join_core.proofs.Listing.{listing_ascending}
use Rattle.archive_core.specs.Content.{IsContent}
use Rattle.archive_core.specs.Record.{record_bytes}
use Rattle.archive_index.proofs.Held.{bytes_same, content_of_held}
use Rattle.archive_index.proofs.plain.PlainArchive.operations.Goals as goal

pub returns-clause-listed : goal.returns-clause-listed
returns-clause-listed c =
    let items = c.self.inside.operations.items in
    ap (map record_bytes) c.deref.ensures.value ∙ sym (listing_ascending nat_list_cmp_total bytes_same
    (map record_bytes items) c.self.invariant.ascending) ∙ ap listing c.self.view_is

pub returns-clause-content : goal.returns-clause-content
returns-clause-content c = subst IsContent c.self.view_is (content_of_held c.self.inside.operations.items c.self.invariant)
