-- The summary of a content, of its index.
use Rattle.std.proofs.Common.{◌≡◌, ℕ, true, List, map, take, sym, ap, ◌∙◌, subst}
use Rattle.std.specs.Cmp.{both_ways}
use Rattle.std.specs.Cmp.Lexicographic.{nat_list_cmp_total}
use Rattle.std.specs.List.{Contains}
use Rattle.std.specs.FinSet as set
use Rattle.std.specs.FinSet.{same_set}
use Rattle.join_core.specs.Listing.{listing}
use Rattle.archive_core.specs.Content.{Operations, IsContent}
use Rattle.archive_core.specs.Summary.{entry, summary}
use Rattle.archive_core.proofs.Made.{bytes_same}
use Rattle.archive_core.proofs.Members.{in_listing, in_map, to_map}
use Rattle.archive_core.proofs.Summaries.{member_of_entry, entry_of_member}
use Rattle.index_format.specs.Index.{index}
use Rattle.index_format.proofs.Kept.{in_made}
use Rattle.index_format.proofs.Placed.{entry_front}
use Rattle.index_format.proofs.Named.{entry_in, entry_for}

pub summary_of_index : (o : Operations) → IsContent o → summary o ≡ set.from_list (map (take 57) (listing (index o)))
summary_of_index o content =
    let mapped = map (take 57) (listing (index o)) in
    same_set nat_list_cmp_total bytes_same (summary o) (set.from_list mapped) (λ q. both_ways _ _
    (λ h.
    let m = member_of_entry o q h in
    let e = entry_for o m.0 m.1 in
    let is : take 57 e.0 ≡ q = ap (take 57) e.3 ∙ entry_front e.2 m.0 (content.records m.0 m.1) ∙ m.2 in
    (in_made mapped q).0 (subst (Contains mapped) is (to_map (take 57) (listing (index o)) e.0
    ((in_listing nat_list_cmp_total bytes_same (index o) e.0).1 e.1))))
    (λ h.
    let f = in_map (take 57) (listing (index o)) q ((in_made mapped q).1 h) in
    let p = entry_in o f.0 ((in_listing nat_list_cmp_total bytes_same (index o) f.0).0 f.1) in
    let is : entry p.r ≡ q = sym (entry_front p.offset p.r (content.records p.r p.member)) ∙ ap (take 57) (sym p.entry_is) ∙ sym f.2 in
    subst (λ (x : List ℕ). set.contains (summary o) x ≡ true) is (entry_of_member o p.r p.member)))
