-- The members of summaries and deltas, and what a delta brings to a content.
use Rattle.std.proofs.Common.{◌≡◌, ◌↔◌, ℕ, true, false, ◌||◌, ◌&&◌, not, if◌then◌else◌, List, ◌∷◌, map, drop, sym, ap, ◌∙◌, inl, inr, arith}
use Rattle.std.specs.List.{filter}
use Rattle.std.specs.Cmp.Lexicographic.{nat_list_cmp_total}
use Rattle.std.specs.FinSet as set
use Rattle.std.specs.FinSet.{contains-retain, contains-union}
use Rattle.join_core.specs.Listing.{listing}
use Rattle.join_core.proofs.Retain.{listing_retain}
use Rattle.archive_core.specs.Record.{IsRecord}
use Rattle.archive_core.specs.Content.{Operations, is_admission, key_and_digest, covering, is_covered, IsMade, IsContent, IsBelow, joined}
use Rattle.archive_core.specs.Summary.{Entries, entry, summary, is_known, delta, DigestsDiffer}
use Rattle.archive_core.proofs.Members.{in_listing, in_made, in_map, to_map}
use Rattle.archive_core.proofs.Made.{bytes_same, by_test, and_left, below_subset, below_made_known, below_left}
use Rattle.archive_core.proofs.Made.{below_right, below_transitive, joined_below, made_part}
use Rattle.archive_core.proofs.Entries.{entry_tells, retirement_entry}

-- an entry of the summary is that of a member
pub member_of_entry : (o : Operations) (e : List ℕ) → set.contains (summary o) e ≡ true → (r : List ℕ) × (set.contains o r ≡ true) × (entry r ≡ e)
unfolding summary
member_of_entry o e h =
    let found = in_map entry (listing o) e ((in_made nat_list_cmp_total bytes_same (map entry (listing o)) e).1 h) in
    (found.0, (in_listing nat_list_cmp_total bytes_same o found.0).0 found.1, sym found.2)

-- a member's entry is one of the summary
pub entry_of_member : (o : Operations) (r : List ℕ) → set.contains o r ≡ true → set.contains (summary o) (entry r) ≡ true
unfolding summary
entry_of_member o r h =
    (in_made nat_list_cmp_total bytes_same (map entry (listing o)) (entry r)).0
    (to_map entry (listing o) r ((in_listing nat_list_cmp_total bytes_same o r).1 h))

-- a summary has the entries of the members, and no other
pub summary_is : (o : Operations) (e : List ℕ) → (set.contains (summary o) e ≡ true) ↔ ((r : List ℕ) × (set.contains o r ≡ true) × (entry r ≡ e))
summary_is o e = (member_of_entry o e, λ found. ap (set.contains (summary o)) (sym found.2) ∙ entry_of_member o found.0 found.1)

-- the records of a delta, in their order
pub listing_delta : (o : Operations) (s : Entries) → listing (delta o s) ≡ filter (λ r. not (set.contains s (entry r))) (listing o)
unfolding delta
listing_delta o s = listing_retain nat_list_cmp_total bytes_same (λ r. not (set.contains s (entry r))) o

pub contains_delta : (o : Operations) (s : Entries) (r : List ℕ) → set.contains (delta o s) r ≡ (set.contains o r && not (set.contains s (entry r)))
unfolding delta
contains_delta o s r = contains-retain o (λ x. not (set.contains s (entry x))) r (λ x e. ap (λ y. not (set.contains s (entry y))) (sym (bytes_same r x e)))

-- a delta is a part of its content
delta_part : (o : Operations) (s : Entries) (r : List ℕ) → set.contains (delta o s) r ≡ true → set.contains o r ≡ true
delta_part o s r h = and_left (set.contains o r) (not (set.contains s (entry r))) (sym (contains_delta o s r) ∙ h)

pub delta_below : (o : Operations) (s : Entries) → IsBelow (delta o s) o
delta_below o s = below_subset (delta o s) o (delta_part o s)

-- and makes itself, as its content does
pub delta_made : (o : Operations) (s : Entries) → IsMade o → IsMade (delta o s)
delta_made o s a = made_part (delta o s) o a (delta_part o s)

-- so it is a content
pub delta_content : (o : Operations) (s : Entries) → IsContent o → IsContent (delta o s)
delta_content o s a = record { itself = delta_made o s a.itself; records = λ r h. a.records r (delta_part o s r h) }

-- operations of two contents that have one entry are one, where digests tell
pub told_by_digests : (o p : Operations) (r s : List ℕ) → IsContent o → IsContent p → DigestsDiffer o p
    → set.contains o r ≡ true → set.contains p s ≡ true → entry r ≡ entry s → r ≡ s
told_by_digests o p r s a b tells in_o in_p e =
    entry_tells r s (a.records r in_o) (b.records s in_p) e
    (λ x y is_x is_y. tells x y (sym (ap (set.contains o) is_x) ∙ in_o) (sym (ap (set.contains p) is_y) ∙ in_p))

-- an operation whose entry another content's summary has is in that content
pub named_there : (o p : Operations) (r : List ℕ) → IsContent o → IsContent p → DigestsDiffer o p → set.contains o r
    ≡ true → set.contains (summary p) (entry r) ≡ true → set.contains p r ≡ true
named_there o p r a b tells in_o named =
    let found : (q : List ℕ) × (set.contains p q ≡ true) × (entry q ≡ entry r) = member_of_entry p (entry r) named in
    ap (set.contains p) (told_by_digests o p r found.0 a b tells in_o found.1 (sym found.2)) ∙ found.1

-- an operation whose entry is known to another content is in that content, or covered there
entry_of_covered : (r : List ℕ) → is_admission r ≡ true → 1 ∷ drop 1 (entry r) ≡ covering r
unfolding entry
entry_of_covered r a = ap (λ b. 1 ∷ drop 1 (if b then 2 ∷ key_and_digest r else r)) a

entry_of_retirement : (r : List ℕ) → IsRecord r → is_admission r ≡ false → 1 ∷ drop 1 (entry r) ≡ r
entry_of_retirement r (inl admits) n = cc (ap is_admission admits.is)
entry_of_retirement r (inr retires) n = cc (retires.is, retirement_entry retires.key retires.digest)

known_there : (o p : Operations) (r : List ℕ) → IsContent o → IsContent p → DigestsDiffer o p → set.contains o r ≡ true
    → is_known p (entry r) ≡ true → (set.contains p r || is_covered p r) ≡ true
known_there o p r a b tells in_o known =
    grind (arith, named_there o p r a b tells in_o, entry_of_covered r, entry_of_retirement r (a.records r in_o))

-- what is in a content or covered there is so in a greater one
known_more : (p q : Operations) (r : List ℕ) → (set.contains p r || is_covered p r) ≡ true
    → (set.contains (set.union p q) r || is_covered (set.union p q) r) ≡ true
known_more p q r known =
    grind (arith, contains-union nat_list_cmp_total p q r, contains-union nat_list_cmp_total p q (covering r))

-- an operation is known, or in the delta
known_or_in_delta : (o p : Operations) (s : Entries) → IsContent o → IsContent p → DigestsDiffer o p
    → ((e : List ℕ) → set.contains s e ≡ true → is_known p e ≡ true)
    → (r : List ℕ) → set.contains o r ≡ true → (set.contains (set.union p (delta o s)) r || is_covered (set.union p (delta o s)) r) ≡ true
known_or_in_delta o p s a b tells has r in_o = by_test _ (set.contains s (entry r))
    (λ named. known_more p (delta o s) r (known_there o p r a b tells in_o (has (entry r) named)))
    (λ missing. grind (arith, contains_delta o s r, contains-union nat_list_cmp_total p (delta o s) r))

-- a content to which each entry of a summary is known, joined with the delta against that summary, is above what the delta was made of
pub brought_above : (o p : Operations) (s : Entries) → IsContent o → IsContent p → DigestsDiffer o p
    → ((e : List ℕ) → set.contains s e ≡ true → is_known p e ≡ true) → IsBelow o (joined p (delta o s))
brought_above o p s a b tells has = below_made_known o (set.union p (delta o s)) (known_or_in_delta o p s a b tells has)

-- and no more than that and it hold together
pub brought_within : (o p : Operations) (s : Entries) → IsBelow (joined p (delta o s)) (joined o p)
brought_within o p s =
    joined_below p (delta o s) (joined o p) (below_right o p)
    (below_transitive (delta o s) o (joined o p) (delta_below o s) (below_left o p))
