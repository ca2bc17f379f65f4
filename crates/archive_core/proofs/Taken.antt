-- What operations give that are taken one after another, and what a retirement keeps out.
use Rattle.std.proofs.Common.{◌≡◌, ◌↔◌, ℕ, suc, ◌+◌, ◌≤◌, if◌then◌else◌, List, [], ◌∷◌, true, false, ◌||◌, ◌&&◌, length}
use Rattle.std.proofs.Common.{map, refl, sym, ap, ◌∙◌, inl, inr, subst, arith}
use Rattle.std.specs.Prelude.{not, fold, Contains}
use Rattle.std.proofs.lemmas.Bool.{true≢false, cases_Bool, or_parts}
use Rattle.std.specs.Ordering.{nat_cmp, eq_by_cmp}
use Rattle.std.specs.Cmp.{Equal-is, tied_itself}
use Rattle.std.specs.Cmp.Lexicographic.{slice_cmp, nat_list_cmp_total}
use Rattle.std.specs.FinSet as set
use Rattle.std.specs.FinSet.{contains-insert}
use Rattle.sha2.specs.Sha256.{sha256}
use Rattle.std.proofs.Math.ListN.{length-map}
use Rattle.join_core.proofs.Members.{from_list_same, inserts_are_union}
use Rattle.join_core.proofs.Place.{insert_present}
use Rattle.archive_core.specs.Record.{record_bytes, retirement_record}
use Rattle.archive_core.specs.Content.{Operations, is_admission, covering, is_covered, content_of, IsMade, IsContent}
use Rattle.archive_core.specs.Content.{IsBelow, with_record, with_records, changes, new_among, joined, HaveSameMembers}
use Rattle.archive_core.specs.Content.{IsLive, IsTakenInPart}
use Rattle.archive_core.specs.declared.operations.Operation.{Operation}
use Rattle.archive_core.specs.declared.keys.SliceKey.{SliceKey}
use Rattle.archive_core.proofs.Made.{bytes_same, made_of_uncovered, uncovered_of_made, either, or_right, by_test}
use Rattle.archive_core.proofs.Made.{contains_made, IsAlike, made_alike, made_is_alike, alike_insert, joined_made_right}
use Rattle.archive_core.proofs.Made.{made_again, below_reflexive, below_transitive, below_made}

-- an operation that is there, or covered there, changes nothing, and another one changes the content
pub known_changes : (o : Operations) (r : List ℕ) → (set.contains o r || is_covered o r) ≡ true → changes o r ≡ false
unfolding changes
known_changes o r h = ap not h

pub new_changes : (o : Operations) (r : List ℕ) → set.contains o r ≡ false → is_covered o r ≡ false → changes o r ≡ true
unfolding changes
new_changes o r h k = ap (λ b. not (b || is_covered o r)) h ∙ ap not k

pub tied_is : (q r : List ℕ) → eq_by_cmp (slice_cmp nat_cmp) q r ≡ true → q ≡ r
tied_is q r h = bytes_same q r ((Equal-is (slice_cmp nat_cmp q r)).0 h)

-- operations of two kinds are two
pub apart : (q r : List ℕ) → is_admission q ≡ false → is_admission r ≡ true → eq_by_cmp (slice_cmp nat_cmp) q r ≡ false
apart q r n a = by_test _ (eq_by_cmp (slice_cmp nat_cmp) q r) (λ t. absurd (true≢false (sym a ∙ ap is_admission (sym (tied_is q r t)) ∙ n))) (λ f. f)

-- with a covered admission a set is alike
alike_covered : (o : Operations) (r : List ℕ) → is_covered o r ≡ true → IsAlike (set.insert o r) o
alike_covered o r c = record {
  retirements = λ q n. grind (arith, contains-insert nat_list_cmp_total o r q, apart q r n);
  live = λ q a free. grind (arith, contains-insert nat_list_cmp_total o r q, contains-insert nat_list_cmp_total o r (covering q), tied_is q r);
}

-- so an operation that is there or covered there leaves the content
pub with_known : (o : Operations) (r : List ℕ) → IsMade o → (set.contains o r || is_covered o r) ≡ true → with_record o r ≡ o
with_known o r is h = either (with_record o r ≡ o) (set.contains o r) (is_covered o r)
    (λ there. ap content_of (insert_present nat_list_cmp_total bytes_same o r there) ∙ is)
    (λ covered. made_alike (set.insert o r) o (alike_covered o r covered) ∙ is)
    h

-- no operation covers itself
pub still_uncovered : (o : Operations) (r : List ℕ) → is_covered o r ≡ false → is_covered (set.insert o r) r ≡ false
still_uncovered o r h = grind (arith, contains-insert nat_list_cmp_total o r (covering r), apart (covering r) r refl)

-- and another one is there afterwards
pub contains_with : (o : Operations) (r : List ℕ) → is_covered o r ≡ false → set.contains (with_record o r) r ≡ true
contains_with o r h =
    cc (contains_made (set.insert o r) r, still_uncovered o r h, contains-insert nat_list_cmp_total o r r, tied_itself nat_list_cmp_total r)

pub unchanged_same : (o : Operations) (r : List ℕ) → IsMade o → (changes o r ≡ false) ↔ (with_record o r ≡ o)
unfolding changes
unchanged_same o r is = (
  λ e. with_known o r is (grind arith),
  λ same. grind (arith, contains_with o r, ap (λ s. set.contains s r) same),
)

-- operations taken one after another make what all together make
with_made : (o : Operations) (rs : List (List ℕ)) → with_records (content_of o) rs ≡ content_of (fold set.insert o rs)
with_made o [] = refl
with_made o (r ∷ rs) =
    ap (λ s. with_records s rs) (made_alike (set.insert (content_of o) r) (set.insert o r) (alike_insert (content_of o) o r (made_is_alike o)))
    ∙ with_made (set.insert o r) rs

-- so they give the join with what they make
pub taken_are_joined : (o : Operations) (rs : List (List ℕ)) → IsMade o → with_records o rs ≡ joined o (content_of (set.from_list rs))
taken_are_joined o rs is =
    ap (λ s. with_records s rs) (sym is)
    ∙ with_made o rs
    ∙ ap content_of (inserts_are_union nat_list_cmp_total bytes_same o rs)
    ∙ sym (joined_made_right o (set.from_list rs))

-- and neither their order nor repeats count
pub taken_in_any_order : (o : Operations) (rs ss : List (List ℕ)) → IsMade o → HaveSameMembers rs ss → with_records o rs ≡ with_records o ss
taken_in_any_order o rs ss is same = taken_are_joined o rs is
    ∙ ap (λ s. joined o (content_of s)) (from_list_same nat_list_cmp_total bytes_same rs ss same)
    ∙ sym (taken_are_joined o ss is)

-- what is taken is a content
pub made_taken : (o : Operations) (rs : List (List ℕ)) → IsMade o → IsMade (with_records o rs)
made_taken o [] is = is
made_taken o (r ∷ rs) is = made_taken (with_record o r) rs (made_again (set.insert o r))

-- a content is below that with one operation more
pub below_with : (o : Operations) (r : List ℕ) → IsBelow o (with_record o r)
below_with o r = below_made o (set.insert o r) (λ q h. contains-insert nat_list_cmp_total o r q ∙ or_right _ _ h)

-- and with more operations
pub below_taken : (o : Operations) (rs : List (List ℕ)) → IsBelow o (with_records o rs)
below_taken o [] = below_reflexive o
below_taken o (r ∷ rs) = below_transitive o (with_record o r) (with_records (with_record o r) rs) (below_with o r) (below_taken (with_record o r) rs)

-- Between the content at first and that after some operations, with these left: where it stands, and what the rest will make.
pub record IsUnderWay (old now : Operations) (all left : List Operation) : Type 0 where
  pub above_old : IsBelow old now
  pub content : with_records now (map record_bytes left) ≡ with_records old (map record_bytes all)

pub at_first : (o : Operations) (all left : List Operation) → left ≡ all → IsUnderWay o o all left
at_first o all left is = rw is (record { above_old = below_reflexive o; content = refl })

pub one_taken : (old now next : Operations) (all left rest : List Operation) (operation : Operation)
    → IsUnderWay old now all left → left ≡ operation ∷ rest → next ≡ with_record now (record_bytes operation)
    → IsUnderWay old next all rest
one_taken old now next all left rest operation way is next_is = rw next_is (record {
  above_old = below_transitive old now (with_record now (record_bytes operation)) way.above_old (below_with now (record_bytes operation));
  content = ap (λ (l : List Operation). with_records now (map record_bytes l)) (sym is) ∙ way.content;
})

pub taken_in_part : (old now new : Operations) (all left : List Operation) → IsContent now → IsUnderWay old now all left
    → new ≡ now → IsTakenInPart old (map record_bytes all) new
taken_in_part old now new all left is way same = rw same (record {
  content = is;
  above_old = way.above_old;
  below_all = subst (λ (o : Operations). IsBelow now o) way.content (below_taken now (map record_bytes left));
})

-- above a content that retires a slice, none has it live
pub never_live_again : (o p : Operations) (key : SliceKey) (slice : List ℕ)
    → set.contains o (retirement_record key (sha256 slice)) ≡ true → IsBelow o p → IsLive p key slice → ⊥
never_live_again o p key slice retired below live = true≢false (sym (below.retirements (retirement_record key (sha256 slice)) refl retired) ∙ live.kept)

-- of records no more are new than there are
pub new_within : (o : Operations) (rs : List (List ℕ)) → new_among o rs ≤ length rs
unfolding new_among
new_within o [] = omega arith
new_within o (r ∷ rs) = grind (arith, new_within (with_record o r) rs)

pub new_in_turn : (o : Operations) (r : List ℕ) (rs : List (List ℕ)) → new_among o (r ∷ rs) ≡ (if changes o r then 1 else 0) + new_among (with_record o r) rs
unfolding new_among
new_in_turn o r rs = refl

pub new_of_none : (o : Operations) → new_among o [] ≡ 0
unfolding new_among
new_of_none o = refl

-- Operations under way, and how many of those that were taken changed the content.
pub record IsCounted (old now : Operations) (all left : List Operation) (new : ℕ) : Type 0 where
  pub way : IsUnderWay old now all left
  pub counted : new + new_among now (map record_bytes left) ≡ new_among old (map record_bytes all)

pub one_counted : (old now next : Operations) (all left rest : List Operation) (operation : Operation) (new more : ℕ)
    → IsCounted old now all left new → left ≡ operation ∷ rest → next ≡ with_record now (record_bytes operation)
    → more ≡ new + (if changes now (record_bytes operation) then 1 else 0) → IsCounted old next all rest more
one_counted old now next all left rest operation new more at is next_is more_is = record {
  way = one_taken old now next all left rest operation at.way is next_is;
  counted = rw next_is (omega (
    arith,
    more_is,
    at.counted,
    ap (λ (l : List Operation). new_among now (map record_bytes l)) is,
    new_in_turn now (record_bytes operation) (map record_bytes rest),
  ));
}

pub all_counted : (old now : Operations) (all left : List Operation) (new : ℕ) → IsCounted old now all left new
    → length left ≡ 0 → new ≡ new_among old (map record_bytes all)
all_counted old now all [] new at none = omega (arith, at.counted, new_of_none now)
all_counted old now all (x ∷ xs) new at none = absurd (omega arith)

-- no more than there were operations
pub counted_below : (old now : Operations) (all left rest : List Operation) (operation : Operation) (new : ℕ)
    → IsCounted old now all left new → left ≡ operation ∷ rest
    → new + (if changes now (record_bytes operation) then 1 else 0) ≤ length all
counted_below old now all left rest operation new at is =
    let most = new_within old (map record_bytes all) in
    omega (
      arith,
      most,
      length-map all record_bytes,
      at.counted,
      ap (λ (l : List Operation). new_among now (map record_bytes l)) is,
      new_in_turn now (record_bytes operation) (map record_bytes rest),
    )

-- ---- admissions drop none

-- an admission covers nothing
covers_no_more : (o : Operations) (r q : List ℕ) → is_admission r ≡ true → is_covered (set.insert o r) q ≡ is_covered o q
covers_no_more o r q a = ap (λ b. is_admission q && b)
    (contains-insert nat_list_cmp_total o r (covering q)
    ∙ ap (λ b. b || set.contains o (covering q)) (apart (covering q) r refl a))

-- so with one that is not covered a content makes itself
pub made_with_admission : (o : Operations) (r : List ℕ) → IsMade o → is_admission r ≡ true → is_covered o r ≡ false → IsMade (set.insert o r)
made_with_admission o r content_of a free = made_of_uncovered (set.insert o r) (λ q h.
    grind (arith, covers_no_more o r q a, tied_is q r, uncovered_of_made o content_of q, contains-insert nat_list_cmp_total o r q))

-- and each one that changes the content brings one member more
pub len_with : (o : Operations) (r : List ℕ) → IsMade o → is_admission r ≡ true → set.len (with_record o r) ≡ set.len o + (if changes o r then 1 else 0)
len_with o r content_of a = elim (cases_Bool (set.contains o r || is_covered o r)) [
  | inl e ↦ ap set.len (with_known o r content_of e) ∙ rw (known_changes o r e) (omega arith)
  | inr e ↦
      let parts = or_parts (set.contains o r) (is_covered o r) e in
      ap set.len (made_with_admission o r content_of a parts.1) ∙ set.len-insert nat_list_cmp_total o r
      ∙ rw (parts.0, new_changes o r parts.0 parts.1) (omega arith)
]

pub grown : (o : Operations) (rs : List (List ℕ)) → IsMade o → ((r : List ℕ) → Contains rs r → is_admission r ≡ true)
    → set.len (with_records o rs) ≡ set.len o + new_among o rs
grown o [] content_of all = omega (arith, new_of_none o)
grown o (r ∷ rs) content_of all =
    let one = len_with o r content_of (all r (0, omega arith, refl)) in
    let rest = grown (with_record o r) rs (made_again (set.insert o r)) (λ q h. all q (suc h.0, omega (arith, h.1), h.2)) in
    omega (arith, one, rest, new_in_turn o r rs)
