-- The content that several contents make together.
use Rattle.std.proofs.Common.{◌≡◌, ℕ, Bool, true, false, ◌||◌, ◌&&◌, not, List, [], ◌∷◌, refl, sym, ap, ◌∙◌, inl, inr, arith}
use Rattle.std.specs.Prelude.{fold}
use Rattle.std.specs.List.{AllByRecursion, Contains, list_any}
use Rattle.std.specs.Ordering.{nat_cmp}
use Rattle.std.specs.Cmp.Lexicographic.{nat_list_cmp_total, slice_cmp}
use Rattle.std.specs.FinSet as set
use Rattle.std.specs.FinSet.{contains, contains-empty, contains-union, same_set, union}
use Rattle.std.proofs.lemmas.List.Folds.{list_any_at}
use Rattle.std.proofs.lemmas.Bool.{and_from, and_left, and_parts, not_from_false, or_cases}
use Rattle.sha2.specs.Sha256.{sha256}
use Rattle.archive_core.specs.Content.{IsContent, IsLive, IsMade, Operations, covering, is_admission, joined}
use Rattle.archive_core.specs.Record.{admission_record, retirement_record}
use Rattle.archive_core.specs.Valid.{IsValid, key_of}
use Rattle.archive_core.specs.declared.keys.SliceKey.{SliceKey}
use Rattle.archive_core.proofs.Entries.{covering_admission}
use Rattle.archive_core.proofs.Made.{bytes_same, contains_made, joined_content, kept, made_again, made_empty}
use Rattle.archive_core.proofs.Members.{in_front, in_rest}
use Rattle.laws_index.specs.Indexes.{DigestsDiffer, all_joined}

-- ---- what passes a test

pub any_of : {X : Type 0} (p : X → Bool) (xs : List X) → list_any p xs ≡ true → (x : X) × Contains xs x × (p x ≡ true)
any_of p [] h = absurd cc
any_of p (x ∷ xs) h = elim (or_cases (p x) (list_any p xs) h) [
  | inl here ↦ (x, in_front x xs, here)
  | inr there ↦ let f = any_of p xs there in (f.0, in_rest x xs f.0 f.1, f.2)
]

pub to_any : {X : Type 0} (p : X → Bool) (xs : List X) (x : X) → Contains xs x → p x ≡ true → list_any p xs ≡ true
to_any p xs x c h = list_any_at p xs c.0 x c.1 (ap p c.2 ∙ h)

-- ---- members

-- one of these contents has the record
abbrev pub has_any : List Operations → List ℕ → Bool
has_any os r = list_any (λ o. contains o r) os

first_step : (a m c : Bool) → (a && not (m && c)) ≡ ((a || false) && not (m && (c || false)))
first_step a m c = grind arith

next_admission : (a b c d x y : Bool) → ((((a || b) && not (c || d)) || x) && not ((c || d) || y)) ≡ ((a || (b || x)) && not (c || (d || y)))
next_admission a b c d x y = grind arith

next_retirement : (a b x : Bool) → ((((a || b) && true) || x) && true) ≡ ((a || (b || x)) && true)
next_retirement a b x = grind arith

next_step : (a b m c d x y : Bool) → ((((a || b) && not (m && (c || d))) || x) && not (m && ((c || d) || y))) ≡ ((a || (b || x)) && not (m && (c || (d || y))))
next_step a b true c d x y = next_admission a b c d x y
next_step a b false c d x y = next_retirement a b x

made_of : (o p : Operations) (r : List ℕ) → contains (joined o p) r
    ≡ ((contains o r || contains p r) && not (is_admission r && (contains o (covering r) || contains p (covering r))))
made_of o p r = contains_made (union o p) r ∙ (λ i. contains-union nat_list_cmp_total o p r i
    && not (is_admission r && contains-union nat_list_cmp_total o p (covering r) i))

covers_of : (o p : Operations) (r : List ℕ) → contains (joined o p) (covering r) ≡ (contains o (covering r) || contains p (covering r))
covers_of o p r = kept (union o p) (covering r) refl ∙ contains-union nat_list_cmp_total o p (covering r)

joined_has : (z : Operations) (os : List Operations) (r : List ℕ) → IsMade z
    → contains (fold joined z os) r ≡ ((contains z r || has_any os r) && not (is_admission r && (contains z (covering r) || has_any os (covering r))))
joined_has z [] r made =
    ap (λ s. contains s r) (sym made) ∙ contains_made z r ∙ first_step (contains z r) (is_admission r) (contains z (covering r))
joined_has z (o ∷ os) r made =
    joined_has (joined z o) os r (made_again (union z o))
    ∙ (λ i. (made_of z o r i || has_any os r) && not (is_admission r && (covers_of z o r i || has_any os (covering r))))
    ∙ next_step (contains z r) (contains o r) (is_admission r) (contains z (covering r)) (contains o (covering r)) (has_any os r) (has_any os (covering r))

pub all_has : (os : List Operations) (r : List ℕ) → contains (all_joined os) r ≡ (has_any os r && not (is_admission r && has_any os (covering r)))
all_has os r =
    joined_has set.empty os r made_empty
    ∙ (λ i. (contains-empty (slice_cmp nat_cmp) r i || has_any os r)
    && not (is_admission r && (contains-empty (slice_cmp nat_cmp) (covering r) i || has_any os (covering r))))

-- one content makes itself
pub joined_alone : (o : Operations) → IsMade o → all_joined (o ∷ []) ≡ o
joined_alone o made = same_set nat_list_cmp_total bytes_same (joined set.empty o) o (λ r.
    made_of set.empty o r
    ∙ (λ i. (contains-empty (slice_cmp nat_cmp) r i || contains o r)
    && not (is_admission r && (contains-empty (slice_cmp nat_cmp) (covering r) i || contains o (covering r))))
    ∙ sym (contains_made o r)
    ∙ ap (λ s. contains s r) made)

-- and of it alone nothing is supposed of SHA-256
pub tells_alone : (o : Operations) → DigestsDiffer (o ∷ [])
tells_alone o several = absurd (omega (arith, several))

-- ---- it is a content

joined_contents : (z : Operations) (os : List Operations) → IsContent z → AllByRecursion IsContent os → IsContent (fold joined z os)
joined_contents z [] is all = is
joined_contents z (o ∷ os) is all = joined_contents (joined z o) os (joined_content z o is all.0) all.1

pub empty_content : IsContent set.empty
empty_content = record { itself = made_empty; records = λ r h. absurd (cc (contains-empty (slice_cmp nat_cmp) r, h)) }

pub all_content : (os : List Operations) → AllByRecursion IsContent os → IsContent (all_joined os)
all_content os all = joined_contents set.empty os empty_content all

-- ---- what is live there

and_false_left : (a b : Bool) → (a && true) ≡ b → a ≡ b
and_false_left a b h = grind arith

pub live_in_all : (os : List Operations) (key : SliceKey) (slice : List ℕ) → IsValid slice → key_of slice ≡ key
    → has_any os (admission_record slice) ≡ true → has_any os (retirement_record key (sha256 slice)) ≡ false
    → IsLive (all_joined os) key slice
live_in_all os key slice valid under there free =
    let covers : covering (admission_record slice) ≡ retirement_record key (sha256 slice) =
    covering_admission slice valid ∙ ap (λ k. retirement_record k (sha256 slice)) under in
    record {
      admitted = all_has os (admission_record slice) ∙ and_from (has_any os (admission_record slice))
          (not (has_any os (covering (admission_record slice)))) there
          (not_from_false (has_any os (covering (admission_record slice))) (ap (has_any os) covers ∙ free));
      under = under;
      kept = all_has os (retirement_record key (sha256 slice)) ∙ and_left (has_any os (retirement_record key (sha256 slice))) true free;
    }

pub there_if_live : (os : List Operations) (key : SliceKey) (slice : List ℕ) → IsLive (all_joined os) key slice → has_any os (admission_record slice) ≡ true
there_if_live os key slice live = (and_parts (has_any os (admission_record slice))
    (not (has_any os (covering (admission_record slice))))
    (sym (all_has os (admission_record slice)) ∙ live.admitted)).0

pub free_if_live : (os : List Operations) (key : SliceKey) (slice : List ℕ) → IsLive (all_joined os) key slice
    → has_any os (retirement_record key (sha256 slice)) ≡ false
free_if_live os key slice live = and_false_left (has_any os (retirement_record key (sha256 slice))) false
    (sym (all_has os (retirement_record key (sha256 slice))) ∙ live.kept)
