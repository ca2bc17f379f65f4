-- Records of an archive's text none of which another covers, and what their retirements cover.
use Rattle.std.proofs.Common.{◌≡◌, ℕ, Bool, true, false, ◌&&◌, ◌||◌, List, [], ◌∷◌, ◌++◌, refl, sym, ap, ◌∙◌, subst, inl, inr, append_assoc, arith}
use Rattle.std.proofs.lemmas.Bool.{false≢true, eqb-true}
use Rattle.std.proofs.lemmas.List.Elements.{Contains-append_left, Contains-push, Contains-push_cases}
use Rattle.std.specs.Ordering.{eq_by_cmp}
use Rattle.std.specs.List.{Contains}
use Rattle.std.specs.Cmp.Lexicographic.{nat_list_cmp_total}
use Rattle.std.specs.FinSet as set
use Rattle.std.specs.FinSet.{contains, contains-from_list, contains-empty, from_list_push, contains-insert}
use Rattle.archive_core.specs.Content.{Operations, IsContent, IsMade, is_admission, key_and_digest, covering, is_covered, content_of, with_record}
use Rattle.archive_core.proofs.Made.{made_of_uncovered, uncovered_of_made, made_part, bytes_same}
use Rattle.join_core.specs.Listing.{listing}
use Rattle.archive_records.specs.declared.format.Format.{Format}
use Rattle.archive_records.specs.declared.format.Format.TheVariants.{Archive, OldArchive}
use Rattle.archive_records.specs.Kind.{may_follow}
use Rattle.archive_records.specs.Text.{InOrder, AreApart, last_of}
use Rattle.archive_records.specs.Reader.{set_of, RetireAlike, Keeps, KeepsIn, AreRetired, DropsLast}
use Rattle.archive_records.proofs.Ascending.{below-less, below-trans, up_to_last}
use Rattle.archive_records.proofs.Contents.{order, contained, containing, content_is, same_bytes}

pub in_set : (xs : List (List ℕ)) (r : List ℕ) → Contains xs r → contains (set_of xs) r ≡ true
in_set xs r c = contains-from_list nat_list_cmp_total xs r ∙ contained xs r c

pub from_set : (xs : List (List ℕ)) (r : List ℕ) → contains (set_of xs) r ≡ true → Contains xs r
from_set xs r h = containing xs r (sym (contains-from_list nat_list_cmp_total xs r) ∙ h)

pub is_false : (a : Bool) → (a ≡ true → ⊥) → a ≡ false
is_false a h = grind arith

or_more : (a b c : Bool) → (b ≡ true → c ≡ true) → (a || b) ≡ true → (a || c) ≡ true
or_more a b c f h = grind arith

pub and_same : (a b c : Bool) → (a ≡ true → b ≡ c) → (a && b) ≡ (a && c)
and_same a b c h = grind arith

-- ---- fronts

pub apart_front : (file : Format) (xs more : List (List ℕ)) → AreApart file (xs ++ more) → AreApart file xs
apart_front Archive xs more is = made_part (set_of xs) (set_of (xs ++ more)) is
    (λ r h. in_set (xs ++ more) r (Contains-append_left xs more r (from_set xs r h)))
apart_front _ xs more is = tt

pub apart_part : (file : Format) (ys xs : List (List ℕ)) (x : List ℕ) (more : List (List ℕ)) → ys ≡ xs ++ x ∷ more
    → AreApart file ys → AreApart file (xs ++ x ∷ [])
apart_part file ys xs x more e is = apart_front file (xs ++ x ∷ []) more (subst (AreApart file) (e ∙ sym (append_assoc xs (x ∷ []) more)) is)

pub apart_none : (file : Format) → AreApart file []
apart_none Archive = made_of_uncovered (set_of []) (λ r h. absurd (false≢true (sym (contains-empty order r) ∙ h)))
apart_none _ = tt

pub apart_listing : (o : Operations) → IsContent o → AreApart Archive (listing o)
apart_listing o c = subst IsMade (content_is o) c.itself

-- a retirement stands before what it covers
pub covering_below : (r : List ℕ) → is_admission r ≡ true → may_follow Archive (covering r) r ≡ true
covering_below [] a = absurd (false≢true a)
covering_below (t ∷ ts) a =
    let tag : t ≡ 2 = eqb-true t 2 a in
    subst (λ (n : ℕ). may_follow Archive (1 ∷ key_and_digest (t ∷ ts)) (n ∷ ts) ≡ true) (sym tag) (below-less (1 ∷ key_and_digest (t ∷ ts)) (2 ∷ ts) refl)

-- and is no admission
pub not_covering : (r q : List ℕ) → is_admission r ≡ true → r ≡ 1 ∷ q → ⊥
not_covering r q a e = false≢true (sym (ap is_admission e) ∙ a)

-- ---- one record more

abbrev pub same_as : List ℕ → List ℕ → Bool
same_as = eq_by_cmp order

pub contains-push : (xs : List (List ℕ)) (x q : List ℕ) → contains (set_of (xs ++ x ∷ [])) q ≡ (same_as q x || contains (set_of xs) q)
contains-push xs x q = ap (λ (s : Operations). contains s q) (from_list_push nat_list_cmp_total bytes_same xs x)
    ∙ contains-insert nat_list_cmp_total (set_of xs) x q

-- it covers nothing if it is not the retirement
covered_still : (xs : List (List ℕ)) (x r : List ℕ) → (is_admission r ≡ true → covering r ≡ x → ⊥)
    → is_covered (set_of (xs ++ x ∷ [])) r ≡ is_covered (set_of xs) r
covered_still xs x r other = and_same (is_admission r) (contains (set_of (xs ++ x ∷ [])) (covering r)) (contains (set_of xs) (covering r)) (λ a.
    contains-push xs x (covering r) ∙ ap (λ b. b || contains (set_of xs) (covering r))
    (is_false (same_as (covering r) x) (λ same. other a (same_bytes (covering r) x same))))

-- a record is not covered by itself
pub covered_push : (xs : List (List ℕ)) (x : List ℕ) → is_covered (set_of (xs ++ x ∷ [])) x ≡ is_covered (set_of xs) x
covered_push xs x = covered_still xs x x (λ a e. not_covering x (key_and_digest x) a (sym e))

-- a record that an earlier one covers is not apart
pub covered_apart : (xs : List (List ℕ)) (x : List ℕ) → AreApart Archive (xs ++ x ∷ []) → is_covered (set_of xs) x ≡ true → ⊥
covered_apart xs x is c = false≢true (sym (uncovered_of_made (set_of (xs ++ x ∷ [])) is x
    (in_set (xs ++ x ∷ []) x (Contains-push xs x))) ∙ covered_push xs x ∙ c)

-- a record above the others, which none of them covers, is apart with them
pub push_apart : (xs : List (List ℕ)) (x : List ℕ) → InOrder Archive [] xs → may_follow Archive (last_of [] xs) x ≡ true
    → AreApart Archive xs → is_covered (set_of xs) x ≡ false → AreApart Archive (xs ++ x ∷ [])
push_apart xs x a b is free = made_of_uncovered (set_of (xs ++ x ∷ [])) (λ r h. elim (Contains-push_cases xs x r (from_set (xs ++ x ∷ []) r h)) [
  | inl k ↦
      covered_still xs x r (λ d e. false≢true (sym (up_to_last [] r xs a k)
      ∙ below-trans (last_of [] xs) x r b (subst (λ (y : List ℕ). may_follow Archive y r ≡ true) e
      (covering_below r d))))
      ∙ uncovered_of_made (set_of xs) is r (in_set xs r k)
  | inr e ↦ ap (λ (y : List ℕ). is_covered (set_of (xs ++ x ∷ [])) y) (sym e) ∙ covered_push xs x ∙ free
])

-- ---- the retirements among the records

pub last_of-push : (low : List ℕ) (xs : List (List ℕ)) (x : List ℕ) → last_of low (xs ++ x ∷ []) ≡ x
last_of-push low [] x = refl
last_of-push low (y ∷ ys) x = last_of-push y ys x

retired_with : (old new records : List (List ℕ)) (dropped : Bool) (x : List ℕ)
    → RetireAlike (set_of old) (set_of records) → Keeps old new dropped x
    → RetireAlike (set_of new) (set_of (records ++ x ∷ []))
retired_with old new records dropped x are k r = k.alike r ∙ contains-insert nat_list_cmp_total (set_of old) x (1 ∷ r)
    ∙ ap (λ b. same_as (1 ∷ r) x || b) (are r) ∙ sym (contains-push records x (1 ∷ r))

-- they grow with the records
pub retired_more : (file : Format) (old new records : List (List ℕ)) (dropped : Bool) (x : List ℕ)
    → AreRetired file old records → KeepsIn file old new dropped x → AreRetired file new (records ++ x ∷ [])
retired_more Archive old new records dropped x are k = λ r. retired_with old new records dropped x are k.0 r
retired_more OldArchive old new records dropped x are k = λ r. retired_with old new records dropped x are k r
retired_more _ old new records dropped x are k = tt

pub retired_none : (file : Format) (retired : List (List ℕ)) → retired ≡ [] → AreRetired file retired []
retired_none Archive retired e = λ r. ap (λ (t : List (List ℕ)). contains (set_of t) (1 ∷ r)) e
retired_none OldArchive retired e = λ r. ap (λ (t : List (List ℕ)). contains (set_of t) (1 ∷ r)) e
retired_none _ retired e = tt

-- so they cover the same
pub covered_alike : (o p : Operations) (x : List ℕ) → RetireAlike o p → is_covered o x ≡ is_covered p x
covered_alike o p x alike = ap (λ b. is_admission x && b) (alike (key_and_digest x))

-- what tells whether one record more is covered tells it of the last one
drops_with : (old new records : List (List ℕ)) (dropped : Bool) (x : List ℕ) → RetireAlike (set_of old) (set_of records)
    → Keeps old new dropped x → dropped ≡ is_covered (set_of (records ++ x ∷ [])) (last_of [] (records ++ x ∷ []))
drops_with old new records dropped x are k = sym k.tells ∙ covered_alike (set_of old) (set_of records) x are
    ∙ sym (covered_push records x) ∙ ap (λ (r : List ℕ). is_covered (set_of (records ++ x ∷ [])) r)
    (sym (last_of-push [] records x))

pub drops_more : (file : Format) (old new records : List (List ℕ)) (dropped : Bool) (x : List ℕ)
    → AreRetired file old records → KeepsIn file old new dropped x → DropsLast file dropped (records ++ x ∷ [])
drops_more Archive old new records dropped x are k = drops_with old new records dropped x are k.0
drops_more OldArchive old new records dropped x are k = drops_with old new records dropped x are k
drops_more _ old new records dropped x are k = k

pub drops_none : (file : Format) (dropped : Bool) → dropped ≡ false → DropsLast file dropped []
drops_none Archive dropped e = e
drops_none _ dropped e = e

-- ---- the content of the records, with one more

pub from_list-push : (records : List (List ℕ)) (x : List ℕ) (o : Operations) → o ≡ set.from_list records
    → AreApart Archive (records ++ x ∷ []) → with_record o x ≡ set.from_list (records ++ x ∷ [])
from_list-push records x o e is = ap (λ (s : Operations). content_of (set.insert s x)) e
    ∙ ap content_of (sym (from_list_push nat_list_cmp_total bytes_same records x)) ∙ is

-- and of a part of them
pub part-push : (records : List (List ℕ)) (x : List ℕ) (o : Operations)
    → ((r : List ℕ) → contains o r ≡ true → contains (set_of records) r ≡ true) → AreApart Archive (records ++ x ∷ [])
    → with_record o x ≡ set.insert o x
part-push records x o within is = made_part (set.insert o x) (set_of (records ++ x ∷ [])) is (λ r h.
    contains-push records x r ∙ or_more (same_as r x) (contains o r) (contains (set_of records) r) (within r)
    (sym (contains-insert nat_list_cmp_total o x r) ∙ h))
