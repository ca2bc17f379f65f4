-- Nothing is lost just where the new archive is above the old one.
use Rattle.std.proofs.Common.{◌≡◌, ◌↔◌, ℕ, ◌+◌, Bool, true, false, not, ◌&&◌, ◌||◌, List, [], ◌∷◌, refl, sym, ap, ◌∙◌, arith, cond, count_by, inl, inr}
use Rattle.std.proofs.lemmas.Bool.{not-false}
use Rattle.std.proofs.lemmas.List.Sums.{sum_by-cons}
use Rattle.std.specs.List.{Contains}
use Rattle.std.specs.FinSet.{contains}
use Rattle.join_core.specs.Listing.{listing}
use Rattle.archive_core.specs.Content.{Operations, is_admission, covering, is_covered, IsBelow, changes}
use Rattle.archive_core.proofs.Members.{in_cons, in_front, in_rest}
use Rattle.archive_records.proofs.Contents.{members_listed}

-- ---- a count is zero just where no member is counted

not_one : (b : Bool) (n : ℕ) → cond b 1 0 + n ≡ 0 → (b ≡ false) × (n ≡ 0)
not_one b n e = grind arith

module _ {X : Type 0} (p : X → Bool) where
  at_first : (x : X) (xs : List X) → count_by p (x ∷ xs) ≡ cond (p x) 1 0 + count_by p xs
  at_first x xs = sum_by-cons (λ x. cond (p x) 1 0) x xs

  none_is : (xs : List X) (x : X) → count_by p xs ≡ 0 → Contains xs x → p x ≡ false
  none_is [] x none (k, lt, is) = absurd (omega (arith, lt))
  none_is (y ∷ ys) x none has =
      let parts : (p y ≡ false) × (count_by p ys ≡ 0) = not_one (p y) (count_by p ys) (sym (at_first y ys) ∙ none) in
      elim (in_cons y ys x has) [
        | inl same ↦ ap p (sym same) ∙ parts.0
        | inr rest ↦ none_is ys x parts.1 rest
      ]

  is_none : (xs : List X) → ((x : X) → Contains xs x → p x ≡ false) → count_by p xs ≡ 0
  is_none [] each = refl
  is_none (y ∷ ys) each = grind (arith, at_first y ys, each y (in_front y ys), is_none ys (λ x has. each x (in_rest y ys x has)))

-- ---- what is not lost

not_lost : (new : Operations) (r : List ℕ) → (changes new r ≡ false) ↔ ((contains new r || is_covered new r) ≡ true)
unfolding changes
not_lost new r = (not-false (contains new r || is_covered new r), ap not)

first_of : (a b c : Bool) → b ≡ false → (a || (b && c)) ≡ true → a ≡ true
first_of a b c n e = grind arith

either_of : (a b c : Bool) → (a || (b && c)) ≡ true → (a || c) ≡ true
either_of a b c e = grind arith

above_by : (a n c o : Bool) → (a ≡ false → n ≡ true) → (o ≡ true → c ≡ true) → (a ≡ true → o ≡ false → (n || c) ≡ true)
    → (n || (a && c)) ≡ true
above_by a n c o other gone live = grind arith

-- a record of the old archive is there or covered, a covered one by its retirement, which is there too
kept_above : (new old : Operations) → IsBelow old new → (r : List ℕ) → contains old r ≡ true
    → (contains new r || is_covered new r) ≡ true
kept_above new old below r has = above_by (is_admission r) (contains new r) (contains new (covering r))
    (contains old (covering r)) (λ other. below.retirements r other has)
    (λ gone. below.retirements (covering r) refl gone) (λ is live. below.live r is has live)

pub rises : (new old : Operations) → (count_by (changes new) (listing old) ≡ 0) ↔ IsBelow old new
rises new old = (
  λ none.
      let kept : (r : List ℕ) → contains old r ≡ true → (contains new r || is_covered new r) ≡ true =
      λ r has. (not_lost new r).0 (none_is (changes new) (listing old) r none ((members_listed old r).1 has)) in
      record {
        retirements = λ r other has. first_of (contains new r) (is_admission r) (contains new (covering r)) other (kept r has);
        live = λ r is has live. either_of (contains new r) (is_admission r) (contains new (covering r)) (kept r has);
      },
  λ below. is_none (changes new) (listing old)
      (λ r listed. (not_lost new r).1 (kept_above new old below r ((members_listed old r).0 listed))),
)
