-- The records of ascending ones that no retirement among them covers.
use Rattle.std.proofs.Common.{◌≡◌, ℕ, ◌≤◌, Bool, true, false, cond, not, List, [], ◌∷◌, ◌++◌, length, refl, sym, ap, ◌∙◌, arith, inl, inr}
use Rattle.std.proofs.lemmas.Bool.{false≢true}
use Rattle.std.proofs.lemmas.List.{append-nil}
use Rattle.std.proofs.lemmas.List.Elements.{Contains-append_left, Contains-append_cases, filter-append}
use Rattle.std.specs.List.{Contains, filter}
use Rattle.std.specs.FinSet.{contains}
use Rattle.std.specs.Cmp.{both_ways}
use Rattle.archive_core.specs.Content.{is_admission, covering, is_covered}
use Rattle.archive_core.specs.Record.{IsRecord}
use Rattle.archive_core.proofs.Members.{in_filter, in_rest, in_front}
use Rattle.archive_records.specs.declared.format.Format.TheVariants.{Archive}
use Rattle.archive_records.specs.Kind.{may_follow}
use Rattle.archive_records.specs.Text.{InOrder, last_of, kept}
use Rattle.archive_records.specs.Reader.{set_of}
use Rattle.archive_records.proofs.Forms.{long-retirement, long-admission}
use Rattle.archive_records.proofs.Apart.{in_set, from_set, and_same, covering_below}
use Rattle.archive_records.proofs.Ascending.{below-trans, all_above, up_to_last, InOrder-behind, InOrder-front}

-- ---- filters

filter_same : (p q : List ℕ → Bool) (xs : List (List ℕ)) → ((r : List ℕ) → Contains xs r → p r ≡ q r) → filter p xs ≡ filter q xs
filter_same p q [] h = refl
filter_same p q (x ∷ xs) h = ap (λ b. cond b (x ∷ filter p xs) (filter p xs)) (h x (in_front x xs))
    ∙ ap (λ (t : List (List ℕ)). cond (q x) (x ∷ t) t) (filter_same p q xs (λ r c. h r (in_rest x xs r c)))

filter_one : (p : List ℕ → Bool) (x : List ℕ) (b : Bool) → p x ≡ b → filter p (x ∷ []) ≡ cond b (x ∷ []) []
filter_one p x b e = ap (λ c. cond c (x ∷ []) []) e

-- ---- what is kept

abbrev free_in : List (List ℕ) → List ℕ → Bool
free_in out r = not (is_covered (set_of out) r)

pub kept_none : kept [] ≡ []
unfolding kept
kept_none = refl

pub from_kept : (out : List (List ℕ)) (z : List ℕ) → Contains (kept out) z → Contains out z
unfolding kept
from_kept out z c = (in_filter (free_in out) out z c).0

-- what stands after covers none of them
module _ (out more : List (List ℕ)) (a : InOrder Archive [] (out ++ more)) (o : InOrder Archive [] out) where
  covers_alike : (r : List ℕ) → Contains out r → is_covered (set_of (out ++ more)) r ≡ is_covered (set_of out) r
  covers_alike r c = and_same (is_admission r) (contains (set_of (out ++ more)) (covering r))
      (contains (set_of out) (covering r)) (λ a'. both_ways (contains (set_of (out ++ more)) (covering r))
      (contains (set_of out) (covering r))
      (λ h. elim (Contains-append_cases out more (covering r) (from_set (out ++ more) (covering r) h)) [
        | inl d ↦ in_set out (covering r) d
        | inr d ↦ absurd (false≢true (sym (up_to_last [] r out o c)
            ∙ below-trans (last_of [] out) (covering r) r
            (all_above (last_of [] out) (covering r) more (InOrder-behind [] out more a) d) (covering_below r a')))
      ])
      (λ h. in_set (out ++ more) (covering r) (Contains-append_left out more (covering r) (from_set out (covering r) h))))

  abbrev pub behind : List (List ℕ)
  behind = filter (free_in (out ++ more)) more

  pub kept_more : kept (out ++ more) ≡ kept out ++ behind
  unfolding kept
  kept_more = filter-append (free_in (out ++ more)) out more
      ∙ ap (λ (t : List (List ℕ)). t ++ behind) (filter_same (free_in (out ++ more)) (free_in out) out
      (λ r c. ap not (covers_alike r c)))

  pub behind_above : (z : List ℕ) → Contains behind z → may_follow Archive (last_of [] out) z ≡ true
  behind_above z c = all_above (last_of [] out) z more (InOrder-behind [] out more a) (in_filter (free_in (out ++ more)) more z c).0

-- one record more is written
pub kept_push : (out : List (List ℕ)) (x : List ℕ) → InOrder Archive [] (out ++ x ∷ [])
    → is_covered (set_of (out ++ x ∷ [])) x ≡ false → kept (out ++ x ∷ []) ≡ kept out ++ x ∷ []
kept_push out x a free = kept_more out (x ∷ []) a (InOrder-front [] out x a)
    ∙ ap (λ (t : List (List ℕ)). kept out ++ t) (filter_one (free_in (out ++ x ∷ [])) x true (ap not free))

-- or passed over
pub kept_pass : (out : List (List ℕ)) (x : List ℕ) → InOrder Archive [] (out ++ x ∷ [])
    → is_covered (set_of (out ++ x ∷ [])) x ≡ true → kept (out ++ x ∷ []) ≡ kept out
kept_pass out x a covered = kept_more out (x ∷ []) a (InOrder-front [] out x a)
    ∙ ap (λ (t : List (List ℕ)). kept out ++ t) (filter_one (free_in (out ++ x ∷ [])) x false (ap not covered))
    ∙ append-nil (kept out)

pub long_record : (x : List ℕ) → IsRecord x → 33 ≤ length x
long_record x (inl a) = long-admission x a
long_record x (inr t) = omega (arith, long-retirement x t)
