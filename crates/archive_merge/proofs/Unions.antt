-- Joins of ascending lists that grow at their ends.
use Rattle.std.proofs.Common.{◌≡◌, ℕ, true, List, [], ◌∷◌, ◌++◌, subst, inl, inr}
use Rattle.std.specs.List.{Contains}
use Rattle.std.proofs.lemmas.List.Elements.{Contains-append_left, Contains-push, Contains-push_cases}
use Rattle.archive_records.specs.declared.format.Format.TheVariants.{Archive}
use Rattle.archive_records.specs.Kind.{may_follow, IsItem}
use Rattle.archive_records.specs.Text.{last_of}
use Rattle.archive_merge.specs.MergeSteps.{Joins}
use Rattle.archive_records.proofs.RecordSteps.{InOrder-push}

pushed : (xs : List (List ℕ)) (x z : List ℕ) → x ≡ z → Contains (xs ++ x ∷ []) z
pushed xs x z e = subst (Contains (xs ++ x ∷ [])) e (Contains-push xs x)

pub Joins-left : (out xs ys : List (List ℕ)) (x : List ℕ) → Joins out xs ys → IsItem Archive x
    → may_follow Archive (last_of [] out) x ≡ true → Joins (out ++ x ∷ []) (xs ++ x ∷ []) ys
Joins-left out xs ys x j r b = record {
  ordered = InOrder-push Archive [] out x j.ordered r b;
  from = λ z c. elim (Contains-push_cases out x z c) [
    | inl a ↦ elim (j.from z a) [ inl l ↦ inl (Contains-append_left xs (x ∷ []) z l) | inr m ↦ inr m ]
    | inr e ↦ inl (pushed xs x z e)
  ];
  left = λ z c. elim (Contains-push_cases xs x z c) [
    | inl a ↦ Contains-append_left out (x ∷ []) z (j.left z a)
    | inr e ↦ pushed out x z e
  ];
  right = λ z c. Contains-append_left out (x ∷ []) z (j.right z c);
}

pub Joins-swap : (out xs ys : List (List ℕ)) → Joins out xs ys → Joins out ys xs
Joins-swap out xs ys j = record {
  ordered = j.ordered;
  from = λ z c. elim (j.from z c) [ inl l ↦ inr l | inr m ↦ inl m ];
  left = j.right;
  right = j.left;
}

pub Joins-right : (out xs ys : List (List ℕ)) (x : List ℕ) → Joins out xs ys → IsItem Archive x
    → may_follow Archive (last_of [] out) x ≡ true → Joins (out ++ x ∷ []) xs (ys ++ x ∷ [])
Joins-right out xs ys x j r b = Joins-swap (out ++ x ∷ []) (ys ++ x ∷ []) xs (Joins-left out ys xs x (Joins-swap out xs ys j) r b)

pub Joins-both : (out xs ys : List (List ℕ)) (x : List ℕ) → Joins out xs ys → IsItem Archive x
    → may_follow Archive (last_of [] out) x ≡ true → Joins (out ++ x ∷ []) (xs ++ x ∷ []) (ys ++ x ∷ [])
Joins-both out xs ys x j r b =
    let l = Joins-left out xs ys x j r b in
    record {
      ordered = l.ordered;
      from = λ z c. elim (l.from z c) [ inl a ↦ inl a | inr m ↦ inr (Contains-append_left ys (x ∷ []) z m) ];
      left = l.left;
      right = λ z c. elim (Contains-push_cases ys x z c) [ inl a ↦ l.right z a | inr e ↦ pushed out x z e ];
    }
