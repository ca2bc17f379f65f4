-- A list of operations in two parts, and the retirements so far: the terms of inner functions. No contract of a public
-- function has them.
use Rattle.std.specs.Prelude.{◌≡◌, ℕ, ◌+◌, List, ◌∷◌, true, false, not, ◌||◌, map}
use Rattle.std.specs.List.{AllByRecursion, list_all}
use Rattle.std.specs.FinSet.{contains}
use Rattle.archive_core.specs.Record.{IsOperation, record_bytes}
use Rattle.archive_core.specs.Content.{Operations, is_admission, covering, IsMade, with_records, new_among}
use Rattle.archive_core.specs.declared.operations.Operation.{Operation}

-- a content after admissions alone, and one that also has the retirements so far
pub record IsBeside (old admitted now seen : Operations) : Type 0 where
  pub made_admitted : IsMade admitted
  pub made_now : IsMade now
  pub same : (r : List ℕ) → is_admission r ≡ false → contains admitted r ≡ contains old r
  pub known : (r : List ℕ) → is_admission r ≡ false → contains now r ≡ (contains old r || contains seen r)
  pub free : (r : List ℕ) → is_admission r ≡ true → contains now (covering r) ≡ false
      → contains now r ≡ contains admitted r

-- the content after some admissions, and after them some retirements
abbrev pub with_both : Operations → List Operation → List Operation → Operations
with_both old admissions retirements = with_records (with_records old (map record_bytes admissions))
    (map record_bytes retirements)

-- the number of some admissions that are new, and after them of some retirements
abbrev pub new_of_both : Operations → List Operation → List Operation → ℕ
new_of_both old admissions retirements = new_among old (map record_bytes admissions)
    + new_among (with_records old (map record_bytes admissions)) (map record_bytes retirements)

-- A list of admissions, and a list of retirements.
pub record AreParts (admissions retirements : List Operation) : Type 0 where
  pub admitted : list_all (λ operation. is_admission (record_bytes operation)) admissions ≡ true
  pub retired : list_all (λ operation. not (is_admission (record_bytes operation))) retirements ≡ true
  pub are_admissions : AllByRecursion IsOperation admissions
  pub are_retirements : AllByRecursion IsOperation retirements

-- A state between no operations and all: the operations that are left, and the admissions and retirements so far,
-- without the slices that follow their retirements and without repeated retirements.
pub record IsParting (old : Operations) (all left admissions retirements : List Operation) (seen : Operations)
    : Type 0 where
  pub parts : AreParts admissions retirements
  pub beside : IsBeside old (with_records old (map record_bytes admissions)) (with_both old admissions retirements) seen
  pub content : with_records (with_both old admissions retirements) (map record_bytes left)
      ≡ with_records old (map record_bytes all)
  pub counted : new_of_both old admissions retirements
      + new_among (with_both old admissions retirements) (map record_bytes left) ≡ new_among old (map record_bytes all)

-- The admissions of a list and its retirements, without the slices that follow their retirements and without repeated
-- retirements: their result is the same content, and the same number of them is new.
pub record IsParted (old : Operations) (all admissions retirements : List Operation) : Type 0 where
  pub parts : AreParts admissions retirements
  pub content : with_both old admissions retirements ≡ with_records old (map record_bytes all)
  pub counted : new_of_both old admissions retirements ≡ new_among old (map record_bytes all)

-- after one more operation, the parts and the retirements so far are in such a state, if they were before, for any
-- content
abbrev pub IsPut : Operation → List Operation → List Operation → Operations
    → List Operation → List Operation → Operations → Type 0
IsPut operation admissions retirements seen more_admissions more_retirements more_seen =
    (old : Operations) (all rest : List Operation) → IsParting old all (operation ∷ rest) admissions retirements seen
    → IsParting old all rest more_admissions more_retirements more_seen
