-- Operations, one after another, and their records.
use Rattle.std.proofs.Common.{◌≡◌, ℕ, List, [], ◌∷◌, ◌++◌, refl, sym, ap, ◌∙◌}
use Rattle.std.specs.Prelude.{map, All}
use Rattle.std.proofs.lemmas.List.{append-nil}
use Rattle.std.proofs.lemmas.List.Elements.{All-nil, All-cons, All-head, All-tail}
use Rattle.std.specs.List.{concat}
use Rattle.archive_core.specs.declared.operations.Operation.{Operation}
use Rattle.archive_core.specs.Record.{IsOperation, record_bytes}
use Rattle.archive_core.proofs.Records.{record_of_operation, operation_of_record, one_operation}
use Rattle.archive_records.specs.declared.format.Format.TheVariants.{Operations}
use Rattle.archive_records.specs.Kind.{operations_magic, allows, may_follow}
use Rattle.archive_records.specs.Text.{text_of, InOrder, IsOperationsText}

pub InOrder-operations : (low : List ℕ) (xs : List Operation) → All IsOperation xs → InOrder Operations low (map record_bytes xs)
unfolding may_follow allows
InOrder-operations low [] h = tt
InOrder-operations low (x ∷ xs) h = (
  record_of_operation x (All-head IsOperation x xs h),
  refl,
  InOrder-operations (record_bytes x) xs (All-tail IsOperation x xs h),
)

-- records are those of operations
pub operations_in : (low : List ℕ) (records : List (List ℕ)) → InOrder Operations low records → (xs : List Operation)
    × All IsOperation xs × (map record_bytes xs ≡ records)
operations_in low [] h = ([], All-nil IsOperation, refl)
operations_in low (r ∷ rs) h =
    let first = operation_of_record r h.0 in
    let rest = operations_in r rs h.2 in
    (first.0 ∷ rest.0, All-cons IsOperation first.0 rest.0 first.1 rest.1, cc (first.2, rest.2))

-- of one list only
pub one_list : (xs ys : List Operation) → All IsOperation xs → All IsOperation ys → map record_bytes xs ≡ map record_bytes ys → xs ≡ ys
one_list [] [] p q e = refl
one_list (x ∷ xs) (y ∷ ys) p q e =
    let head : record_bytes x ≡ record_bytes y = cc e in
    let tail : map record_bytes xs ≡ map record_bytes ys = cc e in
    cc (
      one_operation x y (All-head IsOperation x xs p) (All-head IsOperation y ys q) head,
      one_list xs ys (All-tail IsOperation x xs p) (All-tail IsOperation y ys q) tail,
    )
one_list _ _ p q e = absurd (cc e)

-- ---- their text

pub IsOperationsText-text : (t : List ℕ) (xs : List Operation) → All IsOperation xs → t ≡ text_of Operations (map record_bytes xs) → IsOperationsText t xs
IsOperationsText-text t xs are e = record { are = are; whole = e ∙ ap (λ (x : List ℕ). operations_magic ++ x) (append-nil (concat (map record_bytes xs))) }

pub text_is : (t : List ℕ) (xs : List Operation) → IsOperationsText t xs → t ≡ text_of Operations (map record_bytes xs)
text_is t xs text = text.whole ∙ ap (λ (x : List ℕ). operations_magic ++ x) (sym (append-nil (concat (map record_bytes xs))))
