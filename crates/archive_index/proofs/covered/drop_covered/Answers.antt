use Rattle.std.proofs.Common.{◌≡◌, Bool, true, false, List, [], ◌∷◌, filter, rules, length, cond, arith, not, sym, refl, ap, ◌∙◌}
use Rattle.std.specs.List.Retain.{IsFiltered, ReturnsInTurn}
use Rattle.std.specs.List.{items_where_true}
use denote.Ref.{Bor}
use Rattle.archive_index.specs.declared.covered.BorrowedOperations.{BorrowedOperations}
use Rattle.archive_core.specs.declared.operations.Operation.{Operation}
use Rattle.archive_index.specs.contracts.covered.fn.drop_covered.retain as closure
use Rattle.archive_core.specs.Content.{is_covered}
use Rattle.archive_core.specs.Record.{record_bytes}
use Rattle.archive_index.proofs.Falling.{written_back}
use Rattle.archive_index.proofs.Uncovered.{none_dropped}
use Rattle.archive_index.proofs.covered.drop_covered.Goals as goal

-- what a test keeps that answers alike from each state with an invariant
module _ {X F : Type 0} (R : F → X → Bool → F → Type 0) (I : F → Type 0) (test : X → Bool)
    (step : (f : F) (x : X) (b : Bool) (f' : F) → I f → R f x b f' → (b ≡ test x) × I f') where
  kept_in_turn : (xs : List X) (bs : List Bool) (f q : F) → I f → length bs ≡ length xs → ReturnsInTurn R f bs xs q → items_where_true bs xs ≡ filter test xs
  kept_in_turn [] [] f q i long told = refl
  kept_in_turn [] (b ∷ bs) f q i long told = absurd (omega arith)
  kept_in_turn (x ∷ xs) [] f q i long told = absurd (omega arith)
  kept_in_turn (x ∷ xs) (b ∷ bs) f q i long told =
      let one = step f x b told.0 i told.1 in
      by b one.0 (kept_in_turn xs bs told.0 q one.1 (omega arith) told.2)
    where
      by : (b : Bool) → b ≡ test x → items_where_true bs xs ≡ filter test xs → items_where_true (b ∷ bs) (x ∷ xs)
          ≡ cond (test x) (x ∷ filter test xs) (filter test xs)
      by true e rest = rw (← e) (ap (λ l. x ∷ l) rest)
      by false e rest = rw (← e) rest

  kept : (f : F) → I f → (xs ys : List X) → IsFiltered R f xs ys → ys ≡ filter test xs
  kept f i xs ys h = h.4 ∙ kept_in_turn xs h.0 f h.1 i h.2 h.3

pub returns-clause-items : goal.returns-clause-items
returns-clause-items c =
    let test = λ (operation : Operation). not (is_covered c.args.by.now (record_bytes operation)) in
    let same = written_back c.args.operations.now.items c.keep_digests.new.operations c.args.operations.now.len
    (c.keep_digests.ensures ∙ c.deref_mut.ensures.value) (omega (arith, c.args.operations.now.ok.0)) in
    kept _ (λ f. (closure.captures f).by ≡ c.args.by) test (λ f x b f' i k.
    let told : b ≡ not (is_covered (closure.captures f).by.now (record_bytes x)) = search rules in
    let same : (closure.captures f').by ≡ (closure.captures f).by = search rules in
    (told ∙ ap (λ (by : Bor BorrowedOperations). not (is_covered by.now (record_bytes x))) i, same ∙ i)) _ refl _ _ c.retain.ensures.filtered
    ∙ ap (filter test) same

pub returns-then-not-has_retirements-clause-items : goal.returns-then-not-has_retirements-clause-items
returns-then-not-has_retirements-clause-items c = sym (none_dropped c.args.by.now c.args.operations.now.items
    (c.has_retirements.ensures.none c.if-not-has_retirements.true))
