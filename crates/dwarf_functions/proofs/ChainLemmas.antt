-- The functions of the chain of an address are those of its entries.
use Rattle.std.proofs.Common.{◌≡◌, ℕ, zero, suc, ◌+◌, ◌-◌, ◌<◌, ◌≤◌, ◌⊎◌, true, false, nat_le, List, [], ◌∷◌, length}
use Rattle.std.proofs.Common.{map, slice_get, Option, Some, None, refl, sym, ap, subst, ◌∙◌, inl, inr, arith}
use Rattle.std.specs.Option.{option_map_or}
use Rattle.std.proofs.lemmas.Bool.{both_ways, cases_Bool, cases_lt, le-leb, leb-false, leb-true, lt-leb}
use Rattle.dwarf_ranges.specs.Lists.{in_ranges}
use Rattle.dwarf_ranges.specs.declared.range.CodeRange.{CodeRange}
use Rattle.dwarf_entries.specs.Entries.{EntryRecord}
use Rattle.dwarf_source_frames.specs.Scopes.{IsChain, IsChainWithin, IsIn, IsWithin, ScopeRecord, contains_at, depth_at}
use Rattle.dwarf_functions.specs.UnitFunctions.{FunctionRecord, count_within, functions_after, functions_from, is_past}
use Rattle.dwarf_functions.proofs.AfterLemmas.{after_here, after_past, after_skip, after_zero, from_bare, from_with, function_at}

-- the entries of functions
abbrev pub entries_of : List FunctionRecord → List EntryRecord
entries_of fs = map (λ f. f.entry) fs

-- the scopes from a position on
abbrev AreFrom : List ScopeRecord → ℕ → List ScopeRecord → Type 0
AreFrom all p rest = (j : ℕ) → slice_get all (p + j) ≡ slice_get rest j

-- a function is open at a position: each scope after it is deeper
record IsOpen (all : List ScopeRecord) (outer end p before : ℕ) (rest : List ScopeRecord) : Type 0 where
  under : outer < p
  deeper : (between : ℕ) → outer < between → between < p → depth_at all outer < depth_at all between
  ends : end ≡ before + count_within (depth_at all outer) rest

-- it is closed: a scope after it is not deeper
record IsClosed (all : List ScopeRecord) (outer end p before : ℕ) : Type 0 where
  ends : end ≤ before
  at : ℕ
  after : outer < at
  reached : at < p
  no_deeper : depth_at all at ≤ depth_at all outer

abbrev Stands : List ScopeRecord → Option ℕ → Option ℕ → ℕ → ℕ → List ScopeRecord → Type 0
Stands all None None p before rest = Unit {0}
Stands all None (Some end) p before rest = ⊥
Stands all (Some outer) None p before rest = ⊥
Stands all (Some outer) (Some end) p before rest = IsOpen all outer end p before rest ⊎ IsClosed all outer end p before

-- nothing before a position contains the address
abbrev NoneBefore : ℕ → List ScopeRecord → Option ℕ → ℕ → Type 0
NoneBefore a all outer p = (i : ℕ) → i < p → IsWithin all outer i → contains_at a all i ≡ true → ⊥

none_in_none : (a : ℕ) (ranges : List CodeRange) → nat_le 1 (length ranges) ≡ false → in_ranges a ranges ≡ false
none_in_none a [] e = refl
none_in_none a (r ∷ rs) e = let f = leb-false 1 (length (r ∷ rs)) e in absurd (omega (arith, f))

module _ (a : ℕ) (all : List ScopeRecord) where
  here : (p : ℕ) (scope : ScopeRecord) (rest : List ScopeRecord) → AreFrom all p (scope ∷ rest) → slice_get all p ≡ Some scope
  here p scope rest from = let same : p + 0 ≡ p = omega arith in subst (λ n. slice_get all n ≡ Some scope) same (from 0)

  next : (p : ℕ) (scope : ScopeRecord) (rest : List ScopeRecord) → AreFrom all p (scope ∷ rest) → AreFrom all (p + 1) rest
  next p scope rest from = λ j. let same : p + suc j ≡ p + 1 + j = omega arith in subst (λ n. slice_get all n ≡ slice_get rest j) same (from (suc j))

  contains_here : (p : ℕ) (scope : ScopeRecord) → slice_get all p ≡ Some scope → contains_at a all p ≡ in_ranges a scope.ranges
  contains_here p scope is = ap (λ (s : Option ScopeRecord). option_map_or (λ s. in_ranges a s.ranges) s false) is

  depth_here : (p : ℕ) (scope : ScopeRecord) → slice_get all p ≡ Some scope → depth_at all p ≡ scope.depth
  depth_here p scope is = ap (λ (s : Option ScopeRecord). option_map_or (λ s. s.depth) s 0) is

  none_more : (outer : Option ℕ) (p : ℕ) → contains_at a all p ≡ false → NoneBefore a all outer p → NoneBefore a all outer (p + 1)
  none_more outer p not none = λ i less within contains. elim (cases_lt i p) [
    | inl below ↦ none i below within contains
    | inr from ↦ let same : i ≡ p = omega (arith, less, from) in both_ways (contains_at a all p) not (subst (λ n. contains_at a all n ≡ true) same contains)
  ]

  none_past : (p : ℕ) → AreFrom all p [] → (i : ℕ) → p ≤ i → contains_at a all i ≡ false
  none_past p from i above =
      let same : p + (i - p) ≡ i = omega (arith, above) in
      let is : slice_get all i ≡ None = subst (λ n. slice_get all n ≡ None) same (from (i - p)) in
      ap (λ (s : Option ScopeRecord). option_map_or (λ s. in_ranges a s.ranges) s false) is

  -- in a closed function there is nothing more
  none_closed : (outer end p before : ℕ) → IsClosed all outer end p before → NoneBefore a all (Some outer) p → (i : ℕ)
      → IsIn all outer i → contains_at a all i ≡ true → ⊥
  none_closed outer end p before closed none i within contains = elim (cases_lt i p) [
    | inl below ↦ none i below within contains
    | inr from ↦
        let d = within.deeper closed.at closed.after (let r = closed.reached in omega (arith, r, from)) in
        let n = closed.no_deeper in omega (arith, d, n)
  ]

  -- a deeper scope
  open_more : (outer end p before after : ℕ) (scope : ScopeRecord) (rest : List ScopeRecord) → slice_get all p
      ≡ Some scope → IsOpen all outer end p before (scope ∷ rest)
      → nat_le scope.depth (depth_at all outer) ≡ false → end ≡ after + count_within (depth_at all outer) rest → IsOpen all outer end (p + 1) after rest
  open_more outer end p before after scope rest is opened deep ends = record {
    under = let u = opened.under in omega (arith, u);
    deeper = λ between above below. elim (cases_lt between p) [
      | inl less ↦ opened.deeper between above less
      | inr from ↦
          let same : p ≡ between = omega (arith, from, below) in
          let d : depth_at all outer < scope.depth = leb-false scope.depth (depth_at all outer) deep in
          subst (λ n. depth_at all outer < depth_at all n) same (subst (λ n. depth_at all outer < n) (sym (depth_here p scope is)) d)
    ];
    ends = ends;
  }

  -- a scope without ranges
  stands_skip : (outer end : Option ℕ) (p before : ℕ) (scope : ScopeRecord) (rest : List ScopeRecord) → slice_get all p
      ≡ Some scope → nat_le 1 (length scope.ranges) ≡ false
      → Stands all outer end p before (scope ∷ rest) → Stands all outer end (p + 1) before rest
  stands_skip None None p before scope rest is bare stands = tt
  stands_skip None (Some end) p before scope rest is bare stands = stands
  stands_skip (Some outer) None p before scope rest is bare stands = stands
  stands_skip (Some outer) (Some end) p before scope rest is bare (inr closed) =
      inr (record {
        ends = closed.ends;
        at = closed.at;
        after = closed.after;
        reached = let r = closed.reached
            in omega (arith, r);
        no_deeper = closed.no_deeper;
      })
  stands_skip (Some outer) (Some end) p before scope rest is bare (inl opened) = elim (cases_Bool (nat_le scope.depth (depth_at all outer))) [
    | inl flat ↦ inr (record {
      ends = let e = (rw flat at opened.ends) in omega (arith, e);
      at = p;
      after = opened.under;
      reached = omega arith;
      no_deeper = subst (λ n. n ≤ depth_at all outer) (sym (depth_here p scope is)) (leb-true scope.depth (depth_at all outer) flat);
    })
    | inr deep ↦ inl (open_more outer end p before before scope rest is opened deep (rw (deep, bare) at opened.ends))
  ]

  -- a function that does not stand in the one before it
  is_past_flat : (outer end p before : ℕ) (scope : ScopeRecord) (rest : List ScopeRecord)
      → IsOpen all outer end p before (scope ∷ rest) → nat_le scope.depth (depth_at all outer) ≡ true → end ≤ before
  is_past_flat outer end p before scope rest opened flat = let e = (rw flat at opened.ends) in omega (arith, e)

  none_flat : (outer end p before : ℕ) (scope : ScopeRecord) (rest : List ScopeRecord) → slice_get all p ≡ Some scope
      → IsOpen all outer end p before (scope ∷ rest)
      → nat_le scope.depth (depth_at all outer) ≡ true → NoneBefore a all (Some outer) p → (i : ℕ) → IsIn all outer i → contains_at a all i ≡ true → ⊥
  none_flat outer end p before scope rest is opened flat none i within contains = elim (cases_lt i p) [
    | inl below ↦ none i below within contains
    | inr from ↦
        let d : depth_at all outer < scope.depth = subst (λ n. depth_at all outer < n) (depth_here p scope is) (within.deeper p opened.under from) in
        let n = leb-true scope.depth (depth_at all outer) flat in omega (arith, d, n)
  ]

  in_deep : (outer end p before : ℕ) (scope : ScopeRecord) (rest : List ScopeRecord) → slice_get all p ≡ Some scope
      → IsOpen all outer end p before (scope ∷ rest)
      → nat_le scope.depth (depth_at all outer) ≡ false → IsIn all outer p
  in_deep outer end p before scope rest is opened deep = record {
    later = opened.under;
    deeper = λ between above below. elim (cases_lt between p) [
      | inl less ↦ opened.deeper between above less
      | inr from ↦
          let same : p ≡ between = omega (arith, from, below) in
          let d : depth_at all outer < scope.depth = leb-false scope.depth (depth_at all outer) deep in
          subst (λ n. depth_at all outer < depth_at all n) same (subst (λ n. depth_at all outer < n) (sym (depth_here p scope is)) d)
    ];
  }

  not_past_deep : (outer end p before : ℕ) (scope : ScopeRecord) (rest : List ScopeRecord)
      → IsOpen all outer end p before (scope ∷ rest) → nat_le scope.depth (depth_at all outer) ≡ false
      → nat_le 1 (length scope.ranges) ≡ true → end ≡ before + 1 + count_within (depth_at all outer) rest
  not_past_deep outer end p before scope rest opened deep has = let e = (rw (deep, has) at opened.ends) in omega (arith, e)

  open_first : (p before : ℕ) (scope : ScopeRecord) (rest : List ScopeRecord) → slice_get all p ≡ Some scope
      → IsOpen all p (before + 1 + count_within scope.depth rest) (p + 1) (before + 1) rest
  open_first p before scope rest is = record {
    under = omega arith;
    deeper = λ between above below. absurd (omega (arith, above, below));
    ends = ap (λ n. before + 1 + count_within n rest) (sym (depth_here p scope is));
  }

  -- what holds of the functions of scopes from any position on
  abbrev ChainOf : List ScopeRecord → Type 0
  ChainOf rest = (room : ℕ) (outer end : Option ℕ) (p before : ℕ) → AreFrom all p rest → Stands all outer end p before rest → NoneBefore a all outer p
      → IsChainWithin room a all outer (entries_of (functions_after room a end before (functions_from before rest)))

  -- a function that stands in the one before it, if there is one
  chain_step : (room : ℕ) (outer end : Option ℕ) (p before : ℕ) (scope : ScopeRecord) (rest : List ScopeRecord)
      → AreFrom all p (scope ∷ rest) → is_past end before ≡ false → IsWithin all outer p
      → Stands all outer end (p + 1) (before + 1) rest → NoneBefore a all outer p → ChainOf rest
      → IsChainWithin (suc room) a all outer (entries_of
      (functions_after (suc room) a end before (function_at before scope rest ∷ functions_from (before + 1) rest)))
  chain_step room outer end p before scope rest from past within stands none more =
      let is = here p scope rest from in
      let f = function_at before scope rest in
      let fs = functions_from (before + 1) rest in
      elim (cases_Bool (in_ranges a scope.ranges)) [
        | inl has ↦ subst (λ (gs : List FunctionRecord). IsChainWithin (suc room) a all outer (entries_of gs))
            (sym (after_here room a end before f fs past has)) (
              p,
              scope,
              is,
              refl,
              record { within = within; contains = contains_here p scope is ∙ has; first = none },
              more room (Some p) (Some f.end) (p + 1) (before + 1) (next p scope rest from)
                  (inl (open_first p before scope rest is))
                  (λ i less in_it contains. let l = in_it.later in omega (arith, less, l)),
            )
        | inr not ↦ subst (λ (gs : List FunctionRecord). IsChainWithin (suc room) a all outer (entries_of gs))
            (sym (after_skip room a end before f fs past not))
            (more (suc room) outer end (p + 1) (before + 1) (next p scope rest from) stands (none_more outer p (contains_here p scope is ∙ not) none))
      ]

  chain_none : (room : ℕ) (outer end : Option ℕ) (before : ℕ) (f : FunctionRecord) (fs : List FunctionRecord)
      → is_past end before ≡ true → ((i : ℕ) → IsWithin all outer i → contains_at a all i ≡ true → ⊥)
      → IsChainWithin (suc room) a all outer (entries_of (functions_after (suc room) a end before (f ∷ fs)))
  chain_none room outer end before f fs past none = subst
      (λ (gs : List FunctionRecord). IsChainWithin (suc room) a all outer (entries_of gs))
      (sym (after_past room a end before f fs past)) none

  -- a scope with ranges
  chain_function : (room : ℕ) (outer end : Option ℕ) (p before : ℕ) (scope : ScopeRecord) (rest : List ScopeRecord)
      → AreFrom all p (scope ∷ rest) → nat_le 1 (length scope.ranges) ≡ true
      → Stands all outer end p before (scope ∷ rest) → NoneBefore a all outer p → ChainOf rest
      → IsChainWithin room a all outer (entries_of (functions_after room a end before (function_at before scope rest ∷ functions_from (before + 1) rest)))
  chain_function zero outer end p before scope rest from has stands none more =
      ap entries_of (after_zero a end before (function_at before scope rest ∷ functions_from (before + 1) rest))
  chain_function (suc room) None None p before scope rest from has stands none more = chain_step room None None p before scope rest from refl tt tt none more
  chain_function (suc room) None (Some end) p before scope rest from has stands none more = absurd stands
  chain_function (suc room) (Some outer) None p before scope rest from has stands none more = absurd stands
  chain_function (suc room) (Some outer) (Some end) p before scope rest from has (inr closed) none more =
      chain_none room (Some outer) (Some end) before (function_at before scope rest) (functions_from (before + 1) rest)
      (le-leb end before closed.ends) (none_closed outer end p before closed none)
  chain_function (suc room) (Some outer) (Some end) p before scope rest from has (inl opened) none more =
      let is = here p scope rest from in
      elim (cases_Bool (nat_le scope.depth (depth_at all outer))) [
        | inl flat ↦ chain_none room (Some outer) (Some end) before (function_at before scope rest)
            (functions_from (before + 1) rest) (le-leb end before
            (is_past_flat outer end p before scope rest opened flat))
            (none_flat outer end p before scope rest is opened flat none)
        | inr deep ↦
            let ends = not_past_deep outer end p before scope rest opened deep has in
            chain_step room (Some outer) (Some end) p before scope rest from (lt-leb end before (omega (arith, ends)))
            (in_deep outer end p before scope rest is opened deep)
            (inl (open_more outer end p before (before + 1) scope rest is opened deep ends)) none more
      ]

  chain_end : (room : ℕ) (outer : Option ℕ) (p : ℕ) → AreFrom all p [] → NoneBefore a all outer p → IsChainWithin room a all outer []
  chain_end zero outer p from none = refl
  chain_end (suc room) outer p from none = λ i within contains. elim (cases_lt i p) [
    | inl below ↦ none i below within contains
    | inr above ↦ both_ways (contains_at a all i) (none_past p from i above) contains
  ]

  chain_of : (rest : List ScopeRecord) → ChainOf rest
  unfolding functions_after functions_from
  chain_of [] = λ room outer end p before from stands none. chain_end room outer p from none
  chain_of (scope ∷ rest) = λ room outer end p before from stands none. elim (cases_Bool (nat_le 1 (length scope.ranges))) [
    | inl has ↦ subst (λ (fs : List FunctionRecord). IsChainWithin room a all outer
        (entries_of (functions_after room a end before fs))) (sym (from_with before scope rest has))
        (chain_function room outer end p before scope rest from has stands none (chain_of rest))
    | inr bare ↦ subst (λ (fs : List FunctionRecord). IsChainWithin room a all outer
        (entries_of (functions_after room a end before fs))) (sym (from_bare before scope rest bare))
        (let is = here p scope rest from in
        chain_of rest room outer end (p + 1) before (next p scope rest from) (stands_skip outer end p before scope rest is bare stands)
        (none_more outer p (contains_here p scope is ∙ none_in_none a scope.ranges bare) none))
  ]

-- the functions of a chain are those of scopes
pub is_chain : (a : ℕ) (scopes : List ScopeRecord) → IsChain a scopes (entries_of (functions_after 256 a None 0 (functions_from 0 scopes)))
is_chain a scopes = chain_of a scopes scopes 256 None None 0 0
    (λ j. let same : 0 + j ≡ j = omega arith in ap (λ n. slice_get scopes n) same) tt
    (λ i less. absurd (omega (arith, less)))
