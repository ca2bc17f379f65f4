-- The steps of a group are read from the bytes that they are written as.
use Rattle.std.proofs.Common.{◌≡◌, ℕ, zero, suc, ◌+◌, ◌-◌, ◌%◌, ◌<◌, ◌≤◌, ◌^◌, inl, inr, List, [], ◌∷◌, ◌++◌, length, drop, get_or}
use Rattle.std.proofs.Common.{refl, sym, ap, ◌∙◌, arith, append_assoc, Some, None, Bool, true, false, ◌==◌}
use Rattle.std.specs.Prelude.{All}
use Rattle.std.specs.Option.{option_and_then, option_map}
use Rattle.std.proofs.lemmas.List.Elements.{All-head, All-tail}
use Rattle.std.proofs.lemmas.Option.{none-some, option_and_then_some, same_Some}
use Rattle.std.proofs.lemmas.Bool.{cases_lt, eqb-true}
use Rattle.dwarf_encoding.specs.Leb128.{leb128_at, signed_leb128_at, signed_leb128_bytes}
use Rattle.table_source_frames.specs.Inner.{AreReadUpTo}
use Rattle.table_source_frames.specs.StepGroups.{StepNumbers, difference_bytes, no_numbers, number_after, step_after}
use Rattle.table_source_frames.specs.StepGroups.{step_bytes, steps_bytes, steps_on}

-- each number of a step fits eight bytes
pub record FitsStep (step : StepNumbers) : Type 0 where
  pub start : step.start < 2 ^ 64
  pub scope : step.scope < 2 ^ 64
  pub line : step.line < 2 ^ 64
  pub column : step.column < 2 ^ 64

pub none_fit : FitsStep no_numbers
none_fit = record { start = omega arith; scope = omega arith; line = omega arith; column = omega arith }

-- the last of the first steps after an earlier one
pub last_of : ℕ → StepNumbers → List StepNumbers → StepNumbers
last_of zero before steps = before
last_of (suc k) before [] = before
last_of (suc k) before (step ∷ steps) = last_of k step steps

pub last_none : (before : StepNumbers) (steps : List StepNumbers) → last_of 0 before steps ≡ before
unfolding last_of
last_none before steps = refl

pub last_at : (k : ℕ) (before : StepNumbers) (steps : List StepNumbers) (d : StepNumbers) → k < length steps → last_of (suc k) before steps ≡ get_or steps k d
unfolding last_of
last_at k before [] d l = absurd (omega arith)
last_at zero before (step ∷ steps) d l = refl
last_at (suc k) before (step ∷ steps) d l = last_at k step steps d (omega arith)

-- one step more
pub steps_more : (k : ℕ) (before : StepNumbers) (bytes : List ℕ) (step : StepNumbers) (rest : List ℕ) (x : StepNumbers × List ℕ)
    → steps_on k before bytes ≡ Some (step, rest) → step_after step rest ≡ Some x → steps_on (suc k) before bytes ≡ Some x
unfolding steps_on
steps_more zero before bytes step rest x read next =
    let same = same_Some (before, bytes) (step, rest) read in
    let here : step_after before bytes ≡ Some x = ap (λ (y : StepNumbers × List ℕ). step_after y.0 y.1) same ∙ next in
    ap (option_and_then (λ (y : StepNumbers × List ℕ). steps_on zero y.0 y.1)) here
steps_more (suc k) before bytes step rest x read next =
    option_and_then_some (λ (z : StepNumbers × List ℕ). steps_on k z.0 z.1) (step_after before bytes) (step, rest) read
    (λ y some is. ap (option_and_then (λ (z : StepNumbers × List ℕ). steps_on (suc k) z.0 z.1)) some ∙ steps_more k y.0 y.1 step rest x is next)

pub read_no_more : (bytes : List ℕ) (address : ℕ) (step : StepNumbers) → step ≡ no_numbers → AreReadUpTo bytes address 0 step bytes
unfolding steps_on
read_no_more bytes address step none = record {
  read = ap (λ (s : StepNumbers). Some (s, bytes)) (sym none);
  up_to = λ k x some within is. absurd (omega (arith, some, within));
}

pub read_more : (bytes : List ℕ) (address count : ℕ) (step next : StepNumbers) (rest after : List ℕ)
    → AreReadUpTo bytes address count step rest → step_after step rest ≡ Some (next, after) → next.start ≤ address
    → AreReadUpTo bytes address (suc count) next after
read_more bytes address count step next rest after are is not_above = record {
  read = steps_more count no_numbers bytes step rest (next, after) are.read is;
  up_to = λ k x some within read. elim (cases_lt k (suc count)) [
    | inl less ↦ are.up_to k x some (omega (arith, less)) read
    | inr more ↦
        let last : k ≡ suc count = omega (arith, within, more) in
        let same = same_Some x (next, after)
        (sym read ∙ ap (λ n. steps_on n no_numbers bytes) last ∙ steps_more count no_numbers bytes step rest (next, after) are.read is) in
        omega (arith, ap (λ (y : StepNumbers × List ℕ). y.0.start) same, not_above)
  ];
}

-- there are bytes, or none, as a test of their number has it
pub ended : (rest : List ℕ) (test : Bool) → test ≡ (length rest == 0) → test ≡ true → rest ≡ []
ended [] test is so = refl
ended (x ∷ rest) test is so = absurd (omega (arith, eqb-true (length (x ∷ rest)) 0 (sym is ∙ so)))

pub not_yet_ended : (rest : List ℕ) (test : Bool) → test ≡ (length rest == 0) → test ≡ false → rest ≡ [] → ⊥
not_yet_ended [] test is so none = cc (is, so)
not_yet_ended (x ∷ rest) test is so none = cc none

-- a number is read from the bytes that it is written as
abbrev pub IsReadBack : Type 0
IsReadBack = (number : ℕ) (rest : List ℕ) → number < 2 ^ 64 → signed_leb128_at (signed_leb128_bytes number ++ rest) ≡ Some (number, rest)

module _ (read_back : IsReadBack) where
  -- ---- a number

  come_back : (before number : ℕ) → before < 2 ^ 64 → number < 2 ^ 64 → (before + (number + (2 ^ 64 - before)) % 2 ^ 64) % 2 ^ 64 ≡ number
  come_back before number small fits = omega arith

  number_back : (before number : ℕ) (rest : List ℕ) → before < 2 ^ 64 → number < 2 ^ 64
      → number_after before (difference_bytes before number ++ rest) ≡ Some (number, rest)
  unfolding difference_bytes
  number_back before number rest small fits =
      let apart : ℕ = (number + (2 ^ 64 - before)) % 2 ^ 64 in
      ap (option_map (λ (x : ℕ × List ℕ). ((before + x.0) % 2 ^ 64, x.1))) (read_back apart rest (omega arith))
      ∙ ap (λ n. Some (n, rest)) (come_back before number small fits)

  none_at : signed_leb128_at [] ≡ None
  unfolding leb128_at
  none_at = refl

  no_number_after : (before : ℕ) → number_after before [] ≡ None
  no_number_after before = ap (option_map (λ (x : ℕ × List ℕ). ((before + x.0) % 2 ^ 64, x.1))) none_at

  -- ---- a step

  step_back : (before step : StepNumbers) (rest : List ℕ) → FitsStep before → FitsStep step
      → step_after before (step_bytes before step ++ rest) ≡ Some (step, rest)
  unfolding step_after step_bytes
  step_back before step rest small fits =
      let a : List ℕ = difference_bytes before.start step.start in
      let b : List ℕ = difference_bytes before.scope step.scope in
      let c : List ℕ = difference_bytes before.line step.line in
      let d : List ℕ = difference_bytes before.column step.column in
      let joined : (a ++ (b ++ (c ++ d))) ++ rest ≡ a ++ (b ++ (c ++ (d ++ rest))) = simp append_assoc in
      let one = number_back before.start step.start (b ++ (c ++ (d ++ rest))) small.start fits.start in
      let two = number_back before.scope step.scope (c ++ (d ++ rest)) small.scope fits.scope in
      let three = number_back before.line step.line (d ++ rest) small.line fits.line in
      let four = number_back before.column step.column rest small.column fits.column in
      rw (joined, one, two, three, four) refl

  no_step_after : (before : StepNumbers) → step_after before [] ≡ None
  unfolding step_after
  no_step_after before = rw (no_number_after before.start) refl

  -- ---- steps

  pub steps_back : (k : ℕ) (before : StepNumbers) (steps : List StepNumbers) → FitsStep before → All FitsStep steps → k ≤ length steps
      → steps_on k before (steps_bytes before steps) ≡ Some (last_of k before steps, steps_bytes (last_of k before steps) (drop k steps))
  unfolding steps_on steps_bytes last_of
  steps_back zero before steps small fit within = refl
  steps_back (suc k) before [] small fit within = absurd (omega arith)
  steps_back (suc k) before (step ∷ steps) small fit within =
      ap (option_and_then (λ (x : StepNumbers × List ℕ). steps_on k x.0 x.1))
      (step_back before step (steps_bytes step steps) small (All-head FitsStep step steps fit))
      ∙ steps_back k step steps (All-head FitsStep step steps fit) (All-tail FitsStep step steps fit) (omega arith)

  none_past : (k : ℕ) (before : StepNumbers) (steps : List StepNumbers) → FitsStep before → All FitsStep steps → length steps < k
      → steps_on k before (steps_bytes before steps) ≡ None
  unfolding steps_on steps_bytes
  none_past zero before steps small fit past = absurd (omega arith)
  none_past (suc k) before [] small fit past = ap (option_and_then (λ (x : StepNumbers × List ℕ). steps_on k x.0 x.1)) (no_step_after before)
  none_past (suc k) before (step ∷ steps) small fit past =
      ap (option_and_then (λ (x : StepNumbers × List ℕ). steps_on k x.0 x.1))
      (step_back before step (steps_bytes step steps) small (All-head FitsStep step steps fit))
      ∙ none_past k step steps (All-head FitsStep step steps fit) (All-tail FitsStep step steps fit) (omega arith)

  -- what is read of so many steps is the last of them, and the bytes of the others
  pub read_within : (k : ℕ) (steps : List StepNumbers) (step : StepNumbers) (rest : List ℕ) → All FitsStep steps
      → steps_on k no_numbers (steps_bytes no_numbers steps) ≡ Some (step, rest)
      → (k ≤ length steps) × (step ≡ last_of k no_numbers steps) × (rest ≡ steps_bytes step (drop k steps))
  read_within k steps step rest fit read = elim (cases_lt (length steps) k) [
    | inl past ↦ absurd (none-some (step, rest) (sym (none_past k no_numbers steps none_fit fit past) ∙ read))
    | inr within ↦
        let same = same_Some (step, rest) (last_of k no_numbers steps, steps_bytes (last_of k no_numbers steps) (drop k steps))
        (sym read ∙ steps_back k no_numbers steps none_fit fit within) in
        let first : step ≡ last_of k no_numbers steps = ap (λ (x : StepNumbers × List ℕ). x.0) same in (
          within,
          first,
          ap (λ (x : StepNumbers × List ℕ). x.1) same ∙ ap (λ (s : StepNumbers). steps_bytes s (drop k steps)) (sym first),
        )
  ]

  -- after so many steps the next one is read
  pub next_back : (count : ℕ) (before : StepNumbers) (steps : List StepNumbers) (d : StepNumbers) → FitsStep before → All FitsStep steps
      → count < length steps
      → step_after (last_of count before steps) (steps_bytes (last_of count before steps) (drop count steps))
      ≡ Some (get_or steps count d, steps_bytes (get_or steps count d) (drop (suc count) steps))
  unfolding last_of steps_bytes
  next_back count before [] d small fit within = absurd (omega arith)
  next_back zero before (step ∷ steps) d small fit within =
      step_back before step (steps_bytes step steps) small (All-head FitsStep step steps fit)
  next_back (suc count) before (step ∷ steps) d small fit within =
      next_back count step steps d (All-head FitsStep step steps fit) (All-tail FitsStep step steps fit) (omega arith)

  pub end_back : (count : ℕ) (before : StepNumbers) (steps : List StepNumbers) → length steps ≤ count → steps_bytes before (drop count steps) ≡ []
  unfolding steps_bytes
  end_back zero before [] all = refl
  end_back (suc count) before [] all = refl
  end_back zero before (step ∷ steps) all = absurd (omega arith)
  end_back (suc count) before (step ∷ steps) all = end_back count before steps (omega arith)

  -- the next step after so many that were read, or that there is none
  pub next_read : (count : ℕ) (steps : List StepNumbers) (step : StepNumbers) (rest : List ℕ) → All FitsStep steps
      → step ≡ last_of count no_numbers steps → rest ≡ steps_bytes step (drop count steps) → count < length steps
      → (more : List ℕ) × (step_after step rest ≡ Some (get_or steps count no_numbers, more))
  next_read count steps step rest fit is at within = (
    steps_bytes (get_or steps count no_numbers) (drop (suc count) steps),
    ap (step_after step) at
        ∙ ap (λ (s : StepNumbers). step_after s (steps_bytes s (drop count steps))) is
        ∙ next_back count no_numbers steps no_numbers none_fit fit within,
  )

  pub not_ended : (step : StepNumbers) (x : StepNumbers × List ℕ) (rest : List ℕ) → rest ≡ [] → step_after step rest ≡ Some x → ⊥
  not_ended step x rest none is = none-some x (sym (no_step_after step) ∙ ap (step_after step) (sym none) ∙ is)
