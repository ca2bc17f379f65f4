-- A row that covers starts, one after another.
use Rattle.std.proofs.Common.{◌≡◌, ◌≢◌, ℕ, ◌+◌, ◌<◌, ◌≤◌, List, length, get_or, set, Option, Some, None, sym, subst, ◌∙◌, inl, inr, arith}
use Rattle.std.proofs.lemmas.Bool.{cases_eq, cases_lt}
use Rattle.std.proofs.lemmas.List.{get_or-set_same, get_or-set_other, length-set}
use Rattle.dwarf_lines.specs.declared.registers.Row.{Row}
use Rattle.dwarf_asked_addresses.specs.Waiting.{IsFirstWaiting, Waits, WaitTheSame, WaitWithout}

-- what was covered up to an index
pub record CoversUpTo (first end at : ℕ) (row : Row) (old next : List ℕ) (before rows : List (Option Row)) : Type 0 where
  pub count : length rows ≡ length before
  pub nexts : length next ≡ length old
  pub from : first ≤ at
  pub within : at < length next
  pub here : Waits next at
  pub covered : (i : ℕ) → first ≤ i → i < at → i < end → Waits old i → get_or rows i None ≡ Some row
  pub no_longer : (i : ℕ) → first ≤ i → i < at → i < end → get_or next i 0 ≢ i
  pub still_before : (i : ℕ) → i < length old → i < first → Waits old i → Waits next i
  pub still_behind : (i : ℕ) → i < length old → end ≤ i → Waits old i → Waits next i
  pub still_ahead : (i : ℕ) → i < length old → at ≤ i → Waits old i → Waits next i
  pub only : (i : ℕ) → i < length old → Waits next i → Waits old i
  pub before_first : (i : ℕ) → i < first → get_or rows i None ≡ get_or before i None
  pub behind : (i : ℕ) → end ≤ i → get_or rows i None ≡ get_or before i None
  pub done : (i : ℕ) → i < length before → get_or old i 0 ≢ i → get_or rows i None ≡ get_or before i None

module _ (first end at further : ℕ) (row : Row) (old next ended last : List ℕ) (before rows : List (Option Row))
    (is : CoversUpTo first end at row old next before rows) (less : at < end) (inside : end ≤ length before) (longer : length old ≡ length before + 1)
    (without : WaitWithout at next ended) (found : IsFirstWaiting ended (at + 1) further) (same : WaitTheSame ended last) where
  at_row : at < length rows
  at_row = let n = is.count in omega (arith, n, less, inside)

  in_next : (i : ℕ) → i < length old → i < length next
  in_next i h = let n = is.nexts in omega (arith, n, h)

  in_ended : (i : ℕ) → i < length old → i < length ended
  in_ended i h = let n = is.nexts in let m = without.count in omega (arith, n, m, h)

  other : (i : ℕ) → i ≢ at → get_or (set rows at (Some row)) i None ≡ get_or rows i None
  other i not = get_or-set_other rows at i (Some row) None not

  ahead : at < further
  ahead = let f = found.from in omega (arith, f)

  end_old : (i : ℕ) → i < end → i < length old
  end_old i h = omega (arith, h, inside, longer)

  still : (i : ℕ) → i < length old → i ≢ at → Waits next i → Waits last i
  still i h not w = same.still i (in_ended i h) (without.still i (in_next i h) not w)

  back : (i : ℕ) → i < length old → Waits last i → Waits next i
  back i h w = without.only i (in_next i h) (same.only i (in_ended i h) w)

  pub covers_more : CoversUpTo first end further row old last before (set rows at (Some row))
  covers_more =
      record {
        count = length-set rows at (Some row) ∙ is.count;
        nexts = same.count ∙ without.count ∙ is.nexts;
        from = let f = is.from in let a = ahead in omega (arith, f, a);
        within = let w = found.within in let n = same.count in omega (arith, w, n);
        here = same.still further found.within found.waits;
        covered = λ i from below h w. elim (cases_lt i at) [
          | inl early ↦ other i (λ e. omega (arith, e, early)) ∙ is.covered i from early h w
          | inr late ↦ elim (cases_eq i at) [
            | inl e ↦ subst (λ n. get_or (set rows at (Some row)) n None ≡ Some row) (sym e) (get_or-set_same rows at (Some row) None at_row)
            | inr not ↦ absurd (found.first i (omega (arith, late, not)) below
                (without.still i (in_next i (end_old i h)) not (is.still_ahead i (end_old i h) late w)))
          ]
        ];
        no_longer = λ i from below h w. elim (cases_lt i at) [
          | inl early ↦ is.no_longer i from early h (back i (end_old i h) w)
          | inr late ↦ elim (cases_eq i at) [
            | inl e ↦ without.no_longer (subst (λ n. get_or ended n 0 ≡ n) e (same.only i (in_ended i (end_old i h)) w))
            | inr not ↦ found.first i (omega (arith, late, not)) below (same.only i (in_ended i (end_old i h)) w)
          ]
        ];
        still_before = λ i h b w. still i h (λ e. let f = is.from in omega (arith, e, b, f)) (is.still_before i h b w);
        still_behind = λ i h b w. still i h (λ e. omega (arith, e, b, less)) (is.still_behind i h b w);
        still_ahead = λ i h b w. still i h (λ e. let a = ahead in omega (arith, e, b, a)) (is.still_ahead i h (let a = ahead in omega (arith, a, b)) w);
        only = λ i h w. is.only i h (back i h w);
        before_first = λ i b. other i (λ e. let f = is.from in omega (arith, e, b, f)) ∙ is.before_first i b;
        behind = λ i b. other i (λ e. omega (arith, e, b, less)) ∙ is.behind i b;
        done = λ i h not. other i (λ e. not (subst (λ n. get_or old n 0 ≡ n) (sym e) (is.only at (end_old at less) is.here))) ∙ is.done i h not;
      }
