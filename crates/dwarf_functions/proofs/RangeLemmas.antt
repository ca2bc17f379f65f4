-- Starts of ranges get a function.
use Rattle.std.proofs.Common.{◌≡◌, ℕ, zero, suc, ◌+◌, ◌<◌, ◌≤◌, ◌⊎◌, ◌&&◌, true, false, nat_le, nat_lt, List, [], ◌∷◌}
use Rattle.std.proofs.Common.{length, get_or, slice_get, slice_index, take, Some, refl, sym, subst, ◌∙◌, inl, inr}
use Rattle.std.proofs.Common.{arith}
use Rattle.std.proofs.lemmas.Bool.{and_from, and_parts, cases_Bool, cases_eq, cases_lt, le-leb, leb-true, lt-ltb, ltb-true, or_cases, or_left, or_right}
use Rattle.std.proofs.lemmas.Option.{same_Some}
use Rattle.std.proofs.lemmas.List.Folds.{list_any_more}
use Rattle.dwarf_ranges.specs.Lists.{in_ranges}
use Rattle.dwarf_ranges.specs.declared.range.CodeRange.{CodeRange}
use Rattle.dwarf_functions.specs.Taking.{AreOf, HasBefore, HasSame, IsTaking, Takes}
use Rattle.dwarf_functions.specs.declared.taking.Taking.{Taking}
use Rattle.dwarf_functions.specs.UnitFunctions.{FunctionRecord}
use Rattle.dwarf_functions.specs.declared.functions.Function.{Function}
use Rattle.dwarf_asked_addresses.specs.declared.waiting.Waiting.{Waiting}
use Rattle.dwarf_asked_addresses.specs.Rising.{IsCountBelow}
use Rattle.dwarf_asked_addresses.specs.Waiting.{IsFirstWaiting, Waits, WaitTheSame}
use Rattle.dwarf_functions.proofs.MakingLemmas.{kept_refl}
use Rattle.dwarf_functions.proofs.StartLemmas.{either_stays, it_stays}
use Rattle.dwarf_functions.proofs.TakingLemmas.{skipped, waits_not}

-- ---- steps, one after another

pub same_count : (old new : Taking) → HasSame old new → length new.starts.items ≡ length old.starts.items
same_count old new same = λ j. length ((same.starts j).items)

pub same_trans : (a b c : Taking) → HasSame a b → HasSame b c → HasSame a c
same_trans a b c first second = record { starts = second.starts ∙ first.starts; all = second.all ∙ first.all }

pub takes_weaker : (of : List FunctionRecord) (index : ℕ) (here there : ℕ → Type 0) (old new : Taking)
    → ((i : ℕ) → i < length old.starts.items → there i → here i) → Takes of index here old new
    → Takes of index there old new
takes_weaker of index here there old new from is = record { either = is.either; still = is.still; taken = λ i h p e. is.taken i h (from i h p) e }

pub takes_trans : (of : List FunctionRecord) (index : ℕ) (here there : ℕ → Type 0) (a b c : Taking) → HasSame a b
    → Takes of index here a b → Takes of index there b c → Takes of index (λ i. here i ⊎ there i) a c
takes_trans of index here there a b c same first second =
    let inside : (i : ℕ) → i < length a.starts.items → i < length b.starts.items = λ i h. let n = same_count a b same in omega (arith, n, h) in
    record {
      either = λ i h e. second.either i (inside i h) (first.either i h e);
      still = λ i h e. second.still i (inside i h) (first.still i h e);
      taken = λ i h p e. elim p [
        | inl p ↦ second.still i (inside i h) (first.taken i h p e)
        | inr q ↦ second.taken i (inside i h) q (first.either i h e)
      ];
    }

-- those that do not wait, up to the first that does, have their whole chain
pub takes_waiting : (of : List FunctionRecord) (index from found : ℕ) (old : Taking) (next : Waiting)
    → length old.waiting.next.items ≡ length old.starts.items + 1 → IsFirstWaiting old.waiting.next.items from found
    → WaitTheSame old.waiting.next.items next.next.items → Takes of index (λ i. (from ≤ i) × (i < found)) old (record old { waiting = next })
takes_waiting of index from found old next count first same =
    let new = record old { waiting = next } in
    let is_same : HasSame old (record old { waiting = next }) = record { starts = refl; all = refl } in
    let inside : (i : ℕ) → i < length old.starts.items → i < length old.waiting.next.items = λ i h. omega (arith, count, h) in
    record {
      either = λ i h e. either_stays of index i old (record old { waiting = next }) is_same
          (kept_refl old.making.links.items) refl (same.still i (inside i h)) (same.only i (inside i h)) e;
      still = λ i h e. it_stays of index i old (record old { waiting = next }) is_same
          (kept_refl old.making.links.items) refl (same.still i (inside i h)) (same.only i (inside i h)) e;
      taken = λ i h p e. it_stays of index i old (record old { waiting = next }) is_same
          (kept_refl old.making.links.items) refl (same.still i (inside i h)) (same.only i (inside i h)) (elim e [
            | inl b ↦ waits_not of old.making.links.items (Waits old.waiting.next.items i) (slice_index old.starts.items i)
                (slice_index old.numbers.items i) index b (λ w. first.first i p.0 p.1 w)
            | inr t ↦ t
          ]);
    }

pub takes_next : (of : List FunctionRecord) (index first at found : ℕ) (a b c : Taking) (next : Waiting) → first ≤ at
    → HasSame a b → HasSame b c → length c.waiting.next.items ≡ length c.starts.items + 1
    → IsFirstWaiting c.waiting.next.items (at + 1) found → WaitTheSame c.waiting.next.items next.next.items
    → Takes of index (λ i. (first ≤ i) × (i < at)) a b → Takes of index (λ i. i ≡ at) b c
    → Takes of index (λ i. (first ≤ i) × (i < found)) a (record c { waiting = next })
takes_next of index first at found a b c next low one two count is same before here =
    takes_weaker of index (λ i. (((first ≤ i) × (i < at)) ⊎ (i ≡ at)) ⊎ ((at + 1 ≤ i) × (i < found)))
    (λ i. (first ≤ i) × (i < found)) a (record c { waiting = next })
    (λ i h p. elim (cases_lt i at) [
      | inl less ↦ inl (inl (p.0, less))
      | inr from ↦ elim (cases_eq i at) [
        | inl e ↦ inl (inr e)
        | inr not ↦ inr (omega (arith, from, not), p.1)
      ]
    ])
    (takes_trans of index (λ i. ((first ≤ i) × (i < at)) ⊎ (i ≡ at)) (λ i. (at + 1 ≤ i) × (i < found)) a c
    (record c { waiting = next }) (same_trans a b c one two)
    (takes_trans of index (λ i. (first ≤ i) × (i < at)) (λ i. i ≡ at) a b c one before here)
    (takes_waiting of index (at + 1) found c next count is same))

-- ---- the starts of a range

pub range_parts : (a : ℕ) (range : CodeRange) → in_ranges a (range ∷ []) ≡ true → (range.low ≤ a) × (a < range.high)
range_parts a range is = elim (or_cases (nat_le range.low a && nat_lt a range.high) false is) [
  | inl both ↦ let p = and_parts (nat_le range.low a) (nat_lt a range.high) both in (leb-true range.low a p.0, ltb-true a range.high p.1)
  | inr never ↦ absurd (cc never)
]

pub range_has : (a : ℕ) (range : CodeRange) → range.low ≤ a → a < range.high → in_ranges a (range ∷ []) ≡ true
range_has a range low high = rw (and_from (nat_le range.low a) (nat_lt a range.high) (le-leb range.low a low) (lt-ltb a range.high high)) refl

pub start_in : (starts : List ℕ) (range : CodeRange) (first end at : ℕ) → IsCountBelow starts range.low first
    → IsCountBelow starts range.high end → first ≤ at → at < end → at < length starts
    → in_ranges (slice_index starts at) (range ∷ []) ≡ true
start_in starts range first end at low high from to inside = range_has (slice_index starts at) range (low.above at from inside) (high.below at to)

pub start_between : (starts : List ℕ) (range : CodeRange) (first end i : ℕ) → IsCountBelow starts range.low first
    → IsCountBelow starts range.high end → i < length starts
    → in_ranges (slice_index starts i) (range ∷ []) ≡ true → (first ≤ i) × (i < end)
start_between starts range first end i low high inside is =
    let p = range_parts (slice_index starts i) range is in (
      elim (cases_lt i first) [
        | inl less ↦ let b = low.below i less in let q = p.0 in absurd (omega (arith, b, q))
        | inr from ↦ from
      ],
      elim (cases_lt i end) [
        | inl less ↦ less
        | inr from ↦ let b = high.above i from inside in let q = p.1 in absurd (omega (arith, b, q))
      ],
    )

-- ---- ranges, one after another

pub in_take : (a : ℕ) (ranges : List CodeRange) (i : ℕ) (d : CodeRange) → i < length ranges
    → in_ranges a (take (i + 1) ranges) ≡ true → (in_ranges a (take i ranges) ≡ true)
    ⊎ (in_ranges a (get_or ranges i d ∷ []) ≡ true)
in_take a ranges i d inside is =
    elim (or_cases (in_ranges a (take i ranges)) (nat_le (get_or ranges i d).low a && nat_lt a (get_or ranges i d).high)
    (sym (list_any_more (λ (r : CodeRange). nat_le r.low a && nat_lt a r.high) ranges i d inside) ∙ is)) [
      | inl before ↦ inl before
      | inr here ↦ inr (rw here refl)
    ]

pub in_one : (a : ℕ) (ranges : List CodeRange) (i : ℕ) (r : CodeRange) → slice_get ranges i ≡ Some r → in_ranges a (r ∷ []) ≡ true → in_ranges a ranges ≡ true
in_one a [] i r there is = absurd (cc there)
in_one a (x ∷ xs) zero r there is =
    let p = range_parts a r is in
    let same : r ≡ x = same_Some r x (sym there) in
    or_left (nat_le x.low a && nat_lt a x.high) (in_ranges a xs)
    (and_from (nat_le x.low a) (nat_lt a x.high) (le-leb x.low a (subst (λ (z : CodeRange). z.low ≤ a) same p.0))
    (lt-ltb a x.high (subst (λ (z : CodeRange). a < z.high) same p.1)))
in_one a (x ∷ xs) (suc i) r there is = or_right (nat_le x.low a && nat_lt a x.high) (in_ranges a xs) (in_one a xs i r there is)

-- ranges that have the addresses of those of a function are taken in their stead
pub takes_same : (of : List FunctionRecord) (index : ℕ) (f : FunctionRecord) (ranges parts : List CodeRange)
    (old new : Taking) → ((a : ℕ) → in_ranges a parts ≡ in_ranges a ranges) → ranges ≡ f.ranges
    → (((a : ℕ) → in_ranges a parts ≡ true → in_ranges a f.ranges ≡ true)
    → Takes of index (λ i. in_ranges (slice_index old.starts.items i) parts ≡ true) old new)
    → Takes of index (λ i. in_ranges (slice_index old.starts.items i) ranges ≡ true) old new
takes_same of index f ranges parts old new same is takes =
    takes_weaker of index (λ i. in_ranges (slice_index old.starts.items i) parts ≡ true) (λ i. in_ranges (slice_index old.starts.items i) ranges ≡ true) old new
    (λ i h has. same (slice_index old.starts.items i) ∙ has)
    (takes (λ a has. subst (λ (rs : List CodeRange). in_ranges a rs ≡ true) is (sym (same a) ∙ has)))

-- a function is taken by all starts of its ranges: they have those up to it
pub all_taken : (of : List FunctionRecord) (index : ℕ) (f : FunctionRecord) (old new : Taking) → slice_get of index
    ≡ Some f → HasSame old new → Takes of index (λ i. in_ranges (slice_index old.starts.items i) f.ranges ≡ true) old
    new
    → (i : ℕ) → i < length old.starts.items → HasBefore of old index i → HasBefore of new (index + 1) i
all_taken of index f old new there same takes i h b = elim (cases_Bool (in_ranges (slice_index old.starts.items i) f.ranges)) [
  | inl has ↦ (takes.taken i h has (inl b)).up_to
  | inr not ↦ elim (takes.either i h (inl b)) [
    | inl before ↦
        let start : slice_index new.starts.items i ≡ slice_index old.starts.items i = λ j. slice_index ((same.starts j).items) i in
        skipped of new.making.links.items (Waits new.waiting.next.items i) (slice_index new.starts.items i)
        (slice_index new.numbers.items i) index f there (subst (λ a. in_ranges a f.ranges ≡ false) (sym start) not)
        before
    | inr it ↦ it.up_to
  ]
]

-- ---- what stays

pub are_same : (of : List FunctionRecord) (old new : Taking) → HasSame old new
    → AreOf of old.making.all.now.functions.items old.making.all.now.ranges.items
    → AreOf of new.making.all.now.functions.items new.making.all.now.ranges.items
are_same of old new same are =
    let functions : new.making.all.now.functions.items ≡ old.making.all.now.functions.items = λ j. (same.all j).now.functions.items in
    let ranges : new.making.all.now.ranges.items ≡ old.making.all.now.ranges.items = λ j. (same.all j).now.ranges.items in
    subst (λ (fs : List Function). AreOf of fs new.making.all.now.ranges.items) (sym functions)
    (subst (λ (rs : List CodeRange). AreOf of old.making.all.now.functions.items rs) (sym ranges) are)

pub taking_waits : (t : Taking) (next : Waiting) → IsTaking t → WaitTheSame t.waiting.next.items next.next.items → IsTaking (record t { waiting = next })
taking_waits t next is same = record {
  made = is.made;
  rising = is.rising;
  count = is.count;
  nexts = same.count ∙ is.nexts;
  within = is.within;
  few = λ i h w. is.few i h (same.only i (let n = is.nexts in omega (arith, n, h)) w);
}
