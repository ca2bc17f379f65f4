-- Starts that get a function.
use Rattle.std.proofs.Common.{◌≡◌, ℕ, ◌<◌, ◌≤◌, true, false, List, length, slice_get, slice_index, Result, Ok, Err}
use Rattle.std.proofs.Common.{Some, refl, sym, subst, ◌∙◌, inl, inr, arith}
use Rattle.std.specs.Prelude.{OnOk}
use Rattle.std.proofs.lemmas.Bool.{cases_eq}
use Rattle.std.proofs.lemmas.Option.{none-some, same_Some, slice_get_within}
use Rattle.dwarf_ranges.specs.Lists.{in_ranges}
use Rattle.dwarf_functions.specs.Making.{AreKept, made_at}
use Rattle.dwarf_functions.specs.Taking.{Extends, HasBefore, HasEither, HasIt, HasSame, HasTaken, IsTaking, IsUpTo, Takes, end_of}
use Rattle.dwarf_functions.specs.declared.links.Link.{Link}
use Rattle.dwarf_functions.specs.declared.taking.Taking.{Taking}
use Rattle.dwarf_functions.specs.UnitFunctions.{FunctionRecord, is_past}
use Rattle.dwarf_functions.specs.declared.functions.Function.{Function}
use Rattle.dwarf_asked_addresses.specs.Waiting.{Waits}
use Rattle.dwarf_functions.proofs.MakingLemmas.{get_there, kept_refl}
use Rattle.dwarf_functions.proofs.TakingLemmas.{extended, inside_link, inside_none, past_taken, taken_still, up_to_still}

-- what follows where a result is Ok
pub on_ok : {A E : Type 0} (r : Result A E) {P Q R : Type 0} → OnOk r P → OnOk r Q → (P → Q → R) → OnOk r R
on_ok (Ok v) p q f = f p q
on_ok (Err e) p q f = tt

same_start : (old new : Taking) (i : ℕ) → HasSame old new → slice_index new.starts.items i ≡ slice_index old.starts.items i
same_start old new i same = λ j. slice_index ((same.starts j).items) i

-- ---- starts that stay

module _ (of : List FunctionRecord) (index i : ℕ) (old new : Taking) (same : HasSame old new) (kept : AreKept old.making.links.items new.making.links.items)
    (number : slice_index new.numbers.items i ≡ slice_index old.numbers.items i)
    (to : Waits old.waiting.next.items i → Waits new.waiting.next.items i)
    (back : Waits new.waiting.next.items i → Waits old.waiting.next.items i) where
  pub before_stays : HasBefore of old index i → HasBefore of new index i
  before_stays is =
      subst (λ a. IsUpTo of new.making.links.items (Waits new.waiting.next.items i) a (slice_index new.numbers.items i) index) (sym (same_start old new i same))
      (subst (λ n. IsUpTo of new.making.links.items (Waits new.waiting.next.items i) (slice_index old.starts.items i) n index) (sym number)
      (up_to_still of old.making.links.items new.making.links.items (Waits old.waiting.next.items i)
      (Waits new.waiting.next.items i) (slice_index old.starts.items i) (slice_index old.numbers.items i) index kept
      to back is))

  pub it_stays : HasIt of old index i → HasIt of new index i
  it_stays is =
      subst (λ a. HasTaken of new.making.links.items (Waits new.waiting.next.items i) a
      (slice_index new.numbers.items i) index) (sym (same_start old new i same))
      (subst (λ n. HasTaken of new.making.links.items (Waits new.waiting.next.items i) (slice_index old.starts.items i) n index) (sym number)
      (taken_still of old.making.links.items new.making.links.items (Waits old.waiting.next.items i)
      (Waits new.waiting.next.items i) (slice_index old.starts.items i) (slice_index old.numbers.items i) index kept
      to back is))

  pub either_stays : HasEither of old index i → HasEither of new index i
  either_stays (inl is) = inl (before_stays is)
  either_stays (inr is) = inr (it_stays is)

-- ---- one start gets it

pub takes_one : (of : List FunctionRecord) (index at : ℕ) (old new : Taking) → HasSame old new → AreKept old.making.links.items new.making.links.items
    → ((i : ℕ) → (i ≡ at → ⊥) → slice_index new.numbers.items i ≡ slice_index old.numbers.items i)
    → ((i : ℕ) → i < length old.starts.items → (i ≡ at → ⊥) → Waits old.waiting.next.items i → Waits new.waiting.next.items i)
    → ((i : ℕ) → i < length old.starts.items → Waits new.waiting.next.items i → Waits old.waiting.next.items i)
    → (HasEither of old index at → HasIt of new index at) → Takes of index (λ i. i ≡ at) old new
takes_one of index at old new same kept others still only it = record {
  either = λ i h e. elim (cases_eq i at) [
    | inl here ↦ inr (subst (λ n. HasIt of new index n) (sym here) (it (subst (λ n. HasEither of old index n) here e)))
    | inr not ↦ either_stays of index i old new same kept (others i not) (still i h not) (only i h) e
  ];
  still = λ i h e. elim (cases_eq i at) [
    | inl here ↦ subst (λ n. HasIt of new index n) (sym here) (it (inr (subst (λ n. HasIt of old index n) here e)))
    | inr not ↦ it_stays of index i old new same kept (others i not) (still i h not) (only i h) e
  ];
  taken = λ i h here e. subst (λ n. HasIt of new index n) (sym here) (it (subst (λ n. HasEither of old index n) here e));
}

pub takes_extend : (of : List FunctionRecord) (index at : ℕ) (f : FunctionRecord) (old new : Taking)
    → slice_get of index ≡ Some f → in_ranges (slice_index old.starts.items at) f.ranges ≡ true
    → at < length old.starts.items
    → Waits old.waiting.next.items at → IsTaking old → IsTaking new → HasSame old new → Extends index at old new
    → ((is : HasBefore of old index at) → is_past (end_of is.chain) index ≡ false) → (HasIt of old index at → ⊥) → Takes of index (λ i. i ≡ at) old new
takes_extend of index at f old new there has h w was now same is inside not =
    takes_one of index at old new same is.kept is.others is.still is.only (λ e. elim e [
      | inl b ↦ subst (λ a. HasTaken of new.making.links.items (Waits new.waiting.next.items at) a
          (slice_index new.numbers.items at) index) (sym (same_start old new at same))
          (extended of old.making.all.now.functions.items new.making.all.now.functions.items old.making.links.items
          new.making.links.items old.making.last new.making.last (Waits old.waiting.next.items at)
          (Waits new.waiting.next.items at)
          (slice_index old.starts.items at) (slice_index old.numbers.items at) (slice_index new.numbers.items at) index f
          there has b w was.made now.made is.kept (was.within at h) is.link (inside b) (was.few at h w) is.full)
      | inr t ↦ absurd (not t)
    ])

-- a start without a link
pub takes_first : (of : List FunctionRecord) (index at : ℕ) (f : FunctionRecord) (old new : Taking) → slice_get of index
    ≡ Some f → in_ranges (slice_index old.starts.items at) f.ranges ≡ true → at < length old.starts.items
    → Waits old.waiting.next.items at → IsTaking old → IsTaking new → HasSame old new → Extends index at old new
    → slice_index old.numbers.items at ≡ 0 → Takes of index (λ i. i ≡ at) old new
takes_first of index at f old new there has h w was now same is none =
    takes_extend of index at f old new there has h w was now same is
    (λ b. inside_none of old.making.links.items (Waits old.waiting.next.items at) (slice_index old.starts.items at)
    (slice_index old.numbers.items at) index b none)
    (λ t. let l = t.last w in none-some l.0 (subst (λ n. made_at old.making.links.items n ≡ Some l.0) none l.1))

-- a start with a link
module _ (of : List FunctionRecord) (index at : ℕ) (old : Taking) (link : Link)
    (there : made_at old.making.links.items (slice_index old.numbers.items at) ≡ Some link)
    (w : Waits old.waiting.next.items at) where
  not_it : (link.function ≡ index → ⊥) → HasIt of old index at → ⊥
  not_it not t = let l = t.last w in not (subst (λ (m : Link). m.function ≡ index) (same_Some l.0 link (sym l.1 ∙ there)) l.2)

  pub takes_same : link.function ≡ index → Takes of index (λ i. i ≡ at) old old
  takes_same is = takes_one of index at old old (record { starts = refl; all = refl })
      (kept_refl old.making.links.items) (λ i not. refl) (λ i h not u. u) (λ i h u. u) (λ e. elim e [
        | inl b ↦ absurd (let l = b.before link there in omega (arith, l, is))
        | inr t ↦ t
      ])

  pub takes_more : (f r : FunctionRecord) (new : Taking) → slice_get of index ≡ Some f
      → in_ranges (slice_index old.starts.items at) f.ranges ≡ true → at < length old.starts.items → IsTaking old
      → IsTaking new
      → HasSame old new → Extends index at old new → (link.function ≡ index → ⊥) → slice_get of link.function ≡ Some r
      → index < r.end → Takes of index (λ i. i ≡ at) old new
  takes_more f r new f_is has h was now same is not of_is inside =
      takes_extend of index at f old new f_is has h w was now same is
      (λ b. inside_link of old.making.links.items (Waits old.waiting.next.items at) (slice_index old.starts.items at)
      (slice_index old.numbers.items at) index link r b there of_is inside) (not_it not)

  pub takes_past : (r : FunctionRecord) (new : Taking) → HasSame old new → new.making.links.items
      ≡ old.making.links.items → ((i : ℕ) → slice_index new.numbers.items i ≡ slice_index old.numbers.items i)
      → ((i : ℕ) → i < length old.starts.items → (i ≡ at → ⊥) → Waits old.waiting.next.items i → Waits new.waiting.next.items i)
      → ((i : ℕ) → i < length old.starts.items → Waits new.waiting.next.items i → Waits old.waiting.next.items i)
      → (Waits new.waiting.next.items at → ⊥) → (link.function ≡ index → ⊥) → slice_get of link.function ≡ Some r
      → r.end ≤ index → Takes of index (λ i. i ≡ at) old new
  takes_past r new same links numbers still only ended not of_is past =
      takes_one of index at old new same (subst (λ (ls : List Link). AreKept old.making.links.items ls) (sym links)
      (kept_refl old.making.links.items)) (λ i n. numbers i) still only (λ e. elim e [
        | inl b ↦
            subst (λ a. HasTaken of new.making.links.items (Waits new.waiting.next.items at) a
            (slice_index new.numbers.items at) index) (sym (same_start old new at same))
            (subst (λ n. HasTaken of new.making.links.items (Waits new.waiting.next.items at) (slice_index old.starts.items at) n index) (sym (numbers at))
            (subst (λ (ls : List Link). HasTaken of ls (Waits new.waiting.next.items at)
            (slice_index old.starts.items at) (slice_index old.numbers.items at) index) (sym links)
            (past_taken of old.making.links.items (Waits old.waiting.next.items at) (Waits new.waiting.next.items at)
            (slice_index old.starts.items at) (slice_index old.numbers.items at) index link r b w there of_is past
            ended)))
        | inr t ↦ absurd (not_it not t)
      ])

-- the record of a function
pub record_of : (of : List FunctionRecord) (functions : List Function) (index : ℕ) (f : Function)
    (count : length functions ≡ length of) → slice_get functions index ≡ Some f → (r : FunctionRecord)
    × (slice_get of index ≡ Some r)
record_of of functions index f count is = get_there of index (let w = slice_get_within functions index f is in omega (arith, w, count))
