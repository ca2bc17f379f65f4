-- A start gets the functions of its chain, one after another.
use Rattle.std.proofs.Common.{◌≡◌, ℕ, zero, suc, ◌+◌, ◌-◌, ◌<◌, ◌≤◌, true, false, List, [], ◌∷◌, ◌++◌, length, drop}
use Rattle.std.proofs.Common.{get_or, reverse, set, slice_get, Option, Some, None, refl, sym, ap, subst, ◌∙◌, inl, inr}
use Rattle.std.proofs.Common.{append_assoc, arith}
use Rattle.std.proofs.lemmas.Bool.{cases_Bool, cases_eq, le-leb, leb-true, lt-leb}
use Rattle.std.proofs.lemmas.List.{append-nil, drop_more, get_or-set_other, get_or-set_same, reverse-append}
use Rattle.std.proofs.lemmas.Option.{get_or_from_slice_get, none-some, same_Some, slice_get_within}
use Rattle.dwarf_ranges.specs.Lists.{in_ranges}
use Rattle.dwarf_functions.specs.Making.{AreKept, AreMade, IsLinkIn, count_at, made_at}
use Rattle.dwarf_functions.specs.Taking.{AreFunctionsOfLink, HasTaken, IsUpTo, chain_in, end_of}
use Rattle.dwarf_functions.specs.declared.links.Link.{Link}
use Rattle.dwarf_functions.specs.UnitFunctions.{FunctionRecord, functions_after, is_past}
use Rattle.dwarf_functions.specs.declared.functions.Function.{Function}
use Rattle.dwarf_functions.proofs.AfterLemmas.{after_here, after_past, after_skip, after_zero}
use Rattle.dwarf_functions.proofs.MakingLemmas.{count_kept, count_of_made, made_kept, within_made}

-- ---- what is left of a chain

past_later : (end : Option ℕ) (index : ℕ) → is_past end index ≡ true → is_past end (index + 1) ≡ true
past_later None index past = past
past_later (Some end) index past = le-leb end (index + 1) (let l = leb-true end index past in omega (arith, l))

past_all : (room a : ℕ) (end : Option ℕ) (index : ℕ) (fs : List FunctionRecord) → is_past end index ≡ true → functions_after room a end index fs ≡ []
unfolding functions_after
past_all room a end index [] past = refl
past_all zero a end index (f ∷ fs) past = after_zero a end index (f ∷ fs)
past_all (suc room) a end index (f ∷ fs) past = after_past room a end index f fs past

pub after_not : (room a : ℕ) (end : Option ℕ) (index : ℕ) (f : FunctionRecord) (fs : List FunctionRecord)
    → in_ranges a f.ranges ≡ false → functions_after room a end index (f ∷ fs)
    ≡ functions_after room a end (index + 1) fs
after_not zero a end index f fs not = after_zero a end index (f ∷ fs) ∙ sym (after_zero a end (index + 1) fs)
after_not (suc room) a end index f fs not = elim (cases_Bool (is_past end index)) [
  | inl past ↦ past_all (suc room) a end index (f ∷ fs) past ∙ sym (past_all (suc room) a end (index + 1) fs (past_later end index past))
  | inr before ↦ after_skip room a end index f fs before not
]

pub drop_function : (of : List FunctionRecord) (index : ℕ) (f : FunctionRecord) → slice_get of index ≡ Some f → drop index of ≡ f ∷ drop (index + 1) of
drop_function of index f is = drop_more of index f (slice_get_within of index f is)
    ∙ ap (λ (g : FunctionRecord). g ∷ drop (index + 1) of) (get_or_from_slice_get of index f f is)

reverse-cons : (f : FunctionRecord) (fs : List FunctionRecord) → reverse (f ∷ fs) ≡ reverse fs ++ f ∷ []
reverse-cons f fs = reverse-append (f ∷ []) fs

-- ---- the functions of a link

functions_kept : (of : List FunctionRecord) (old new : List Link) (number : ℕ) (chain : List FunctionRecord)
    → AreKept old new → AreFunctionsOfLink of old number chain → AreFunctionsOfLink of new number chain
functions_kept of old new number [] kept are = are
functions_kept of old new number (f ∷ fs) kept are =
    let now = made_kept old new number are.0 kept are.1 in
    (record are.0 { child = now.0 }, now.1, are.2, are.3, functions_kept of old new are.0.outer fs kept are.4)

made_is : (functions : List Function) (links : List Link) (last number : ℕ) (link : Link) → AreMade functions links last
    → made_at links number ≡ Some link → (link.outer < number) × (link.count ≡ suc (count_at links link.outer))
made_is functions links last zero link made is = absurd (none-some link is)
made_is functions links last (suc i) link made is = let m = made.each i link is in (let c = m.before in omega (arith, c), m.count)

pub count_in : (functions : List Function) (links : List Link) (last outer index number : ℕ)
    → AreMade functions links last → IsLinkIn links outer index number → count_at links number
    ≡ suc (count_at links outer)
count_in functions links last outer index number made is =
    count_of_made links number is.link is.there ∙ ((made_is functions links last number is.link made is.there).1 ∙ ap (λ n. suc (count_at links n)) is.is_in)

count_of_chain : (of : List FunctionRecord) (functions : List Function) (links : List Link) (last number : ℕ)
    (chain : List FunctionRecord) → AreMade functions links last → AreFunctionsOfLink of links number chain
    → count_at links number ≡ length chain
count_of_chain of functions links last number [] made are = ap (λ n. count_at links n) are
count_of_chain of functions links last number (f ∷ fs) made are =
    count_of_made links number are.0 are.1 ∙ ((made_is functions links last number are.0 made are.1).1
    ∙ ap suc (count_of_chain of functions links last are.0.outer fs made are.4))

-- the innermost function is that of the link
innermost : (of : List FunctionRecord) (links : List Link) (number : ℕ) (chain : List FunctionRecord) (link : Link)
    (r : FunctionRecord) → AreFunctionsOfLink of links number chain → made_at links number ≡ Some link
    → slice_get of link.function ≡ Some r → end_of chain ≡ Some r.end
innermost of links number [] link r are there is = absurd (none-some link (subst (λ n. made_at links n ≡ Some link) are there))
innermost of links number (f ∷ fs) link r are there is =
    let same : are.0 ≡ link = same_Some are.0 link (sym are.1 ∙ there) in
    let f_is : f ≡ r = same_Some f r (sym are.3 ∙ (ap (λ (l : Link). slice_get of l.function) same ∙ is)) in
    ap (λ (g : FunctionRecord). Some g.end) f_is

no_innermost : (of : List FunctionRecord) (links : List Link) (number : ℕ) (chain : List FunctionRecord)
    → AreFunctionsOfLink of links number chain → number ≡ 0 → end_of chain ≡ None
no_innermost of links number [] are none = refl
no_innermost of links number (f ∷ fs) are none = absurd (none-some are.0 (subst (λ n. made_at links n ≡ Some are.0) none are.1))

-- ---- a start that stays as it is

module _ (of : List FunctionRecord) (old new : List Link) (was waits : Type 0) (a number index : ℕ)
    (kept : AreKept old new) (to : was → waits) (back : waits → was) where
  before_still : (chain : List FunctionRecord) → AreFunctionsOfLink of old number chain
      → ((link : Link) → made_at old number ≡ Some link → link.function < index) → (link : Link) → made_at new number
      ≡ Some link → link.function < index
  before_still [] are before link there = absurd (none-some link (subst (λ n. made_at new n ≡ Some link) are there))
  before_still (f ∷ fs) are before link there =
      let now = made_kept old new number are.0 kept are.1 in
      let same : record are.0 { child = now.0 } ≡ link = same_Some (record are.0 { child = now.0 }) link (sym now.1 ∙ there) in
      subst (λ (l : Link). l.function < index) same (before are.0 are.1)

  pub up_to_still : IsUpTo of old was a number index → IsUpTo of new waits a number index
  up_to_still is = record {
    chain = is.chain;
    are = functions_kept of old new number is.chain kept is.are;
    before = λ link there. before_still is.chain is.are is.before link there;
    more = λ w. is.more (back w);
    all = λ not. is.all (λ w. not (to w));
  }

pub taken_still : (of : List FunctionRecord) (old new : List Link) (was waits : Type 0) (a number index : ℕ)
    → AreKept old new → (was → waits) → (waits → was) → HasTaken of old was a number index
    → HasTaken of new waits a number index
taken_still of old new was waits a number index kept to back is = record {
  up_to = up_to_still of old new was waits a number (index + 1) kept to back is.up_to;
  last = λ w.
      let l = is.last (back w) in let now = made_kept old new number l.0 kept l.1 in
      (record l.0 { child = now.0 }, now.1, l.2);
}

-- ---- a start that gets a function, or does not

-- the function does not contain it
pub skipped : (of : List FunctionRecord) (links : List Link) (waits : Type 0) (a number index : ℕ) (f : FunctionRecord)
    → slice_get of index ≡ Some f → in_ranges a f.ranges ≡ false
    → IsUpTo of links waits a number index → IsUpTo of links waits a number (index + 1)
skipped of links waits a number index f there not is = record {
  chain = is.chain;
  are = is.are;
  before = λ link at. let b = is.before link at in omega (arith, b);
  more = λ w. ap (λ (fs : List FunctionRecord). reverse is.chain ++ fs)
      (sym (after_not (256 - length is.chain) a (end_of is.chain) index f (drop (index + 1) of) not)
      ∙ ap (λ (fs : List FunctionRecord). functions_after (256 - length is.chain) a (end_of is.chain) index fs)
      (sym (drop_function of index f there))) ∙ is.more w;
  all = is.all;
}

-- it waits no longer, and has its whole chain
up_to_done : (of : List FunctionRecord) (links : List Link) (was waits : Type 0) (a number index : ℕ)
    (is : IsUpTo of links was a number index) → (waits → ⊥) → reverse is.chain ≡ chain_in of a
    → HasTaken of links waits a number index
up_to_done of links was waits a number index is not whole = record {
  up_to = record {
    chain = is.chain;
    are = is.are;
    before = λ link at. let b = is.before link at in omega (arith, b);
    more = λ w. absurd (not w);
    all = λ no. whole;
  };
  last = λ w. absurd (not w);
}

-- it did not wait
pub waits_not : (of : List FunctionRecord) (links : List Link) (waits : Type 0) (a number index : ℕ)
    → IsUpTo of links waits a number index → (waits → ⊥) → HasTaken of links waits a number index
waits_not of links waits a number index is not = up_to_done of links waits waits a number index is not (is.all not)

-- the function does not stand in its link
pub past_taken : (of : List FunctionRecord) (links : List Link) (was waits : Type 0) (a number index : ℕ) (link : Link)
    (r : FunctionRecord) → IsUpTo of links was a number index → was
    → made_at links number ≡ Some link → slice_get of link.function ≡ Some r → r.end ≤ index → (waits → ⊥) → HasTaken of links waits a number index
past_taken of links was waits a number index link r is w there of_is past not =
    let past_it : is_past (end_of is.chain) index ≡ true =
    ap (λ (e : Option ℕ). is_past e index) (innermost of links number is.chain link r is.are there of_is)
    ∙ le-leb r.end index past in
    up_to_done of links was waits a number index is not
    (sym (append-nil (reverse is.chain)) ∙ (ap (λ (fs : List FunctionRecord). reverse is.chain ++ fs)
    (sym (past_all (256 - length is.chain) a (end_of is.chain) index (drop index of) past_it)) ∙ is.more w))

-- it gets the link of the function in its own
module _ (of : List FunctionRecord) (functions now : List Function) (old new : List Link) (before last : ℕ)
    (was waits : Type 0) (a outer number index : ℕ) (f : FunctionRecord)
    (there : slice_get of index ≡ Some f) (has : in_ranges a f.ranges ≡ true) (is : IsUpTo of old was a outer index)
    (w : was) (was_made : AreMade functions old before) (made : AreMade now new last)
    (kept : AreKept old new) (within : outer ≤ length old) (link : IsLinkIn new outer index number)
    (inside : is_past (end_of is.chain) index ≡ false) (few : count_at old outer < 256)
    (full : (waits → ⊥) → count_at new number ≡ 256) where
  few_before : length is.chain < 256
  few_before = let n = count_of_chain of functions old before outer is.chain was_made is.are in omega (arith, n, few)

  left_here : functions_after (256 - length is.chain) a (end_of is.chain) index (drop index of) ≡ f
      ∷ functions_after (256 - suc (length is.chain)) a (Some f.end) (index + 1) (drop (index + 1) of)
  left_here =
      let room : 256 - length is.chain ≡ suc (256 - suc (length is.chain)) = let n = few_before in omega (arith, n) in
      ap (λ (fs : List FunctionRecord). functions_after (256 - length is.chain) a (end_of is.chain) index fs) (drop_function of index f there)
      ∙ (ap (λ n. functions_after n a (end_of is.chain) index (f ∷ drop (index + 1) of)) room
      ∙ after_here (256 - suc (length is.chain)) a (end_of is.chain) index f (drop (index + 1) of) inside has)

  whole : reverse (f ∷ is.chain) ++ functions_after (256 - suc (length is.chain)) a (Some f.end) (index + 1) (drop (index + 1) of) ≡ chain_in of a
  whole =
      let rest = functions_after (256 - suc (length is.chain)) a (Some f.end) (index + 1) (drop (index + 1) of) in
      ap (λ (fs : List FunctionRecord). fs ++ rest) (reverse-cons f is.chain)
      ∙ (append_assoc (reverse is.chain) (f ∷ []) rest ∙ (ap (λ (fs : List FunctionRecord). reverse is.chain ++ fs) (sym left_here) ∙ is.more w))

  are_more : AreFunctionsOfLink of new number (f ∷ is.chain)
  are_more = (
    link.link,
    link.there,
    (made_is now new last number link.link made link.there).0,
    ap (λ n. slice_get of n) link.function ∙ there,
    subst (λ n. AreFunctionsOfLink of new n is.chain) (sym link.is_in) (functions_kept of old new outer is.chain kept is.are),
  )

  count_more : count_at new number ≡ suc (length is.chain)
  count_more = count_of_chain of now new last number (f ∷ is.chain) made are_more

  pub extended : HasTaken of new waits a number index
  extended = record {
    up_to = record {
      chain = f ∷ is.chain;
      are = are_more;
      before = λ l at.
          let same : link.link ≡ l = same_Some link.link l (sym link.there ∙ at) in
          let now : l.function ≡ index = subst (λ (m : Link). m.function ≡ index) same link.function in omega (arith, now);
      more = λ now. whole;
      all = λ not.
          let c = full not in let n = count_more in
          let none : 256 - suc (length is.chain) ≡ 0 = omega (arith, c, n) in
          sym (append-nil (reverse (f ∷ is.chain)))
          ∙ (ap (λ (fs : List FunctionRecord). reverse (f ∷ is.chain) ++ fs)
          (sym (ap (λ n. functions_after n a (Some f.end) (index + 1) (drop (index + 1) of)) none
          ∙ after_zero a (Some f.end) (index + 1) (drop (index + 1) of))) ∙ whole);
    };
    last = λ now. (link.link, link.there, link.function);
  }

-- the outermost one
pub inside_none : (of : List FunctionRecord) (links : List Link) (waits : Type 0) (a number index : ℕ)
    (is : IsUpTo of links waits a number index) → number ≡ 0 → is_past (end_of is.chain) index ≡ false
inside_none of links waits a number index is none = ap (λ (e : Option ℕ). is_past e index) (no_innermost of links number is.chain is.are none)

pub inside_link : (of : List FunctionRecord) (links : List Link) (waits : Type 0) (a number index : ℕ) (link : Link)
    (r : FunctionRecord) (is : IsUpTo of links waits a number index) → made_at links number ≡ Some link
    → slice_get of link.function ≡ Some r → index < r.end → is_past (end_of is.chain) index ≡ false
inside_link of links waits a number index link r is there of_is inside =
    ap (λ (e : Option ℕ). is_past e index) (innermost of links number is.chain link r is.are there of_is) ∙ lt-leb r.end index inside

-- before all functions
pub up_to_first : (of : List FunctionRecord) (links : List Link) (waits : Type 0) (a number : ℕ) → number ≡ 0 → waits → IsUpTo of links waits a number 0
up_to_first of links waits a number none w = record {
  chain = [];
  are = none;
  before = λ link there. absurd (none-some link (subst (λ n. made_at links n ≡ Some link) none there));
  more = λ still. refl;
  all = λ not. absurd (not w);
}

-- ---- safety

pub few_still : (old new : List Link) (numbers : List ℕ) (at number i : ℕ) → AreKept old new → (i ≡ at → ⊥)
    → get_or numbers i 0 ≤ length old → count_at old (get_or numbers i 0) < 256
    → count_at new (get_or (set numbers at number) i 0) < 256
few_still old new numbers at number i kept not within few =
    let same = get_or-set_other numbers at i number 0 not in
    let count = count_kept old new (get_or numbers i 0) kept within in
    subst (λ n. count_at new n < 256) (sym same) (omega (arith, count, few))

pub within_still : (old new : List Link) (numbers : List ℕ) (at outer index number i : ℕ) → AreKept old new
    → IsLinkIn new outer index number → at < length numbers → get_or numbers i 0 ≤ length old
    → get_or (set numbers at number) i 0 ≤ length new
within_still old new numbers at outer index number i kept link inside within = elim (cases_eq i at) [
  | inl same ↦
      let now : get_or (set numbers at number) i 0 ≡ number = ap (λ n. get_or (set numbers at number) n 0) same ∙ get_or-set_same numbers at number 0 inside in
      let w = within_made new number link.link link.there in omega (arith, now, w)
  | inr not ↦ let now = get_or-set_other numbers at i number 0 not in let k = kept.count in omega (arith, now, k, within)
]
