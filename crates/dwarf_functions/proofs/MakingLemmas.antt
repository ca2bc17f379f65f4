-- Links that are added one after another.
use Rattle.std.proofs.Common.{◌≡◌, ◌≢◌, ℕ, zero, suc, ◌+◌, ◌-◌, ◌<◌, ◌≤◌, ◌⊎◌, List, [], ◌∷◌, ◌++◌, length, set, get_or}
use Rattle.std.proofs.Common.{slice_get, Option, Some, refl, sym, ap, subst, ◌∙◌, inl, inr, arith}
use Rattle.std.specs.Option.{option_map_or}
use Rattle.std.proofs.lemmas.Bool.{cases_eq}
use Rattle.std.proofs.lemmas.List.{length-set, length_push}
use Rattle.std.proofs.lemmas.Option.{none-some, same_Some, slice_get-get_or, slice_get_within}
use Rattle.dwarf_functions.specs.Making.{AreKept, AreMade, IsChild, IsLinkIn, IsMadeLink, caller_of, child_at, count_at, made_at}
use Rattle.dwarf_functions.specs.declared.links.Link.{Link}
use Rattle.dwarf_functions.specs.declared.functions.Function.{Function}
use Rattle.dwarf_functions.proofs.OpenLemmas.{at_push as get_last}

-- ---- elements of lists

get_left : {A : Type 0} (xs ys : List A) (i : ℕ) (x : A) → slice_get xs i ≡ Some x → slice_get (xs ++ ys) i ≡ Some x
get_left [] ys i x e = absurd (none-some x e)
get_left (y ∷ xs) ys zero x e = e
get_left (y ∷ xs) ys (suc i) x e = get_left xs ys i x e

from_pushed : {A : Type 0} (xs : List A) (x : A) (i : ℕ) (y : A) → slice_get (xs ++ x ∷ []) i ≡ Some y → (slice_get xs i ≡ Some y) ⊎ ((i ≡ length xs) × (y ≡ x))
from_pushed [] x zero y e = inr (refl, same_Some y x (sym e))
from_pushed [] x (suc i) y e = absurd (none-some y e)
from_pushed (z ∷ xs) x zero y e = inl e
from_pushed (z ∷ xs) x (suc i) y e = elim (from_pushed xs x i y e) [
  | inl before ↦ inl before
  | inr at ↦ inr (ap suc at.0, at.1)
]

get_set : {A : Type 0} (xs : List A) (i : ℕ) (x y : A) → slice_get xs i ≡ Some x → slice_get (set xs i y) i ≡ Some y
get_set [] i x y e = absurd (none-some x e)
get_set (z ∷ xs) zero x y e = refl
get_set (z ∷ xs) (suc i) x y e = get_set xs i x y e

get_other : {A : Type 0} (xs : List A) (i j : ℕ) (y : A) → (j ≡ i → ⊥) → slice_get (set xs i y) j ≡ slice_get xs j
get_other [] i j y not = refl
get_other (z ∷ xs) zero zero y not = absurd (not refl)
get_other (z ∷ xs) zero (suc j) y not = refl
get_other (z ∷ xs) (suc i) zero y not = refl
get_other (z ∷ xs) (suc i) (suc j) y not = get_other xs i j y (λ e. not (ap suc e))

pub get_there : {A : Type 0} (xs : List A) (i : ℕ) → i < length xs → (x : A) × (slice_get xs i ≡ Some x)
get_there [] i within = absurd (omega (arith, within))
get_there (x ∷ xs) zero within = (x, refl)
get_there (x ∷ xs) (suc i) within = get_there xs i (omega (arith, within))

-- ---- links that are kept

pub kept_refl : (links : List Link) → AreKept links links
kept_refl links = record { count = omega arith; each = λ i link is. (link.child, is) }

pub kept_trans : (a b c : List Link) → AreKept a b → AreKept b c → AreKept a c
kept_trans a b c first second = record {
  count = let f = first.count in let s = second.count in omega (arith, f, s);
  each = λ i link is. let f = first.each i link is in second.each i (record link { child = f.0 }) f.1;
}

kept_pushed : (old : List Link) (link : Link) → AreKept old (old ++ link ∷ [])
kept_pushed old link = record {
  count = let n = length_push old link in omega (arith, n);
  each = λ i l is. (l.child, get_left old (link ∷ []) i l is);
}

pub kept_child : (links : List Link) (i child : ℕ) (link : Link) → slice_get links i ≡ Some link → AreKept links (set links i (record link { child = child }))
kept_child links i child link is = record {
  count = let n = length-set links i (record link { child = child }) in omega (arith, n);
  each = λ j l there. elim (cases_eq j i) [
    | inl same ↦
        let l_is : l ≡ link = same_Some l link (sym there ∙ (ap (λ n. slice_get links n) same ∙ is)) in (
          child,
          subst (λ n. slice_get (set links i (record link { child = child })) n ≡ Some (record l { child = child })) (sym same)
              (get_set links i link (record link { child = child }) is ∙ ap (λ (m : Link). Some (record m { child = child })) (sym l_is)),
        )
    | inr not ↦ (l.child, get_other links i j (record link { child = child }) not ∙ there)
  ];
}

pub within_made : (links : List Link) (number : ℕ) (link : Link) → made_at links number ≡ Some link → number ≤ length links
within_made links zero link is = omega arith
within_made links (suc i) link is = let w = slice_get_within links i link is in omega (arith, w)

pub made_kept : (old new : List Link) (number : ℕ) (link : Link) → AreKept old new → made_at old number ≡ Some link
    → (child : ℕ) × (made_at new number ≡ Some (record link { child = child }))
made_kept old new zero link kept is = absurd (none-some link is)
made_kept old new (suc i) link kept is = kept.each i link is

pub count_of_made : (links : List Link) (number : ℕ) (link : Link) → made_at links number ≡ Some link → count_at links number ≡ link.count
count_of_made links number link is = ap (λ (l : Option Link). option_map_or (λ l. l.count) l 0) is

pub count_kept : (old new : List Link) (number : ℕ) → AreKept old new → number ≤ length old → count_at new number ≡ count_at old number
count_kept old new zero kept within = refl
count_kept old new (suc i) kept within =
    let there = get_there old i (omega (arith, within)) in
    let now = kept.each i there.0 there.1 in
    count_of_made new (suc i) (record there.0 { child = now.0 }) now.1 ∙ sym (count_of_made old (suc i) there.0 there.1)

child_kept : (old new : List Link) (outer number : ℕ) → AreKept old new → IsChild old outer number → IsChild new outer number
child_kept old new outer zero kept is = tt
child_kept old new outer (suc i) kept is = let now = kept.each i is.0 is.1 in (record is.0 { child = now.0 }, now.1, is.2)

pub link_kept : (old new : List Link) (outer index number : ℕ) → AreKept old new → IsLinkIn old outer index number → IsLinkIn new outer index number
link_kept old new outer index number kept is =
    let now = made_kept old new number is.link kept is.there
    in record { link = record is.link { child = now.0 }; there = now.1; is_in = is.is_in; function = is.function }

-- a link that is made stays so, with any last one that stands in it
is_made_kept : (functions : List Function) (old new : List Link) (i child : ℕ) (link : Link) → AreKept old new
    → i ≤ length old → IsMadeLink functions old i link → IsChild new (suc i) child
    → IsMadeLink functions new i (record link { child = child })
is_made_kept functions old new i child link kept within made last = record {
  before = made.before;
  of = made.of;
  there = made.there;
  name = made.name;
  name_number = made.name_number;
  call = made.call;
  caller = made.caller;
  count = made.count ∙ ap suc (sym (count_kept old new link.outer kept (let c = made.before in omega (arith, c, within))));
  child = last;
}

-- ---- a link more

pub record IsPushed (functions : List Function) (old new : List Link) (last outer index number : ℕ) : Type 0 where
  pub made : AreMade functions old last
  pub within : outer ≤ length old
  pub of : Function
  pub there : slice_get functions index ≡ Some of
  pub link : Link
  pub is : new ≡ old ++ link ∷ []
  pub is_in : link.outer ≡ outer
  pub function : link.function ≡ index
  pub name : link.name ≡ of.name
  pub name_number : link.name_number ≡ of.name_number
  pub call : link.call ≡ of.call
  pub caller : link.caller ≡ caller_of of link.outer
  pub count : link.count ≡ suc (count_at old outer)
  pub child : link.child ≡ 0
  pub is_number : number ≡ length new

module _ (functions : List Function) (old new : List Link) (last outer index number : ℕ) (p : IsPushed functions old new last outer index number) where
  pub pushed_kept : AreKept old new
  pushed_kept = subst (λ (links : List Link). AreKept old links) (sym p.is) (kept_pushed old p.link)

  last_there : slice_get new (length old) ≡ Some p.link
  last_there = ap (λ (links : List Link). slice_get links (length old)) p.is ∙ get_last old p.link

  number_is : number ≡ suc (length old)
  number_is = let n = ap (λ (links : List Link). length links) p.is in let m = length_push old p.link in let q = p.is_number in omega (arith, n, m, q)

  pub pushed_link : IsLinkIn new outer index number
  pushed_link = record { link = p.link; there = subst (λ n. made_at new n ≡ Some p.link) (sym number_is) last_there; is_in = p.is_in; function = p.function }

  pub pushed_child : IsChild new outer number
  pushed_child = subst (λ n. IsChild new outer n) (sym number_is) (p.link, last_there, p.is_in)

  old_made : (i : ℕ) (l : Link) → slice_get old i ≡ Some l → IsMadeLink functions new i l
  old_made i l is =
      let m = p.made.each i l is in is_made_kept functions old new i l.child l pushed_kept
      (let w = slice_get_within old i l is in omega (arith, w)) m
      (child_kept old new (suc i) l.child pushed_kept m.child)

  new_made : IsMadeLink functions new (length old) p.link
  new_made = record {
    before = let c = p.is_in in let w = p.within in omega (arith, c, w);
    of = p.of;
    there = ap (λ n. slice_get functions n) p.function ∙ p.there;
    name = p.name;
    name_number = p.name_number;
    call = p.call;
    caller = p.caller;
    count = p.count ∙ ap suc (sym (count_kept old new outer pushed_kept p.within) ∙ ap (λ n. count_at new n) (sym p.is_in));
    child = subst (λ n. IsChild new (suc (length old)) n) (sym p.child) tt;
  }

  pub pushed_made : AreMade functions new last
  pushed_made = record {
    each = λ i l is. elim (from_pushed old p.link i l (ap (λ (links : List Link). slice_get links i) (sym p.is) ∙ is)) [
      | inl before ↦ old_made i l before
      | inr at ↦ subst (λ n. IsMadeLink functions new n l) (sym at.0) (subst (λ (m : Link). IsMadeLink functions new (length old) m) (sym at.1) new_made)
    ];
    outermost = child_kept old new 0 last pushed_kept p.made.outermost;
  }

pub with_child : (functions : List Function) (links : List Link) (last i child : ℕ) (link : Link)
    → AreMade functions links last → slice_get links i ≡ Some link → IsChild links (suc i) child
    → AreMade functions (set links i (record link { child = child })) last
with_child functions links last i child link made is of =
    let kept = kept_child links i child link is in
    let new = set links i (record link { child = child }) in
    record {
      each = λ j l there. elim (cases_eq j i) [
        | inl same ↦
            let l_is : l ≡ record link { child = child } =
            same_Some l (record link { child = child })
            (sym there ∙ (ap (λ n. slice_get new n) same ∙ get_set links i link (record link { child = child }) is))
            in
            subst (λ n. IsMadeLink functions new n l) (sym same) (subst (λ (m : Link). IsMadeLink functions new i m) (sym l_is)
            (is_made_kept functions links new i child link kept
            (let w = slice_get_within links i link is in omega (arith, w)) (made.each i link is)
            (child_kept links new (suc i) child kept of)))
        | inr not ↦
            let before : slice_get links j ≡ Some l = sym (get_other links i j (record link { child = child }) not) ∙ there in
            let m = made.each j l before in
            is_made_kept functions links new j l.child l kept
            (let w = slice_get_within links j l before in omega (arith, w)) m
            (child_kept links new (suc j) l.child kept m.child)
      ];
      outermost = child_kept links new 0 last kept made.outermost;
    }

-- ---- a link that is there

pub outermost_or_child : (functions : List Function) (links : List Link) (last outer : ℕ) → AreMade functions links last
    → outer ≤ length links → IsChild links outer (child_at links last outer)
outermost_or_child functions links last zero made within = made.outermost
outermost_or_child functions links last (suc i) made within =
    let there = get_there links i (omega (arith, within)) in
    subst (λ n. IsChild links (suc i) n) (sym (ap (λ (l : Option Link). option_map_or (λ l. l.child) l 0) there.1)) ((made.each i there.0 there.1).child)

pub child_link : (links : List Link) (outer index number : ℕ) (link : Link) → IsChild links outer number
    → made_at links number ≡ Some link → link.function ≡ index → IsLinkIn links outer index number
child_link links outer index zero link child is function = absurd (none-some link is)
child_link links outer index (suc i) link child is function =
    let same : child.0 ≡ link = same_Some child.0 link (sym child.1 ∙ is) in
    record { link = link; there = is; is_in = subst (λ (l : Link). l.outer ≡ outer) same child.2; function = function }

pub child_within : (links : List Link) (outer number : ℕ) → IsChild links outer number → number ≤ length links
child_within links outer zero child = omega arith
child_within links outer (suc i) child = let w = slice_get_within links i child.0 child.1 in omega (arith, w)

pub made_before : (links : List Link) (number : ℕ) (link : Link) → number ≢ 0 → slice_get links (number - 1) ≡ Some link → made_at links number ≡ Some link
made_before links zero link not is = absurd (not refl)
made_before links (suc i) link not is = let same : suc i - 1 ≡ i = omega arith in subst (λ n. slice_get links n ≡ Some link) same is

pub is_pushed : (functions : List Function) (old new : List Link) (last outer index number count : ℕ) (of : Function) (caller : ℕ)
    → AreMade functions old last → outer ≤ length old → index < length functions
    → of ≡ get_or functions index of → count ≡ count_at old outer → caller ≡ caller_of of outer
    → new ≡ old ++ record {
      name = of.name;
      name_number = of.name_number;
      call = of.call;
      caller = caller;
      outer = outer;
      function =
          index;
      child = 0;
      count = count + 1;
    } ∷ [] → number ≡ length new
    → IsPushed functions old new last outer index number
is_pushed functions old new last outer index number count of caller made within inside is_of is_count is_caller is is_number = record {
  made = made;
  within = within;
  of = of;
  there = slice_get-get_or functions index of inside ∙ ap Some (sym is_of);
  link = record {
    name = of.name;
    name_number = of.name_number;
    call = of.call;
    caller = caller;
    outer = outer;
    function = index;
    child = 0;
    count = count + 1;
  };
  is = is;
  is_in = refl;
  function = refl;
  name = refl;
  name_number = refl;
  call = refl;
  caller = is_caller;
  count = omega (arith, is_count);
  child = refl;
  is_number = is_number;
}

pub outermost_pushed : (functions : List Function) (old new : List Link) (last outer index number : ℕ)
    → IsPushed functions old new last outer index number → outer ≡ 0 → AreMade functions new number
outermost_pushed functions old new last outer index number p none = record {
  each = (pushed_made functions old new last outer index number p).each;
  outermost = subst (λ n. IsChild new n number) none (pushed_child functions old new last outer index number p);
}

-- the link that it stands in knows it
module _ (functions : List Function) (old new : List Link) (last outer index number : ℕ) (link : Link)
    (p : IsPushed functions old new last outer index number) (not : outer ≢ 0)
    (is : link ≡ get_or new (outer - 1) link) where
  outer_there : slice_get new (outer - 1) ≡ Some link
  outer_there =
      let k = (pushed_kept functions old new last outer index number p).count in let w = p.within in
      let some : 0 < outer = elim (cases_eq outer 0) [ inl e ↦ absurd (not e) | inr n ↦ omega (arith, n) ] in
      slice_get-get_or new (outer - 1) link (omega (arith, k, w, some)) ∙ ap Some (sym is)

  outer_is : suc (outer - 1) ≡ outer
  outer_is = elim (cases_eq outer 0) [ inl e ↦ absurd (not e) | inr n ↦ omega (arith, n) ]

  pub inner_kept : AreKept new (set new (outer - 1) (record link { child = number }))
  inner_kept = kept_child new (outer - 1) number link outer_there

  pub inner_made : AreMade functions (set new (outer - 1) (record link { child = number })) last
  inner_made = with_child functions new last (outer - 1) number link (pushed_made functions old new last outer index number p) outer_there
      (subst (λ n. IsChild new n number) (sym outer_is) (pushed_child functions old new last outer index number p))

  pub inner_link : IsLinkIn (set new (outer - 1) (record link { child = number })) outer index number
  inner_link = link_kept new (set new (outer - 1) (record link { child = number })) outer index number inner_kept
      (pushed_link functions old new last outer index number p)

  pub inner_kept_all : AreKept old (set new (outer - 1) (record link { child = number }))
  inner_kept_all = kept_trans old new (set new (outer - 1) (record link { child = number }))
      (pushed_kept functions old new last outer index number p) inner_kept

some_before : (n : ℕ) → n ≢ 0 → 0 < n
some_before zero not = absurd (not refl)
some_before (suc n) not = omega arith

pub found_within : (functions : List Function) (links : List Link) (last outer child : ℕ) → AreMade functions links last
    → outer ≤ length links → child ≡ child_at links last outer → child ≢ 0 → child - 1 < length links
found_within functions links last outer child made within is not =
    let w = child_within links outer child (subst (λ n. IsChild links outer n) (sym is) (outermost_or_child functions links last outer made within)) in
    let s = some_before child not in omega (arith, w, s)

pub found_link : (functions : List Function) (links : List Link) (last outer index child : ℕ) (link : Link)
    → AreMade functions links last → outer ≤ length links → child ≡ child_at links last outer → child ≢ 0
    → link ≡ get_or links (child - 1) link → link.function ≡ index → IsLinkIn links outer index child
found_link functions links last outer index child link made within is not at function =
    child_link links outer index child link (subst (λ n. IsChild links outer n) (sym is) (outermost_or_child functions links last outer made within))
    (made_before links child link not (slice_get-get_or links (child - 1) link
    (found_within functions links last outer child made within is not) ∙ ap Some (sym at))) function

pub made_read : (links : List Link) (number : ℕ) (link : Link) → number ≢ 0 → number ≤ length links → link
    ≡ get_or links (number - 1) link → made_at links number ≡ Some link
made_read links number link not within is =
    made_before links number link not (slice_get-get_or links (number - 1) link (let s = some_before number not in omega (arith, within, s)) ∙ ap Some (sym is))

pub function_of : (functions : List Function) (links : List Link) (last number : ℕ) (link : Link)
    → AreMade functions links last → made_at links number ≡ Some link → (f : Function)
    × (slice_get functions link.function ≡ Some f)
function_of functions links last zero link made is = absurd (none-some link is)
function_of functions links last (suc i) link made is = let m = made.each i link is in (m.of, m.there)
