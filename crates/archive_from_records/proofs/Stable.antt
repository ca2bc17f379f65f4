-- A stable order of what is made of elements is that of the elements.
use Rattle.std.proofs.Common.{◌≡◌, Bool, true, false, not, ◌&&◌, cond, List, [], ◌∷◌, ◌++◌, map, filter, refl, sym, ap, ◌∙◌, arith}
use Rattle.std.specs.Cmp.{IsStrictWeakOrder}
use Rattle.std.specs.List.Sorted.{IsPermutation, IsStableBy, ties}
use Rattle.std.proofs.lemmas.List.Elements.{filter-append}
use Rattle.std.proofs.lemmas.List.Sorted.{IsPermutation-refl, IsPermutation-cons, IsPermutation-trans, IsPermutation-middle}
use Rattle.archive_core.proofs.Members.{filter_map_swap}

-- elements in the order of what is made of them, those that pass a test as they stood
pub record Lifted {P X : Type 0} (f : P → X) (at : X → P → Bool) (ps : List P) (ys : List X) : Type 0 where
  pub told : List P
  pub are : ys ≡ map f told
  pub stable : (x : X) → filter (at x) told ≡ filter (at x) ps
  pub moved : IsPermutation ps told

module _ {P X : Type 0} (f : P → X) (same : X → X → Bool) (itself : (x : X) → same x x ≡ true)
    (alike : (x y : X) → same x y ≡ true → (z : X) → same x z ≡ same y z) where
  abbrev at : X → P → Bool
  at x p = same x (f p)

  -- the first of the elements that are made the same as this one
  record Split (y : X) (ps : List P) (zs : List X) : Type 0 where
    before : List P
    here : P
    after : List P
    whole : ps ≡ before ++ here ∷ after
    is : f here ≡ y
    none : filter (at y) before ≡ []
    rest : zs ≡ map f (filter (at y) after)

  split_by : (y : X) (p : P) (ps : List P) (zs : List X) (b : Bool) → at y p ≡ b → (y ∷ zs ≡ map f (filter (at y) ps) → Split y ps zs)
      → y ∷ zs ≡ map f (cond b (p ∷ filter (at y) ps) (filter (at y) ps)) → Split y (p ∷ ps) zs
  split_by y p ps zs true h rest e = record { before = []; here = p; after = ps; whole = refl; is = cc; none = refl; rest = cc }
  split_by y p ps zs false h rest e =
      let s = rest e in
      record {
        before = p ∷ s.before;
        here = s.here;
        after = s.after;
        whole = ap (λ (qs : List P). p ∷ qs) s.whole;
        is = s.is;
        none = rw h s.none;
        rest = s.rest;
      }

  split : (y : X) (ps : List P) (zs : List X) → y ∷ zs ≡ map f (filter (at y) ps) → Split y ps zs
  split y [] zs e = absurd cc
  split y (p ∷ ps) zs e = split_by y p ps zs (at y p) refl (split y ps zs) e

  module _ (y : X) (ys : List X) (ps : List P) (h : (x : X) → filter (same x) (y ∷ ys) ≡ map f (filter (at x) ps)) (s : Split y ps (filter (same y) ys)) where
    around : (x : X) → filter (at x) ps ≡ filter (at x) s.before ++ cond (at x s.here) (s.here ∷ filter (at x) s.after) (filter (at x) s.after)
    around x = ap (filter (at x)) s.whole ∙ filter-append (at x) s.before (s.here ∷ s.after)

    none_before : (x : X) → same x y ≡ true → filter (at x) s.before ≡ []
    none_before x e = (λ i. filter (λ p. alike x y e (f p) i) s.before) ∙ s.none

    without : (x : X) → filter (same x) ys ≡ map f (filter (at x) (s.before ++ s.after))
    without x = by (same x y) refl
      where
        here : at x s.here ≡ same x y
        here = ap (same x) s.is

        by : (b : Bool) → same x y ≡ b → filter (same x) ys ≡ map f (filter (at x) (s.before ++ s.after))
        by true e =
            let all = rw (around x, none_before x e, here, e) at (h x) in
            rw (filter-append (at x) s.before s.after, none_before x e) (cc all)
        by false e = rw (filter-append (at x) s.before s.after) (rw (around x, here, e) at (h x))

    with_it : (told : List P) (x : X) → filter (at x) told ≡ filter (at x) (s.before ++ s.after) → filter (at x) (s.here ∷ told) ≡ filter (at x) ps
    with_it told x e = by (at x s.here) refl
      where
        by : (b : Bool) → at x s.here ≡ b → filter (at x) (s.here ∷ told) ≡ filter (at x) ps
        by true b = rw (around x, b, e, filter-append (at x) s.before s.after, none_before x (sym (ap (same x) s.is) ∙ b)) refl
        by false b = rw (around x, b, e, filter-append (at x) s.before s.after) refl

    moved_with : (told : List P) → IsPermutation (s.before ++ s.after) told → IsPermutation ps (s.here ∷ told)
    moved_with told e = rw s.whole
        (IsPermutation-trans (s.before ++ s.here ∷ s.after) (s.here ∷ (s.before ++ s.after)) (s.here ∷ told)
        (IsPermutation-middle s.before s.here s.after) (IsPermutation-cons s.here (s.before ++ s.after) told e))

    grown : Lifted f at (s.before ++ s.after) ys → Lifted f at ps (y ∷ ys)
    grown l = record {
      told = s.here ∷ l.told;
      are = (λ i. sym s.is i ∷ l.are i);
      stable = λ x. with_it l.told x (l.stable x);
      moved = moved_with l.told l.moved;
    }

  lift : (ys : List X) (ps : List P) → ((x : X) → filter (same x) ys ≡ map f (filter (at x) ps)) → Lifted f at ps ys
  lift [] [] h = record { told = []; are = refl; stable = λ x. refl; moved = IsPermutation-refl [] }
  lift [] (p ∷ ps) h = absurd (cc (rw (itself (f p)) at (h (f p))))
  lift (y ∷ ys) ps h =
      let s = split y ps (filter (same y) ys) (rw (itself y) at (h y)) in
      grown y ys ps h s (lift ys (s.before ++ s.after) (without y ys ps h s))

module _ {X : Type 0} (lt : X → X → Bool) (o : IsStrictWeakOrder lt) where
  not_both : (b : Bool) → (b ≡ true → b ≡ false) → (not b && not b) ≡ true
  not_both b h = grind arith

  tied : (x : X) → ties lt x x ≡ true
  tied x = not_both (lt x x) (o.one_way x x)

  neither : (a b : Bool) → (not a && not b) ≡ true → (a ≡ false) × (b ≡ false)
  neither a b h = grind arith

  one_test : (a b : Bool) → (a ≡ false → b ≡ false) → (b ≡ false → a ≡ false) → a ≡ b
  one_test a b f g = grind arith

  tied_alike : (x y : X) → ties lt x y ≡ true → (z : X) → ties lt x z ≡ ties lt y z
  tied_alike x y h z =
      let n = neither (lt x y) (lt y x) h in
      let below : lt x z ≡ lt y z = one_test (lt x z) (lt y z) (λ e. o.chain y x z n.1 e) (λ e. o.chain x y z n.0 e) in
      let above : lt z x ≡ lt z y = one_test (lt z x) (lt z y) (λ e. o.chain z x y e n.0) (λ e. o.chain z y x e n.1) in
      λ i. not (below i) && not (above i)

  -- what is made of elements was put in a stable order, and so the elements can be
  pub lifted : {P : Type 0} (f : P → X) (ps : List P) (ys : List X) → IsStableBy lt (map f ps) ys → Lifted f (λ x p. ties lt x (f p)) ps ys
  lifted f ps ys stable = lift f (ties lt) tied tied_alike ys ps (λ x. stable x ∙ filter_map_swap (ties lt x) f ps)
