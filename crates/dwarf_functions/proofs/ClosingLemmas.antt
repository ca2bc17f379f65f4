-- Functions are closed one after another.
use Rattle.std.proofs.Common.{◌≡◌, ◌≢◌, ℕ, zero, suc, ◌+◌, ◌-◌, ◌<◌, ◌≤◌, ◌==◌, true, false, List, [], ◌∷◌, length, set}
use Rattle.std.proofs.Common.{get_or, drop, take, Option, Some, None, slice_get, refl, sym, ap, ◌∙◌, inl, inr, arith}
use Rattle.std.proofs.Common.{eq-eqb}
use Rattle.std.specs.Option.{option_map}
use Rattle.std.specs.List.{list_any, All}
use Rattle.std.proofs.lemmas.Bool.{cases_eq, cases_Bool, ne_eqb}
use Rattle.std.proofs.lemmas.List.{drop_more, drop_all, get_or-take, get_or_read, length-take-le, length-set, take-append-drop}
use Rattle.std.proofs.lemmas.List.Elements.{All-cons, All-nil}
use Rattle.std.proofs.lemmas.Option.{slice_get-get_or}
use Rattle.dwarf_functions.specs.OpenFunctions.{AreAmong, Closes, closed_at}
use Rattle.dwarf_functions.specs.declared.functions.Function.{Function}
use Rattle.dwarf_functions.specs.declared.functions.Open.{Open}

-- an element after a write
set_here : {X : Type 0} (xs : List X) (i : ℕ) (x : X) → i < length xs → slice_get (set xs i x) i ≡ Some x
set_here [] i x h = absurd (omega arith)
set_here (y ∷ ys) zero x h = refl
set_here (y ∷ ys) (suc i) x h = set_here ys i x (omega arith)

set_elsewhere : {X : Type 0} (xs : List X) (i j : ℕ) (x : X) → j ≢ i → slice_get (set xs i x) j ≡ slice_get xs j
set_elsewhere [] i j x h = refl
set_elsewhere (y ∷ ys) zero zero x h = absurd (h refl)
set_elsewhere (y ∷ ys) zero (suc j) x h = refl
set_elsewhere (y ∷ ys) (suc i) zero x h = refl
set_elsewhere (y ∷ ys) (suc i) (suc j) x h = set_elsewhere ys i j x (λ e. h (ap suc e))

-- whether a function is closed is told by its index
closed_here : (end : ℕ) (o : Open) (closed : List Open) (i : ℕ) (f : Function) → i ≡ o.index → closed_at end (o ∷ closed) i f ≡ record f { end = end }
closed_here end o closed i f e = rw (eq-eqb o.index i (sym e)) refl

closed_elsewhere : (end : ℕ) (o : Open) (closed : List Open) (i : ℕ) (f : Function) → i ≢ o.index → closed_at end (o ∷ closed) i f ≡ closed_at end closed i f
closed_elsewhere end o closed i f e = rw (ne_eqb o.index i (λ same. e (sym same))) refl

-- it has no other end
closed_again : (end : ℕ) (closed : List Open) (i : ℕ) (f : Function)
    → ◌≡◌ {A = Function} (record (closed_at end closed i f) { end = end }) (record f { end = end })
closed_again end closed i f = elim (cases_Bool (list_any (λ (o : Open). o.index == i) closed)) [
  | inl t ↦ rw t refl
  | inr n ↦ rw n refl
]

-- the functions after some were closed
abbrev pub AreClosed : ℕ → List Open → List Function → List Function → Type 0
AreClosed end closed before after = (i : ℕ) → slice_get after i ≡ option_map (closed_at end closed i) (slice_get before i)

same_map : (o : Option Function) → o ≡ option_map (λ f. f) o
same_map None = refl
same_map (Some f) = refl

pub closed_none : (end : ℕ) (fs : List Function) → AreClosed end [] fs fs
closed_none end fs i = same_map (slice_get fs i)

one_here : (end : ℕ) (o : Open) (closed : List Open) (i : ℕ) (b : Option Function) (g : Function) → i ≡ o.index → Some g ≡ option_map (closed_at end closed i) b
    → ◌≡◌ {A = Option Function} (Some (record g { end = end })) (option_map (closed_at end (o ∷ closed) i) b)
one_here end o closed i None g e h = cc
one_here end o closed i (Some f) g e h =
    let same : g ≡ closed_at end closed i f = cc in
    let again : ◌≡◌ {A = Function} (record g { end = end }) (record f { end = end }) =
    ap (λ (x : Function). record x { end = end }) same ∙ closed_again end closed i f in
    ap Some (again ∙ sym (closed_here end o closed i f e))

one_elsewhere : (end : ℕ) (o : Open) (closed : List Open) (i : ℕ) (b : Option Function) → i ≢ o.index
    → option_map (closed_at end closed i) b ≡ option_map (closed_at end (o ∷ closed) i) b
one_elsewhere end o closed i None e = refl
one_elsewhere end o closed i (Some f) e = ap Some (sym (closed_elsewhere end o closed i f e))

pub closed_more : (end : ℕ) (o : Open) (closed : List Open) (before now after : List Function) (d : Function)
    → o.index < length now → after ≡ set now o.index (record (get_or now o.index d) { end = end })
    → AreClosed end closed before now → AreClosed end (o ∷ closed) before after
closed_more end o closed before now after d within wrote h i = elim (cases_eq i o.index) [
  | inl same ↦
      let v : Function = record (get_or now o.index d) { end = end } in
      let here : slice_get after i ≡ Some v = rw (wrote, same) (set_here now o.index v within) in
      let was : Some (get_or now o.index d) ≡ option_map (closed_at end closed i) (slice_get before i) =
      sym (slice_get-get_or now o.index d within) ∙ ap (slice_get now) (sym same) ∙ h i in
      here ∙ one_here end o closed i (slice_get before i) (get_or now o.index d) same was
  | inr other ↦
      let v : Function = record (get_or now o.index d) { end = end } in
      let there : slice_get after i ≡ slice_get now i = rw wrote (set_elsewhere now o.index i v other) in
      there ∙ h i ∙ one_elsewhere end o closed i (slice_get before i) other
]

-- the open functions from an index on are closed
pub record AreClosedFrom (depth left : ℕ) (opened : List Open) (before after : List Function) : Type 0 where
  pub within : left ≤ length opened
  pub count : length after ≡ length before
  pub deep : All (λ o. depth ≤ o.depth) (drop left opened)
  pub closed : AreClosed (length before) (drop left opened) before after

pub closed_from_end : (depth left : ℕ) (opened : List Open) (before : List Function) → left ≡ length opened → AreClosedFrom depth left opened before before
closed_from_end depth left opened before all =
    let none : drop left opened ≡ [] = drop_all left opened (omega arith) in
    record {
      within = omega arith;
      count = refl;
      deep = rw none (All-nil (λ (o : Open). depth ≤ o.depth));
      closed = rw none (closed_none (length before) before);
    }

pub closed_from_next : (depth left : ℕ) (opened : List Open) (before now : List Function) (p o : Open) (f : Function)
    (end : ℕ) → 0 < left → AreAmong (length before) opened → p ≡ get_or opened (left - 1) p → depth ≤ p.depth → o
    ≡ get_or opened (left - 1) o → f ≡ get_or now o.index f → end ≡ length before
    → AreClosedFrom depth left opened before now → AreClosedFrom depth (left - 1) opened before (set now o.index (record f { end = end }))
closed_from_next depth left opened before now p o f end some among read_p deep_p is read all_end so =
    let same : p ≡ o = get_or_read opened (left - 1) p (omega (arith, so.within)) read_p o ∙ sym is in
    let deep : depth ≤ o.depth = rw same at deep_p in
    let here : get_or opened (left - 1) o ≡ o = sym is in
    let next : left - 1 + 1 ≡ left = omega arith in
    let rest : drop (left - 1) opened ≡ o ∷ drop left opened = drop_more opened (left - 1) o (omega (arith, so.within))
    ∙ ap (λ (x : Open). x ∷ drop (left - 1 + 1) opened) here ∙ ap (λ n. o ∷ drop n opened) next in
    let own : o.index < length before = rw here at (among (left - 1) o (omega (arith, so.within))) in
    let wrote : set now o.index (record f { end = end }) ≡ set now o.index (record (get_or now o.index f) { end = length before }) =
    ap (λ (n : ℕ). set now o.index (record f { end = n })) all_end ∙ ap (λ (g : Function). set now o.index (record g { end = length before })) read in
    record {
      within = omega (arith, so.within);
      count = length-set now o.index (record f { end = end }) ∙ so.count;
      deep = rw rest (All-cons (λ (x : Open). depth ≤ x.depth) o (drop left opened) deep so.deep);
      closed = rw rest (closed_more (length before) o (drop left opened) before now
          (set now o.index (record f { end = end })) f (omega (arith, so.count)) wrote so.closed);
    }

pub closes_shallow : (depth left : ℕ) (opened now_open : List Open) (before after : List Function) (o : Open) → now_open
    ≡ take left opened → 0 < left → o ≡ get_or opened (left - 1) o → o.depth < depth
    → AreClosedFrom depth left opened before after → Closes depth opened now_open before after
closes_shallow depth left opened now_open before after o e some is less so =
    let length_is : length now_open ≡ left = rw e (length-take-le left opened so.within) in
    let same : get_or now_open (left - 1) o ≡ o = rw e (get_or-take left opened (left - 1) o (omega arith)) ∙ sym is in
    let at : slice_get now_open (length now_open - 1) ≡ Some o = rw length_is (slice_get-get_or now_open (left - 1) o (omega arith) ∙ ap Some same) in
    record {
      closed = drop left opened;
      open_are = rw e (sym (take-append-drop left opened));
      deep = so.deep;
      shallow = rw at less;
      count = so.count;
      each = so.closed;
    }

pub closes_all : (depth left : ℕ) (opened now_open : List Open) (before after : List Function) → now_open
    ≡ take left opened → left ≡ 0 → AreClosedFrom depth left opened before after
    → Closes depth opened now_open before after
closes_all depth left opened now_open before after e none so =
    let empty : now_open ≡ [] = e ∙ ap (λ n. take n opened) none in
    record {
      closed = drop left opened;
      open_are = rw e (sym (take-append-drop left opened));
      deep = so.deep;
      shallow = rw empty tt;
      count = so.count;
      each = so.closed;
    }

-- what a closed function was
pub record WasOpen (end : ℕ) (closed : List Open) (before : List Function) (i : ℕ) (g : Function) : Type 0 where
  pub f : Function
  pub at : slice_get before i ≡ Some f
  pub is : g ≡ closed_at end closed i f

was_one : (end : ℕ) (closed : List Open) (i : ℕ) (before : List Function) (b : Option Function) (g : Function)
    → slice_get before i ≡ b → Some g ≡ option_map (closed_at end closed i) b → WasOpen end closed before i g
was_one end closed i before None g at h = absurd cc
was_one end closed i before (Some f) g at h = record { f = f; at = at; is = cc }

pub was_open : (end : ℕ) (closed : List Open) (before after : List Function) (i : ℕ) (g : Function)
    → AreClosed end closed before after → slice_get after i ≡ Some g → WasOpen end closed before i g
was_open end closed before after i g h at = was_one end closed i before (slice_get before i) g refl (sym at ∙ h i)

-- it keeps all but its end
pub record KeepsAllButEnd (f g : Function) : Type 0 where
  pub name : g.name ≡ f.name
  pub name_number : g.name_number ≡ f.name_number
  pub call : g.call ≡ f.call
  pub is_subprogram : g.is_subprogram ≡ f.is_subprogram
  pub ranges_end : g.ranges_end ≡ f.ranges_end

pub closed_keeps : (end : ℕ) (closed : List Open) (i : ℕ) (f : Function) → KeepsAllButEnd f (closed_at end closed i f)
closed_keeps end closed i f = elim (cases_Bool (list_any (λ (o : Open). o.index == i) closed)) [
  | inl t ↦ rw t (record { name = refl; name_number = refl; call = refl; is_subprogram = refl; ranges_end = refl })
  | inr n ↦ rw n (record { name = refl; name_number = refl; call = refl; is_subprogram = refl; ranges_end = refl })
]

pub was_kept : (end : ℕ) (closed : List Open) (i : ℕ) (f g : Function) → g ≡ closed_at end closed i f → KeepsAllButEnd f g
was_kept end closed i f g e = rw e (closed_keeps end closed i f)

-- its end, if it was closed, and if it was not
pub closed_end : (end : ℕ) (closed : List Open) (i : ℕ) (f g : Function) → g ≡ closed_at end closed i f
    → list_any (λ (o : Open). o.index == i) closed ≡ true → g.end ≡ end
closed_end end closed i f g e t =
    let is : g ≡ record f { end = end } = rw t at e in
    ap (λ (x : Function). x.end) is

pub kept_end : (end : ℕ) (closed : List Open) (i : ℕ) (f g : Function) → g ≡ closed_at end closed i f
    → list_any (λ (o : Open). o.index == i) closed ≡ false → g ≡ f
kept_end end closed i f g e n = rw n at e
