-- The open functions know their ends, once the rest of the entries is known.
use Rattle.std.proofs.Common.{◌≡◌, ℕ, zero, suc, ◌+◌, ◌-◌, ◌<◌, ◌≤◌, ◌||◌, ◌==◌, nat_le, Bool, true, false, List, []}
use Rattle.std.proofs.Common.{◌∷◌, ◌++◌, length, get_or, Some, slice_get, refl, sym, ap, subst, ◌∙◌, inl, inr, ◌⊎◌}
use Rattle.std.proofs.Common.{arith, eq-eqb, length-append}
use Rattle.std.specs.List.{list_any, All}
use Rattle.std.specs.Option.{IfSome}
use Rattle.std.proofs.lemmas.Bool.{cases_eq, cases_Bool, cases_lt, eqb-true, lt-leb, le-leb, or_cases, or_left, or_right}
use Rattle.std.proofs.lemmas.List.{get_or_append_left, get_or_push, length_push, take_at, drop_at}
use Rattle.std.proofs.lemmas.List.Elements.{All-head, All-tail, All-take, All-drop, All-push}
use Rattle.std.proofs.lemmas.List.Folds.{list_any-append}
use Rattle.std.proofs.lemmas.Option.{slice_get-get_or, slice_get_within, slice_get_past}
use Rattle.dwarf_source_frames.specs.Scopes.{ScopeRecord}
use Rattle.dwarf_functions.specs.OpenFunctions.{Closes}
use Rattle.dwarf_functions.specs.UnitFunctions.{FunctionRecord, count_within}
use Rattle.dwarf_functions.specs.declared.functions.Function.{Function}
use Rattle.dwarf_functions.specs.declared.functions.Open.{Open}
use Rattle.dwarf_functions.proofs.ClosingLemmas.{was_open, closed_end, kept_end}

-- one of some functions is that of an index
abbrev pub has_index : List Open → ℕ → Bool
has_index opened i = list_any (λ (o : Open). o.index == i) opened

-- the end of a function is known, when a depth of entries is
abbrev pub EndsWith : ℕ → List FunctionRecord → List ScopeRecord → Open → Type 0
EndsWith count done rest o = (of : FunctionRecord) → slice_get done o.index ≡ Some of → of.end ≡ count + count_within o.depth rest

-- each open function is deeper than those before it
abbrev pub AreDeeper : List Open → Type 0
AreDeeper opened = (j k : ℕ) (d : Open) → j < k → k < length opened → (get_or opened j d).depth < (get_or opened k d).depth

-- of the functions so far, each that is not open has its end
abbrev pub HaveEnds : List FunctionRecord → List Function → List Open → Type 0
HaveEnds done functions opened = (i : ℕ) (of : FunctionRecord) (f : Function) → slice_get done i ≡ Some of
    → slice_get functions i ≡ Some f → (f.end ≡ of.end) ⊎ (has_index opened i ≡ true)

-- the functions so far, of which some are open: these end among the rest of the entries
pub record AreOpenTo (done : List FunctionRecord) (functions : List Function) (opened : List Open) (rest : List ScopeRecord) : Type 0 where
  pub among : All (λ o. o.index < length functions) opened
  pub deeper : AreDeeper opened
  pub ends : All (λ o. EndsWith (length functions) done rest o) opened
  pub have : HaveEnds done functions opened

pub none_open_yet : (rest : List ScopeRecord) → AreOpenTo [] [] [] rest
none_open_yet rest = record {
  among = λ k d h. absurd (omega arith);
  deeper = λ j k d less h. absurd (omega arith);
  ends = λ k d h. absurd (omega arith);
  have = λ i of f at is. absurd (cc (slice_get_past {X = Function} [] i (omega arith)));
}

-- parts of a list have what the list has
all_left : (P : Open → Type 0) (xs ys : List Open) → All P (xs ++ ys) → All P xs
all_left P xs ys h = subst (λ (l : List Open). All P l) (take_at xs ys (length xs) refl) (All-take P (length xs) (xs ++ ys) h)

all_right : (P : Open → Type 0) (xs ys : List Open) → All P (xs ++ ys) → All P ys
all_right P xs ys h = subst (λ (l : List Open). All P l) (drop_at xs ys (length xs) refl) (All-drop P (length xs) (xs ++ ys) h)

deeper_left : (xs ys : List Open) → AreDeeper (xs ++ ys) → AreDeeper xs
deeper_left xs ys h j k d less within =
    let h' = h j k d less (omega (arith, length-append xs ys)) in
    rw (get_or_append_left xs ys d j (omega arith), get_or_append_left xs ys d k within) at h'

-- the one of an index
record OneAt (P : Open → Type 0) (i : ℕ) : Type 0 where
  pub o : Open
  pub is : o.index ≡ i
  pub has : P o

one_at : (P : Open → Type 0) (opened : List Open) (i : ℕ) → has_index opened i ≡ true → All P opened → OneAt P i
one_at P [] i h all = absurd cc
one_at P (o ∷ os) i h all = elim (cases_Bool (o.index == i)) [
  | inl t ↦ record { o = o; is = eqb-true o.index i t; has = All-head P o os all }
  | inr n ↦ one_at P os i (rw n at h) (All-tail P o os all)
]

abbrev pub AreShallow : ℕ → List Open → Type 0
AreShallow depth opened = All (λ o. o.depth < depth) opened

pub none_shallow : (opened : List Open) (i : ℕ) → AreShallow 0 opened → has_index opened i ≡ true → ⊥
none_shallow opened i shallow h =
    let one = one_at (λ o. o.depth < 0) opened i h shallow in
    omega (arith, one.has)

-- nothing among the entries stands in what is as deep
abbrev pub AreOut : ℕ → List ScopeRecord → Type 0
AreOut depth rest = (d : ℕ) → depth ≤ d → count_within d rest ≡ 0

pub out_of_all : AreOut 0 []
out_of_all d h = refl

pub out_of_scope : (scope : ScopeRecord) (rest : List ScopeRecord) → AreOut scope.depth (scope ∷ rest)
out_of_scope scope rest d h = rw (le-leb scope.depth d h) refl

pub all_shallow : (depth : ℕ) (left : List Open) → AreDeeper left → IfSome (slice_get left (length left - 1)) (λ o. o.depth < depth) → AreShallow depth left
all_shallow depth left deeper last k d h =
    let at : slice_get left (length left - 1) ≡ Some (get_or left (length left - 1) d) = slice_get-get_or left (length left - 1) d (omega arith) in
    let top : (get_or left (length left - 1) d).depth < depth = rw at at last in
    elim (cases_eq k (length left - 1)) [
      | inl same ↦ rw same top
      | inr other ↦
          let under : (get_or left k d).depth < (get_or left (length left - 1) d).depth = deeper k (length left - 1) d (omega arith) (omega arith) in
          omega arith
    ]

module _ (depth : ℕ) (opened left : List Open) (before after : List Function) (done : List FunctionRecord)
    (rest : List ScopeRecord) (c : Closes depth opened left before after) (out : AreOut depth rest)
    (all : AreOpenTo done before opened rest) where
  -- of the functions that are left, and of those that are closed
  ends_in : All (λ o. EndsWith (length before) done rest o) (left ++ c.closed)
  ends_in = subst (λ (os : List Open). All (λ o. EndsWith (length before) done rest o) os) c.open_are all.ends

  left_if_not_closed : (i : ℕ) → has_index c.closed i ≡ false → has_index opened i ≡ true → has_index left i ≡ true
  left_if_not_closed i none h =
      let parts : has_index opened i ≡ (has_index left i || has_index c.closed i) =
      ap (λ (os : List Open). has_index os i) c.open_are
      ∙ list_any-append (λ (o : Open). o.index == i) left c.closed in
      elim (or_cases (has_index left i) (has_index c.closed i) (sym parts ∙ h)) [
        | inl t ↦ t
        | inr t ↦ absurd (cc (none, t))
      ]

  closed_has : (i : ℕ) (of : FunctionRecord) (g : Function) → slice_get done i ≡ Some of → has_index c.closed i ≡ true → g.end ≡ length before → g.end ≡ of.end
  closed_has i of g at t end =
      let found = one_at (λ o. (depth ≤ o.depth) × EndsWith (length before) done rest o) c.closed i t
      (λ k d h. (c.deep k d h, all_right (λ o. EndsWith (length before) done rest o) left c.closed ends_in k d h))
      in
      let ends : of.end ≡ length before + count_within found.o.depth rest = found.has.1 of (rw found.is at) in
      let none : count_within found.o.depth rest ≡ 0 = out found.o.depth found.has.0 in
      omega arith

  still_have : HaveEnds done after left
  still_have i of g at is =
      let was = was_open (length before) c.closed before after i g c.each is in
      elim (cases_Bool (has_index c.closed i)) [
        | inl t ↦ inl (closed_has i of g at t (closed_end (length before) c.closed i was.f g was.is t))
        | inr n ↦
            let same : g ≡ was.f = kept_end (length before) c.closed i was.f g was.is n in
            elim (all.have i of was.f at was.at) [
              | inl e ↦ inl (ap (λ (f : Function). f.end) same ∙ e)
              | inr h ↦ inr (left_if_not_closed i n h)
            ]
      ]

  pub closed_open : AreOpenTo done after left rest
  closed_open = record {
    among = rw c.count (all_left (λ o. o.index < length before) left c.closed
        (subst (λ (os : List Open). All (λ o. o.index < length before) os) c.open_are all.among));
    deeper = deeper_left left c.closed (subst (λ (os : List Open). AreDeeper os) c.open_are all.deeper);
    ends = rw c.count (all_left (λ o. EndsWith (length before) done rest o) left c.closed ends_in);
    have = still_have;
  }

  pub closed_shallow : AreShallow depth left
  closed_shallow = all_shallow depth left closed_open.deeper c.shallow

-- how many functions stand in one, with an entry more
within_without : (depth : ℕ) (scope : ScopeRecord) (rest : List ScopeRecord) → depth < scope.depth → scope.ranges ≡ []
    → count_within depth (scope ∷ rest) ≡ count_within depth rest
within_without depth scope rest less none = rw (lt-leb scope.depth depth less, none) refl

within_with : (depth : ℕ) (scope : ScopeRecord) (rest : List ScopeRecord) → depth < scope.depth
    → 0 < length scope.ranges → count_within depth (scope ∷ rest) ≡ suc (count_within depth rest)
within_with depth scope rest less some =
    let has : nat_le 1 (length scope.ranges) ≡ true = le-leb 1 (length scope.ranges) (omega arith) in
    rw (lt-leb scope.depth depth less, has) refl

-- an entry without ranges
pub open_without : (done : List FunctionRecord) (functions : List Function) (opened : List Open) (scope : ScopeRecord)
    (rest : List ScopeRecord) → AreShallow scope.depth opened → scope.ranges ≡ []
    → AreOpenTo done functions opened (scope ∷ rest) → AreOpenTo done functions opened rest
open_without done functions opened scope rest shallow none all = record {
  among = all.among;
  deeper = all.deeper;
  ends = λ k d h of at. all.ends k d h of at ∙ ap (λ n. length functions + n) (within_without (get_or opened k d).depth scope rest (shallow k d h) none);
  have = all.have;
}

-- the function of an entry with ranges
abbrev pub of_scope : ℕ → ScopeRecord → List ScopeRecord → FunctionRecord
of_scope before scope rest = record { entry = scope.entry; ranges = scope.ranges; end = before + 1 + count_within scope.depth rest }

-- an element of a list with one more
pub at_left : {X : Type 0} (xs ys : List X) (i : ℕ) → i < length xs → slice_get (xs ++ ys) i ≡ slice_get xs i
at_left [] ys i h = absurd (omega arith)
at_left (x ∷ xs) ys zero h = refl
at_left (x ∷ xs) ys (suc i) h = at_left xs ys i (omega arith)

pub at_push : {X : Type 0} (xs : List X) (x : X) → slice_get (xs ++ x ∷ []) (length xs) ≡ Some x
at_push [] x = refl
at_push (y ∷ ys) x = at_push ys x

-- it is in the list, or is the one more
pub record IsOld {X : Type 0} (xs : List X) (i : ℕ) (y : X) : Type 0 where
  pub within : i < length xs
  pub at : slice_get xs i ≡ Some y

pub record IsNew {X : Type 0} (xs : List X) (x : X) (i : ℕ) (y : X) : Type 0 where
  pub last : i ≡ length xs
  pub is : y ≡ x

pub old_or_new : {X : Type 0} (xs : List X) (x : X) (i : ℕ) (y : X) → slice_get (xs ++ x ∷ []) i ≡ Some y → IsOld xs i y ⊎ IsNew xs x i y
old_or_new xs x i y at =
    let within : i < length (xs ++ x ∷ []) = slice_get_within (xs ++ x ∷ []) i y at in
    elim (cases_lt i (length xs)) [
      | inl less ↦ inl (record { within = less; at = sym (at_left xs (x ∷ []) i less) ∙ at })
      | inr not_less ↦
          let last : i ≡ length xs = omega (arith, length_push xs x) in
          let here : slice_get (xs ++ x ∷ []) i ≡ Some x = rw last (at_push xs x) in
          inr (record { last = last; is = cc (at, here) })
    ]

module _ (done : List FunctionRecord) (functions : List Function) (opened : List Open) (scope : ScopeRecord)
    (rest : List ScopeRecord) (f : Function) (some : 0 < length scope.ranges) (count : length functions ≡ length done)
    (shallow : AreShallow scope.depth opened)
    (all : AreOpenTo done functions opened (scope ∷ rest)) where
  abbrev this : Open
  this = record { depth = scope.depth; index = length functions }

  abbrev now_done : List FunctionRecord
  now_done = done ++ of_scope (length functions) scope rest ∷ []

  one_more : length (functions ++ f ∷ []) ≡ length functions + 1
  one_more = length_push functions f

  ends_old : (o : Open) → o.index < length functions → o.depth < scope.depth
      → EndsWith (length functions) done (scope ∷ rest) o → EndsWith (length (functions ++ f ∷ [])) now_done rest o
  ends_old o within less ends of at =
      let was : slice_get done o.index ≡ Some of = sym (at_left done (of_scope (length functions) scope rest ∷ []) o.index (omega arith)) ∙ at in
      let end : of.end ≡ length functions + count_within o.depth (scope ∷ rest) = ends of was in
      let more : count_within o.depth (scope ∷ rest) ≡ suc (count_within o.depth rest) = within_with o.depth scope rest less some in
      omega (arith, one_more)

  ends_new : EndsWith (length (functions ++ f ∷ [])) now_done rest this
  ends_new of at =
      let here : slice_get now_done (length functions) ≡ Some (of_scope (length functions) scope rest) =
      ap (slice_get now_done) count ∙ at_push done (of_scope (length functions) scope rest) in
      let is : of ≡ of_scope (length functions) scope rest = cc (at, here) in
      let end : of.end ≡ length functions + 1 + count_within scope.depth rest = ap (λ (x : FunctionRecord). x.end) is in
      omega (arith, one_more)

  deeper_new : AreDeeper (opened ++ this ∷ [])
  deeper_new j k d less within =
      let left : get_or (opened ++ this ∷ []) j d ≡ get_or opened j d = get_or_append_left opened (this ∷ []) d j (omega (arith, length_push opened this)) in
      elim (cases_lt k (length opened)) [
        | inl k_less ↦
            rw (left, get_or_append_left opened (this ∷ []) d k k_less) (all.deeper j k d less k_less)
        | inr last ↦
            let top : get_or (opened ++ this ∷ []) k d ≡ this = get_or_push opened this d k (omega (arith, length_push opened this)) in
            rw (left, top) (shallow j d (omega (arith, length_push opened this)))
      ]

  -- a further function that is open does not close any
  has_left : (i : ℕ) → has_index opened i ≡ true → has_index (opened ++ this ∷ []) i ≡ true
  has_left i h = list_any-append (λ (o : Open). o.index == i) opened (this ∷ []) ∙ or_left (has_index opened i) (has_index (this ∷ []) i) h

  has_this : (i : ℕ) → i ≡ length functions → has_index (opened ++ this ∷ []) i ≡ true
  has_this i e =
      let here : has_index (this ∷ []) i ≡ true = or_left (length functions == i) false (eq-eqb (length functions) i (sym e)) in
      list_any-append (λ (o : Open). o.index == i) opened (this ∷ []) ∙ or_right (has_index opened i) (has_index (this ∷ []) i) here

  have_new : HaveEnds now_done (functions ++ f ∷ []) (opened ++ this ∷ [])
  have_new i of g at is =
      elim (old_or_new functions f i g is) [
        | inl old ↦
            let was : slice_get done i ≡ Some of = sym (at_left done (of_scope (length functions) scope rest ∷ []) i (omega (arith, old.within))) ∙ at in
            elim (all.have i of g was old.at) [
              | inl e ↦ inl e
              | inr h ↦ inr (has_left i h)
            ]
        | inr new ↦ inr (has_this i new.last)
      ]

  pub open_with : AreOpenTo now_done (functions ++ f ∷ []) (opened ++ this ∷ []) rest
  open_with = record {
    among = All-push (λ o. o.index < length (functions ++ f ∷ [])) opened this (λ k d h. omega (arith, all.among k d h, one_more)) (omega (arith, one_more));
    deeper = deeper_new;
    ends = All-push (λ o. EndsWith (length (functions ++ f ∷ [])) now_done rest o) opened this
        (λ k d h. ends_old (get_or opened k d) (all.among k d h) (shallow k d h) (all.ends k d h)) ends_new;
    have = have_new;
  }
