-- How far the functions of a unit are read.
use Rattle.std.proofs.Common.{◌≡◌, ℕ, ◌+◌, ◌<◌, nat_le, true, List, [], ◌∷◌, ◌++◌, length, take, Option, Some}
use Rattle.std.proofs.Common.{slice_get, refl, sym, ap, subst, ◌∙◌, inl, inr, arith, append_assoc}
use Rattle.std.specs.Prelude.{flat_map}
use Rattle.std.specs.Option.{option_map}
use Rattle.std.proofs.lemmas.Bool.{cases_eq, le-leb}
use Rattle.std.proofs.lemmas.List.{append-nil, length_push, nil_from_length, take-append-le, take_all}
use Rattle.std.proofs.lemmas.List.Concat.{flat_map-append}
use Rattle.dwarf_ranges.specs.EntryRanges.{UnitRangesRecord}
use Rattle.dwarf_ranges.specs.declared.range.CodeRange.{CodeRange}
use Rattle.dwarf_entries.specs.Entries.{PlacedRecord}
use Rattle.dwarf_source_frames.specs.DebugSections.{DebugSectionsRecord}
use Rattle.dwarf_source_frames.specs.DebugUnits.{UnitRecord}
use Rattle.dwarf_source_frames.specs.Frames.{location_of_call}
use Rattle.dwarf_source_frames.specs.Names.{IsName}
use Rattle.dwarf_source_frames.specs.Scopes.{ScopeRecord, is_subprogram, left_after_scope, scope_of, scope_ranges, scopes_from}
use Rattle.dwarf_source_frames.proofs.ScopeLemmas.{scopes_more, scopes_none}
use Rattle.dwarf_functions.specs.Asked.{asked_ranges, asked_scope, asked_scopes}
use Rattle.dwarf_functions.specs.OpenFunctions.{Adds, Closes, Takes}
use Rattle.dwarf_functions.specs.UnitFunctions.{AreFunctions, FunctionRecord, IsFunction, functions_from}
use Rattle.dwarf_functions.specs.declared.functions.Function.{Function}
use Rattle.dwarf_functions.specs.declared.functions.Open.{Open}
use Rattle.dwarf_functions.proofs.ClosingLemmas.{was_open, was_kept}
use Rattle.dwarf_functions.proofs.OpenLemmas.{AreOpenTo, AreShallow, AreOut, closed_open, closed_shallow, none_open_yet}
use Rattle.dwarf_functions.proofs.OpenLemmas.{none_shallow, of_scope, old_or_new, open_with, open_without, out_of_all}
use Rattle.dwarf_functions.proofs.OpenLemmas.{out_of_scope, at_left, at_push}

-- the ranges of functions
abbrev pub ranges_of : List FunctionRecord → List CodeRange
ranges_of fs = flat_map (λ f. f.ranges) fs

-- a function is named and called as its entry
pub record IsNamed (s : DebugSectionsRecord) (unit : UnitRecord) (of : FunctionRecord) (f : Function) : Type 0 where
  pub name : IsName s (record { unit = unit; entry = of.entry }) (option_map (λ n. n.now) f.name)
  pub call : f.call ≡ location_of_call of.entry
  pub is_subprogram : f.is_subprogram ≡ is_subprogram of.entry

-- the functions so far, but for their ends
pub record AreSoFar (s : DebugSectionsRecord) (unit : UnitRecord) (done : List FunctionRecord)
    (functions : List Function) (ranges : List CodeRange) : Type 0 where
  pub count : length functions ≡ length done
  pub ranges_are : ranges ≡ ranges_of done
  pub each : (i : ℕ) (of : FunctionRecord) (f : Function) → slice_get done i ≡ Some of → slice_get functions i ≡ Some f → IsNamed s unit of f
  pub range_ends : (i : ℕ) (f : Function) → slice_get functions i ≡ Some f → f.ranges_end ≡ length (ranges_of (take (i + 1) done))

none_so_far : (s : DebugSectionsRecord) (unit : UnitRecord) → AreSoFar s unit [] [] []
none_so_far s unit = record {
  count = refl;
  ranges_are = refl;
  each = λ i of f at is. absurd (cc is);
  range_ends = λ i f is. absurd (cc is);
}

-- closing functions changes only ends
closed_so_far : (s : DebugSectionsRecord) (unit : UnitRecord) (done : List FunctionRecord) (ranges : List CodeRange)
    (depth : ℕ) (opened left : List Open) (before after : List Function) → Closes depth opened left before after
    → AreSoFar s unit done before ranges → AreSoFar s unit done after ranges
closed_so_far s unit done ranges depth opened left before after c so = record {
  count = c.count ∙ so.count;
  ranges_are = so.ranges_are;
  each = λ i of g at is.
      let was = was_open (length before) c.closed before after i g c.each is in
      let kept = was_kept (length before) c.closed i was.f g was.is in
      let named = so.each i of was.f at was.at in
      record {
        name = rw kept.name named.name;
        call = kept.call ∙ named.call;
        is_subprogram = kept.is_subprogram ∙ named.is_subprogram;
      };
  range_ends = λ i g is.
      let was = was_open (length before) c.closed before after i g c.each is in
      let kept = was_kept (length before) c.closed i was.f g was.is in
      kept.ranges_end ∙ so.range_ends i was.f was.at;
}

-- one function more
so_far_with : (s : DebugSectionsRecord) (unit : UnitRecord) (done : List FunctionRecord) (functions : List Function)
    (ranges next_ranges : List CodeRange) (x : FunctionRecord) (f : Function)
    → next_ranges ≡ ranges ++ x.ranges → f.ranges_end ≡ length next_ranges → IsNamed s unit x f
    → AreSoFar s unit done functions ranges → AreSoFar s unit (done ++ x ∷ []) (functions ++ f ∷ []) next_ranges
so_far_with s unit done functions ranges next_ranges x f more end named so =
    let all : next_ranges ≡ ranges_of (done ++ x ∷ []) =
    more ∙ ap (λ (rs : List CodeRange). rs ++ x.ranges) so.ranges_are
    ∙ ap (λ (rs : List CodeRange). ranges_of done ++ rs) (sym (append-nil x.ranges))
    ∙ sym (flat_map-append (λ (g : FunctionRecord). g.ranges) done (x ∷ [])) in
    record {
      count = length_push functions f ∙ ap (λ n. n + 1) so.count ∙ sym (length_push done x);
      ranges_are = all;
      each = λ i of g at is. elim (old_or_new functions f i g is) [
        | inl old ↦ so.each i of g (sym (at_left done (x ∷ []) i (omega (arith, old.within, so.count))) ∙ at) old.at
        | inr new ↦
            let here : slice_get (done ++ x ∷ []) i ≡ Some x = rw (new.last, so.count) (at_push done x) in
            let same : of ≡ x = cc (at, here) in
            rw (same, new.is) named
      ];
      range_ends = λ i g is. elim (old_or_new functions f i g is) [
        | inl old ↦
            so.range_ends i g old.at
            ∙ ap (λ (fs : List FunctionRecord). length (ranges_of fs)) (sym (take-append-le (i + 1) done (x ∷ []) (omega (arith, old.within, so.count))))
        | inr new ↦
            ap (λ (h : Function). h.ranges_end) new.is
            ∙ end
            ∙ ap (λ (rs : List CodeRange). length rs) all
            ∙ ap (λ (fs : List FunctionRecord). length (ranges_of fs))
            (sym (take_all (i + 1) (done ++ x ∷ []) (omega (arith, new.last, so.count, length_push done x))))
      ];
    }

-- the functions among the entries that are left
from_none : (before : ℕ) → functions_from before [] ≡ []
unfolding functions_from
from_none before = refl

from_without : (before : ℕ) (scope : ScopeRecord) (rest : List ScopeRecord) → scope.ranges ≡ []
    → functions_from before (scope ∷ rest) ≡ functions_from before rest
unfolding functions_from
from_without before scope rest none = rw none refl

from_with : (before : ℕ) (scope : ScopeRecord) (rest : List ScopeRecord) → 0 < length scope.ranges
    → functions_from before (scope ∷ rest) ≡ of_scope before scope rest ∷ functions_from (before + 1) rest
unfolding functions_from
from_with before scope rest some =
    let has : nat_le 1 (length scope.ranges) ≡ true = le-leb 1 (length scope.ranges) (omega arith) in
    rw has refl

-- the functions so far are the first ones of all, and those of the entries that are left are the others
pub record AreReadTo (s : DebugSectionsRecord) (unit : UnitRecord) (all : List FunctionRecord) (rest : List ScopeRecord)
    (functions : List Function) (ranges : List CodeRange) (opened : List Open) : Type 0 where
  pub done : List FunctionRecord
  pub others : all ≡ done ++ functions_from (length functions) rest
  pub so_far : AreSoFar s unit done functions ranges
  pub open_to : AreOpenTo done functions opened rest

pub read_none : (s : DebugSectionsRecord) (unit : UnitRecord) (scopes rest : List ScopeRecord)
    (functions : List Function) (ranges : List CodeRange) (opened : List Open) → rest ≡ scopes → functions ≡ [] → ranges
    ≡ [] → opened ≡ []
    → AreReadTo s unit (functions_from 0 scopes) rest functions ranges opened
read_none s unit scopes rest functions ranges opened same none no_ranges none_open = rw (same, none, no_ranges, none_open) (record {
  done = [];
  others = refl;
  so_far = none_so_far s unit;
  open_to = none_open_yet scopes;
})

module _ (s : DebugSectionsRecord) (unit : UnitRecord) (all : List FunctionRecord) (scope : ScopeRecord)
    (rest : List ScopeRecord) (functions : List Function) (ranges next_ranges : List CodeRange) (opened : List Open)
    (more : next_ranges ≡ ranges ++ scope.ranges) (shallow : AreShallow scope.depth opened)
    (so : AreReadTo s unit all (scope ∷ rest) functions ranges opened) where
  -- an entry without ranges
  read_without : scope.ranges ≡ [] → AreReadTo s unit all rest functions next_ranges opened
  read_without none =
      let same : next_ranges ≡ ranges = more ∙ ap (λ (rs : List CodeRange). ranges ++ rs) none ∙ append-nil ranges in
      record {
        done = so.done;
        others = so.others ∙ ap (λ (fs : List FunctionRecord). so.done ++ fs) (from_without (length functions) scope rest none);
        so_far = rw same so.so_far;
        open_to = open_without so.done functions opened scope rest shallow none so.open_to;
      }

  -- an entry with ranges
  read_with : (f : Function) → 0 < length scope.ranges → f.ranges_end ≡ length next_ranges
      → IsFunction s unit (record { entry = scope.entry; ranges = scope.ranges; end = length functions + 1 }) f
      → AreReadTo s unit all rest (functions ++ f ∷ []) next_ranges (opened ++ record { depth = scope.depth; index = length functions } ∷ [])
  read_with f some end is =
      let x = of_scope (length functions) scope rest in
      let next : functions_from (length functions + 1) rest ≡ functions_from (length (functions ++ f ∷ [])) rest =
      ap (λ n. functions_from n rest) (sym (length_push functions f)) in
      record {
        done = so.done ++ x ∷ [];
        others =
            so.others
            ∙ ap (λ (fs : List FunctionRecord). so.done ++ fs) (from_with (length functions) scope rest some ∙ ap (λ (fs : List FunctionRecord). x ∷ fs) next)
            ∙ sym (append_assoc so.done (x ∷ []) (functions_from (length (functions ++ f ∷ [])) rest));
        so_far = so_far_with s unit so.done functions ranges next_ranges x f more end
            (record { name = is.name; call = is.call; is_subprogram = is.is_subprogram }) so.so_far;
        open_to = open_with so.done functions opened scope rest f some so.so_far.count shallow so.open_to;
      }

  pub read_added : (next : List Open) (after : List Function)
      → Adds s unit scope (length next_ranges) opened next functions after
      → AreReadTo s unit all rest after next_ranges next
  read_added next after a = elim (cases_eq (length scope.ranges) 0) [
    | inl none ↦
        let empty : scope.ranges ≡ [] = nil_from_length scope.ranges none in
        let same = a.without empty in
        rw (same.0, same.1) (read_without empty)
    | inr not_none ↦
        let some : 0 < length scope.ranges = omega arith in
        let new = a.with_ranges some in
        rw (new.1, new.4) (read_with new.0 some new.2 new.3)
  ]

-- the functions in which an entry does not stand are closed
read_closed : (s : DebugSectionsRecord) (unit : UnitRecord) (all : List FunctionRecord) (rest : List ScopeRecord)
    (depth : ℕ) (opened left : List Open) (before after : List Function) (ranges : List CodeRange)
    → Closes depth opened left before after → AreOut depth rest
    → AreReadTo s unit all rest before ranges opened → AreReadTo s unit all rest after ranges left
read_closed s unit all rest depth opened left before after ranges c out so = record {
  done = so.done;
  others = so.others ∙ ap (λ n. so.done ++ functions_from n rest) (sym c.count);
  so_far = closed_so_far s unit so.done ranges depth opened left before after c so.so_far;
  open_to = closed_open depth opened left before after so.done rest c out so.open_to;
}

-- an entry is taken
read_taken : (s : DebugSectionsRecord) (unit : UnitRecord) (all : List FunctionRecord) (scope : ScopeRecord)
    (rest : List ScopeRecord) (opened next : List Open) (before after : List Function)
    (ranges next_ranges : List CodeRange) → next_ranges ≡ ranges ++ scope.ranges
    → Takes s unit scope (length next_ranges) opened next before after
    → AreReadTo s unit all (scope ∷ rest) before ranges opened → AreReadTo s unit all rest after next_ranges next
read_taken s unit all scope rest opened next before after ranges next_ranges more t so =
    let out = out_of_scope scope rest in
    let closed = read_closed s unit all (scope ∷ rest) scope.depth opened t.left before t.closed ranges t.closes out so in
    let shallow = closed_shallow scope.depth opened t.left before t.closed so.done (scope ∷ rest) t.closes out so.open_to in
    read_added s unit all scope rest t.closed ranges next_ranges t.left more shallow closed next after t.adds

pub read_next : (s : DebugSectionsRecord) (unit : UnitRecord) (all : List FunctionRecord) (asked : Option (List ℕ))
    (u : UnitRangesRecord) (left next_left : ℕ) (p : PlacedRecord) (entries rest : List PlacedRecord)
    (opened next : List Open) (before after : List Function) (ranges next_ranges : List CodeRange)
    → entries ≡ p ∷ rest → next_left ≡ left_after_scope u left p.entry → next_ranges ≡ ranges ++ asked_ranges asked (scope_ranges u left p.entry)
    → Takes s unit (asked_scope asked (scope_of u left p.depth p.entry)) (length next_ranges) opened next before after
    → AreReadTo s unit all (asked_scopes asked (scopes_from u left entries)) before ranges opened
    → AreReadTo s unit all (asked_scopes asked (scopes_from u next_left rest)) after next_ranges next
read_next s unit all asked u left next_left p entries rest opened next before after ranges next_ranges step after_it more t so =
    let scope = asked_scope asked (scope_of u left p.depth p.entry) in
    let others = asked_scopes asked (scopes_from u (left_after_scope u left p.entry) rest) in
    let here : asked_scopes asked (scopes_from u left entries) ≡ scope
    ∷ others = ap (asked_scopes asked) (ap (scopes_from u left) step ∙ scopes_more u left p rest) in
    rw after_it (read_taken s unit all scope others opened next before after ranges next_ranges more t
    (subst (λ (scopes : List ScopeRecord). AreReadTo s unit all scopes before ranges opened) here so))

-- after the last entry all are closed
are_functions : (s : DebugSectionsRecord) (unit : UnitRecord) (scopes : List ScopeRecord) (functions : List Function)
    (ranges : List CodeRange) (opened : List Open) → AreShallow 0 opened
    → AreReadTo s unit (functions_from 0 scopes) [] functions ranges opened
    → AreFunctions s unit scopes functions ranges
are_functions s unit scopes functions ranges opened shallow so =
    let same : functions_from 0 scopes ≡ so.done = so.others
    ∙ ap (λ (fs : List FunctionRecord). so.done ++ fs) (from_none (length functions)) ∙ append-nil so.done in
    record {
      count = so.so_far.count ∙ ap (λ (fs : List FunctionRecord). length fs) (sym same);
      ranges_are = so.so_far.ranges_are ∙ ap ranges_of (sym same);
      each = λ i of f at is.
          let at_done : slice_get so.done i ≡ Some of = ap (λ (fs : List FunctionRecord). slice_get fs i) (sym same) ∙ at in
          let named = so.so_far.each i of f at_done is in
          record {
            name = named.name;
            call = named.call;
            is_subprogram = named.is_subprogram;
            end = elim (so.open_to.have i of f at_done is) [
              | inl e ↦ e
              | inr h ↦ absurd (none_shallow opened i shallow h)
            ];
          };
      ends = λ i f is. so.so_far.range_ends i f is ∙ ap (λ (fs : List FunctionRecord). length (ranges_of (take (i + 1) fs))) (sym same);
    }

pub read_all : (s : DebugSectionsRecord) (unit : UnitRecord) (scopes : List ScopeRecord) (asked : Option (List ℕ))
    (u : UnitRangesRecord) (left : ℕ) (entries : List PlacedRecord) (opened last_open : List Open)
    (before after : List Function) (ranges : List CodeRange) → entries ≡ []
    → Closes 0 opened last_open before after → AreReadTo s unit (functions_from 0 scopes)
    (asked_scopes asked (scopes_from u left entries)) before ranges opened → AreFunctions s unit scopes after ranges
read_all s unit scopes asked u left entries opened last_open before after ranges none c so =
    let here : asked_scopes asked (scopes_from u left entries) ≡ [] = ap (asked_scopes asked) (ap (scopes_from u left) none ∙ scopes_none u left) in
    let all = subst (λ (rest : List ScopeRecord). AreReadTo s unit (functions_from 0 scopes) rest before ranges opened) here so in
    are_functions s unit scopes after ranges last_open (closed_shallow 0 opened last_open before after all.done [] c out_of_all all.open_to)
    (read_closed s unit (functions_from 0 scopes) [] 0 opened last_open before after ranges c out_of_all all)
