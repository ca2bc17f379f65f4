-- The scopes of steps: the scope of a scope's callers has a smaller number than it.
use Rattle.std.proofs.Common.{◌≡◌, ℕ, zero, suc, ◌<◌, List, [], ◌∷◌, ◌++◌, length, get_or, refl, sym, ap, ◌∙◌, subst, inl, inr, arith, lit<, Some, slice_get}
use Rattle.std.specs.Prelude.{All, ◌^◌, filter_map, flat_map, map}
use Rattle.std.proofs.lemmas.Bool.{cases_Bool, false≢true}
use Rattle.dwarf_lines.specs.Paths.{PathRecord}
use Rattle.std.proofs.lemmas.Option.{same_Some, none-some, slice_get_within, get_or_from_slice_get}
use Rattle.std.proofs.lemmas.List.Elements.{All-head, All-tail}
use Rattle.dwarf_source_frames.specs.Frames.{FrameRecord}
use Rattle.table_source_frames.specs.Numbering.{same_chain, same_path, numbered_with, numbered_after, number_in}
use Rattle.table_source_frames.specs.LineText.{scope_of, scopes_of, scopes_in, files_in, texts_in, texts_of, innermost_column, innermost_line, innermost_name}
use Rattle.table_source_frames.specs.LineText.{innermost_path, path_texts, same_place}
use Rattle.table_source_frames.specs.Opened.{HaveFewLines}
use Rattle.table_source_frames.specs.Steps.{StepRecord}
use Rattle.table_source_frames.proofs.NumberingLemmas.{Has, has_left, has_right, has_filter_map, has_flat_map, has_map}
use Rattle.table_source_frames.proofs.NumberingLemmas.{number_within, number-push, number-push_other, number-append}
use Rattle.table_source_frames.proofs.NumberingLemmas.{with_cases, with_has, after_each, after_has, after_keeps}
use Rattle.table_source_frames.proofs.NumberingLemmas.{after-append, has_flat_map_cases, has_push_cases}
use Rattle.table_source_frames.proofs.SameLemmas.{chain_decides, path_decides, place_decides}

abbrev Chain : Type 0
Chain = List FrameRecord

-- the number of a scope
abbrev pub number : List Chain → Chain → ℕ
number scopes scope = number_in same_chain scopes scope

-- the scope of these frames has a number, or there are none
abbrev pub HasNumber : List Chain → Chain → Type 0
HasNumber scopes [] = Unit {0}
HasNumber scopes (f ∷ fs) = 0 < number scopes (scope_of (f ∷ fs))

-- what some scopes keep as they are numbered: none is without frames, and the callers of each have a scope with a
-- smaller number
pub record AreScopes (scopes : List Chain) : Type 0 where
  pub none : number scopes [] ≡ 0
  pub callers : (f : FrameRecord) (fs : Chain) → 0 < number scopes (f ∷ fs)
      → HasNumber scopes fs × (number scopes (scope_of fs) < number scopes (f ∷ fs))

no_scopes : AreScopes []
unfolding number_in
no_scopes = record { none = refl; callers = λ f fs some. absurd (omega (arith, some)) }

abbrev callers_of : Chain → Chain
callers_of [] = []
callers_of (f ∷ fs) = fs

nil_not_cons : (f : FrameRecord) (fs : Chain) → ◌≡◌ {A = Chain} [] (f ∷ fs) → ⊥
nil_not_cons f fs e = omega (arith, ap length e)

-- one more chain: those that have no number but this one have none
push_nil : (scopes : List Chain) (f : FrameRecord) (fs : Chain) → number scopes [] ≡ 0 → number (scopes ++ (f ∷ fs) ∷ []) [] ≡ 0
push_nil scopes f fs none = number-push_other same_chain chain_decides scopes (f ∷ fs) [] (nil_not_cons f fs) ∙ none

-- one that has a number, or no frames, keeps its number
push_keeps : (scopes : List Chain) (f : FrameRecord) (fs gs : Chain) → number scopes [] ≡ 0 → HasNumber scopes gs
    → number (scopes ++ (f ∷ fs) ∷ []) (scope_of gs) ≡ number scopes (scope_of gs)
push_keeps scopes f fs [] none has = push_nil scopes f fs none ∙ sym none
push_keeps scopes f fs (g ∷ gs) none has = number-append same_chain chain_decides scopes ((f ∷ fs) ∷ []) (scope_of (g ∷ gs)) has

push_has : (scopes : List Chain) (f : FrameRecord) (fs gs : Chain) → HasNumber scopes gs → HasNumber (scopes ++ (f ∷ fs) ∷ []) gs
push_has scopes f fs [] has = tt
push_has scopes f fs (g ∷ gs) has = omega (arith, has, number-append same_chain chain_decides scopes ((f ∷ fs) ∷ []) (scope_of (g ∷ gs)) has)

-- of a chain that is not numbered, whose callers are
push_scope : (scopes : List Chain) (f : FrameRecord) (fs : Chain) → AreScopes scopes → HasNumber scopes fs
    → number scopes (f ∷ fs) ≡ 0 → AreScopes (scopes ++ (f ∷ fs) ∷ [])
push_scope scopes f fs are has new = record {
  none = push_nil scopes f fs are.none;
  callers = λ g gs some. elim (cases_Bool (same_chain (g ∷ gs) (f ∷ fs))) [
    | inl e ↦ it_is g gs ((chain_decides (g ∷ gs) (f ∷ fs)).0 e)
    | inr e ↦ it_is_not g gs some (λ is. false≢true (sym e ∙ (chain_decides (g ∷ gs) (f ∷ fs)).1 is))
  ];
}
  where
    more : List Chain
    more = scopes ++ (f ∷ fs) ∷ []

    here : HasNumber more fs × (number more (scope_of fs) < number more (f ∷ fs))
    here = (
      push_has scopes f fs fs has,
      omega (
        arith,
        push_keeps scopes f fs fs are.none has,
        number_within same_chain chain_decides scopes (scope_of fs),
        number-push same_chain chain_decides scopes (f ∷ fs) new,
      ),
    )

    it_is : (g : FrameRecord) (gs : Chain) → g ∷ gs ≡ f ∷ fs → HasNumber more gs × (number more (scope_of gs) < number more (g ∷ gs))
    it_is g gs e = subst (λ (c : Chain). HasNumber more (callers_of c) × (number more (scope_of (callers_of c)) < number more c)) (sym e) here

    it_is_not : (g : FrameRecord) (gs : Chain) → 0 < number more (g ∷ gs) → (g ∷ gs ≡ f ∷ fs → ⊥)
        → HasNumber more gs × (number more (scope_of gs) < number more (g ∷ gs))
    it_is_not g gs some ne =
        let same : number more (g ∷ gs) ≡ number scopes (g ∷ gs) = number-push_other same_chain chain_decides scopes (f ∷ fs) (g ∷ gs) ne in
        let below = are.callers g gs (omega (arith, some, same)) in
        (push_has scopes f fs gs below.0, omega (arith, below.1, same, push_keeps scopes f fs gs are.none below.0))

with_scope : (scopes : List Chain) (f : FrameRecord) (fs : Chain) → AreScopes scopes → HasNumber scopes fs
    → AreScopes (numbered_with same_chain scopes (f ∷ fs))
with_scope scopes f fs are has = elim (with_cases same_chain chain_decides scopes (f ∷ fs)) [
  | inl h ↦ subst AreScopes (sym h.1) are
  | inr h ↦ subst AreScopes (sym h.1) (push_scope scopes f fs are has h.0)
]

-- those of the frames of a step
after_frames : (scopes : List Chain) (frames : Chain) → AreScopes scopes
    → AreScopes (numbered_after same_chain scopes (scopes_of frames)) × HasNumber (numbered_after same_chain scopes (scopes_of frames)) frames
unfolding scopes_of numbered_after
after_frames scopes [] are = (are, tt)
after_frames scopes (f ∷ fs) are =
    let rest = after_frames scopes fs are in
    let before : List Chain = numbered_after same_chain scopes (scopes_of fs) in
    let same : numbered_after same_chain scopes (scopes_of fs ++ scope_of (f ∷ fs) ∷ [])
    ≡ numbered_with same_chain before (scope_of (f ∷ fs)) = after-append same_chain chain_decides scopes (scopes_of fs)
    (scope_of (f ∷ fs) ∷ []) in (
      subst AreScopes (sym same) (with_scope before (record { name = f.name; path = f.path; line = 0; column = 0 }) fs rest.0 rest.1),
      subst (λ (cs : List Chain). 0 < number cs (scope_of (f ∷ fs))) (sym same)
          (with_has same_chain chain_decides before (scope_of (f ∷ fs))),
    )

after_has_still : (scopes more : List Chain) (frames : Chain) → HasNumber scopes frames → HasNumber (numbered_after same_chain scopes more) frames
after_has_still scopes more [] has = tt
after_has_still scopes more (f ∷ fs) has = omega (arith, has, after_keeps same_chain chain_decides scopes more (scope_of (f ∷ fs)) has)

abbrev all_scopes : List StepRecord → List Chain
all_scopes steps = flat_map (λ s. scopes_of s.frames) steps

after_steps : (scopes : List Chain) (steps : List StepRecord) → AreScopes scopes → AreScopes (numbered_after same_chain scopes (all_scopes steps))
unfolding numbered_after
after_steps scopes [] are = are
after_steps scopes (s ∷ steps) are =
    subst AreScopes (sym (after-append same_chain chain_decides scopes (scopes_of s.frames) (all_scopes steps)))
    (after_steps (numbered_after same_chain scopes (scopes_of s.frames)) steps (after_frames scopes s.frames are).0)

after_steps_has : (scopes : List Chain) (steps : List StepRecord) (k : ℕ) (s : StepRecord) → AreScopes scopes
    → slice_get steps k ≡ Some s → HasNumber (numbered_after same_chain scopes (all_scopes steps)) s.frames
after_steps_has scopes [] k s are is = absurd (none-some s is)
after_steps_has scopes (t ∷ steps) zero s are is =
    let first : List Chain = numbered_after same_chain scopes (scopes_of t.frames) in
    subst (λ (cs : List Chain). HasNumber cs s.frames) (sym (after-append same_chain chain_decides scopes (scopes_of t.frames) (all_scopes steps)))
    (after_has_still first (all_scopes steps) s.frames
    (subst (λ (r : StepRecord). HasNumber first r.frames) (same_Some t s is) (after_frames scopes t.frames are).1))
after_steps_has scopes (t ∷ steps) (suc k) s are is =
    subst (λ (cs : List Chain). HasNumber cs s.frames) (sym (after-append same_chain chain_decides scopes (scopes_of t.frames) (all_scopes steps)))
    (after_steps_has (numbered_after same_chain scopes (scopes_of t.frames)) steps k s (after_frames scopes t.frames are).0 is)

-- the scopes of steps are such
pub scopes_are : (steps : List StepRecord) → AreScopes (scopes_in steps)
unfolding scopes_in
scopes_are steps = after_steps [] steps no_scopes

-- the frames of each step have a number
pub step_has : (steps : List StepRecord) (k : ℕ) (s : StepRecord) → slice_get steps k ≡ Some s → HasNumber (scopes_in steps) s.frames
unfolding scopes_in
step_has steps k s is = after_steps_has [] steps k s no_scopes is

-- ---- the texts and files of scopes

text_among : (strings : List ℕ) (texts : List (List ℕ)) (text : List ℕ) → Has texts text
    → 0 < number_in same_place (numbered_after same_place (texts_of strings) (map (λ t. Some t) texts)) (Some text)
text_among strings texts text h =
    let there = has_map (λ t. Some t) texts text h in
    after_has same_place place_decides (texts_of strings) (map (λ t. Some t) texts) (Some text) there.0 there.1

-- the name of a scope has a number
pub name_has : (strings : List ℕ) (scopes : List Chain) (files : List PathRecord) (k : ℕ) (f : FrameRecord) (fs : Chain) (text : List ℕ)
    → slice_get scopes k ≡ Some (f ∷ fs) → f.name ≡ Some text
    → 0 < number_in same_place (texts_in strings scopes files) (Some text)
unfolding texts_in
name_has strings scopes files k f fs text is e =
    text_among strings (filter_map innermost_name scopes ++ flat_map path_texts files) text
    (has_left (filter_map innermost_name scopes) (flat_map path_texts files) text (has_filter_map innermost_name scopes k (f ∷ fs) text is e))

pub path_has : (scopes : List Chain) (k : ℕ) (f : FrameRecord) (fs : Chain) (path : PathRecord) → slice_get scopes k ≡ Some (f ∷ fs) → f.path ≡ Some path
    → 0 < number_in same_path (files_in scopes) path
unfolding files_in
path_has scopes k f fs path is e =
    let there = has_filter_map innermost_path scopes k (f ∷ fs) path is e in
    after_has same_path path_decides [] (filter_map innermost_path scopes) path there.0 there.1

-- each text of a path has a number
pub text_has : (strings : List ℕ) (scopes : List Chain) (files : List PathRecord) (k : ℕ) (path : PathRecord) (text : List ℕ)
    → slice_get files k ≡ Some path → Has (path_texts path) text
    → 0 < number_in same_place (texts_in strings scopes files) (Some text)
unfolding texts_in
text_has strings scopes files k path text is h =
    text_among strings (filter_map innermost_name scopes ++ flat_map path_texts files) text
    (has_right (filter_map innermost_name scopes) (flat_map path_texts files) text (has_flat_map path_texts files k path text is h))

-- ---- the lines of scopes

abbrev Fits : FrameRecord → Type 0
Fits f = (f.line < 2 ^ 32) × (f.column < 2 ^ 32)

fit_bare : (f : FrameRecord) (fs : Chain) → All Fits (f ∷ fs) → All Fits (scope_of (f ∷ fs))
fit_bare f fs fit zero d l = (lit< tt, lit< tt)
fit_bare f fs fit (suc k) d l = fit (suc k) d l

fit_scope : (frames : Chain) → All Fits frames → (scope : Chain) → Has (scopes_of frames) scope → All Fits scope
unfolding scopes_of
fit_scope [] fit scope h = absurd (none-some scope h.1)
fit_scope (f ∷ fs) fit scope h = elim (has_push_cases (scopes_of fs) (scope_of (f ∷ fs)) scope h) [
  | inl k ↦ fit_scope fs (All-tail Fits f fs fit) scope k
  | inr is ↦ subst (All Fits) is (fit_bare f fs fit)
]

-- the line and the column of the innermost of these frames fit
fit_innermost : (frames : Chain) → All Fits frames → (innermost_line frames < 2 ^ 32) × (innermost_column frames < 2 ^ 32)
fit_innermost [] fit = (lit< tt, lit< tt)
fit_innermost (f ∷ fs) fit = All-head Fits f fs fit

-- those of a step, and of the callers of each scope
pub step_fits : (steps : List StepRecord) → HaveFewLines steps → (k : ℕ) (d : StepRecord) → k < length steps
    → (innermost_line (get_or steps k d).frames < 2 ^ 32) × (innermost_column (get_or steps k d).frames < 2 ^ 32)
step_fits steps few k d l = fit_innermost (get_or steps k d).frames (few k d l)

pub callers_fit : (steps : List StepRecord) → HaveFewLines steps → (k : ℕ) (f : FrameRecord) (fs : Chain)
    → slice_get (scopes_in steps) k ≡ Some (f ∷ fs) → (innermost_line fs < 2 ^ 32) × (innermost_column fs < 2 ^ 32)
unfolding scopes_in
callers_fit steps few k f fs is =
    fit_innermost fs (All-tail Fits f fs
    (after_each same_chain chain_decides (All Fits) [] (all_scopes steps) (λ x h. absurd (none-some x h.1)) each (f ∷ fs) (k, is)))
  where
    each : (scope : Chain) → Has (all_scopes steps) scope → All Fits scope
    each scope h =
        let from = has_flat_map_cases (λ s. scopes_of s.frames) steps scope h in
        let step : StepRecord = from.0 in
        let within = slice_get_within steps from.1.0 step from.1.1 in
        let here : get_or steps from.1.0 step ≡ step = get_or_from_slice_get steps from.1.0 step step from.1.1 in
        fit_scope step.frames (subst (λ (s : StepRecord). All Fits s.frames) here (few from.1.0 step within)) scope from.2
