-- The frames of an address by the steps of its image, and that these are one list.
use Rattle.std.proofs.Common.{◌≡◌, ℕ, zero, suc, ◌<◌, ◌^◌, List, [], ◌∷◌, length, get_or, sym, ap, ◌∙◌, subst, inl, inr}
use Rattle.std.proofs.Common.{arith, Contains, Option, Some, None, ◌⊎◌}
use Rattle.std.specs.Option.{option_map_or}
use Rattle.std.proofs.lemmas.Bool.{cases_eq}
use Rattle.std.proofs.lemmas.List.{get_or-map, get_or_default, same_lists}
use Rattle.std.proofs.lemmas.List.Elements.{Contains-get_or}
use Rattle.std.proofs.lemmas.Option.{slice_get-get_or}
use Rattle.std.proofs.Math.ListN.{length-map}
use Rattle.dwarf_source_frames.specs.AddressFrames.{AreFramesOf}
use Rattle.dwarf_source_frames.specs.Frames.{FrameRecord}
use Rattle.dwarf_asked_addresses.specs.Rising.{AreRising}
use Rattle.dwarf_asked_addresses.proofs.RisingLists.{first_or_rest, one_rising, rest_is}
use Rattle.table_source_frames.specs.Steps.{StepRecord, starts_of, AreAscending, AreFramesBefore, Changes, Stays}
use Rattle.table_source_frames.specs.Steps.{AreFrameSteps, IsLastNotAbove, IsStepFor, frames_at}

-- ---- numbers that ascend

pub rising_rest : (x : ℕ) (xs : List ℕ) → AreAscending (x ∷ xs) → AreAscending xs
rising_rest x xs rising i j l m = rising (suc i) (suc j) (omega arith) (omega arith)

-- so they rise, whatever stands for one that is missing
risen : (xs : List ℕ) → AreAscending xs → AreRising xs
risen xs rising i j d l m = omega (arith, rising i j l m, get_or_default xs i d 0 (omega (arith, l, m)), get_or_default xs j d 0 m)

-- a number is among some, or not
member : (xs : List ℕ) (a : ℕ) → Contains xs a ⊎ (Contains xs a → ⊥)
member [] a = inr (λ h. omega (arith, h.1))
member (x ∷ xs) a = elim (cases_eq x a) [
  | inl e ↦ inl (0, omega arith, e)
  | inr ne ↦ elim (member xs a) [
    | inl h ↦ inl (rest_is x xs a h)
    | inr none ↦ inr (λ h. elim (first_or_rest x xs a h) [ inl e ↦ ne e | inr m ↦ none m ])
  ]
]

-- the number of an index, if it is this one, is a member
member_at : (xs : List ℕ) (k a : ℕ) → k < length xs → get_or xs k 0 ≡ a → Contains xs a
member_at xs k a l e = subst (Contains xs) e (Contains-get_or xs k 0 l)

-- ---- steps

pub no_step : StepRecord
no_step = record { start = 0; frames = [] }

-- where a step starts, as one of the starts
pub start_at : (steps : List StepRecord) (k : ℕ) (d : StepRecord) (e : ℕ) → k < length steps → get_or (starts_of steps) k e ≡ (get_or steps k d).start
start_at steps k d e l = get_or-map (λ s. s.start) steps k d e l

pub starts_long : (steps : List StepRecord) → length (starts_of steps) ≡ length steps
starts_long steps = length-map steps (λ s. s.start)

pub frames_there : (steps : List StepRecord) (k : ℕ) (d : StepRecord) → k < length steps → frames_at steps (Some k) ≡ (get_or steps k d).frames
frames_there steps k d l = ap (λ (o : Option StepRecord). option_map_or (λ s. s.frames) o []) (slice_get-get_or steps k d l)

last_at : (starts : List ℕ) (a k : ℕ) → AreAscending starts → k < length starts → get_or starts k 0 ≡ a → IsLastNotAbove starts a k
last_at starts a k rising l e = record {
  stands = l;
  not_above = omega (arith, e);
  others = λ j m n. omega (arith, rising k j m n, e);
}

-- the step of an address at which none stands is that of the address before
step_before : (starts : List ℕ) (b : ℕ) (found : Option ℕ) → (Contains starts (suc b) → ⊥) → IsStepFor starts (suc b) found → IsStepFor starts b found
step_before starts b None none above = λ j l. omega (arith, above j l)
step_before starts b (Some k) none is = record {
  stands = is.stands;
  not_above = elim (cases_eq (get_or starts k 0) (suc b)) [
    | inl e ↦ absurd (none (member_at starts k (suc b) is.stands e))
    | inr ne ↦ omega (arith, is.not_above, ne)
  ];
  others = λ j m n. omega (arith, is.others j m n);
}

module _ (only : (image : List ℕ) (address : ℕ) (one other : List FrameRecord) → AreFramesOf image address one → AreFramesOf image address other → one ≡ other)
    (image : List ℕ) where
  before_once : (a : ℕ) (one other : List FrameRecord) → AreFramesBefore image a one → AreFramesBefore image a other → one ≡ other
  before_once zero one other p q = p ∙ sym q
  before_once (suc b) one other p q = only image b one other p q

  not_both : (a : ℕ) → Changes image a → Stays image a → ⊥
  not_both a c s = c.differ (only image a c.frames s.frames c.are_frames s.are_frames ∙ before_once a s.frames c.before s.are_before c.are_before)

  module _ (once : (starts : List ℕ) (address : ℕ) (found other : Option ℕ) → IsStepFor starts address found → IsStepFor starts address other → found ≡ other)
      (steps : List StepRecord) (are : AreFrameSteps image steps) where
    at_step : (a : ℕ) → Contains (starts_of steps) a → (found : Option ℕ) → IsStepFor (starts_of steps) a found → AreFramesOf image a (frames_at steps found)
    at_step a h found is =
        let within : h.0 < length steps = omega (arith, h.1, starts_long steps) in
        let start : (get_or steps h.0 no_step).start ≡ a = sym (start_at steps h.0 no_step a within) ∙ h.2 in
        let last : IsLastNotAbove (starts_of steps) a h.0 =
        last_at (starts_of steps) a h.0 are.rising h.1 (get_or_default (starts_of steps) h.0 0 a h.1 ∙ h.2) in
        let same : found ≡ Some h.0 = once (starts_of steps) a found (Some h.0) is last in
        let here : AreFramesOf image a (get_or steps h.0 no_step).frames =
        subst (λ n. AreFramesOf image n (get_or steps h.0 no_step).frames) start (are.each h.0 no_step within) in
        subst (AreFramesOf image a) (sym (ap (frames_at steps) same ∙ frames_there steps h.0 no_step within)) here

    at_first : (found : Option ℕ) → IsStepFor (starts_of steps) 0 found → (Contains (starts_of steps) 0 → ⊥)
        → Stays image 0 → AreFramesOf image 0 (frames_at steps found)
    at_first None is none stays = subst (AreFramesOf image 0) stays.are_before stays.are_frames
    at_first (Some k) is none stays = absurd (none (member_at (starts_of steps) k 0 is.stands (omega (arith, is.not_above))))

    pub by_step : (a : ℕ) → a < 2 ^ 64 → (found : Option ℕ) → IsStepFor (starts_of steps) a found → AreFramesOf image a (frames_at steps found)
    by_step zero fits found is = elim (member (starts_of steps) 0) [
      | inl h ↦ at_step 0 h found is
      | inr none ↦ at_first found is none (are.stays 0 fits none)
    ]
    by_step (suc b) fits found is = elim (member (starts_of steps) (suc b)) [
      | inl h ↦ at_step (suc b) h found is
      | inr none ↦
          let stays : Stays image (suc b) = are.stays (suc b) fits none in
          let before : AreFramesOf image b (frames_at steps found) = by_step b (omega (arith, fits)) found (step_before (starts_of steps) b found none is) in
          subst (AreFramesOf image (suc b)) (only image b stays.frames (frames_at steps found) stays.are_before before) stays.are_frames
    ]

  start_fits : (steps : List StepRecord) → AreFrameSteps image steps → (a : ℕ) → Contains (starts_of steps) a → a < 2 ^ 64
  start_fits steps are a h =
      let within : h.0 < length steps = omega (arith, h.1, starts_long steps) in
      omega (arith, are.below h.0 no_step within, start_at steps h.0 no_step a within, h.2)

  -- a step of the one is a step of the other
  also_there : (steps others : List StepRecord) → AreFrameSteps image steps → AreFrameSteps image others → (a : ℕ)
      → Contains (starts_of steps) a → Contains (starts_of others) a
  also_there steps others p q a h = elim (member (starts_of others) a) [
    | inl k ↦ k
    | inr none ↦ absurd (not_both a (p.changes a h) (q.stays a (start_fits steps p a h) none))
  ]

  pub steps_once : (steps others : List StepRecord) → AreFrameSteps image steps → AreFrameSteps image others → steps ≡ others
  steps_once steps others p q =
      let starts : starts_of steps ≡ starts_of others =
      one_rising (starts_of steps) (starts_of others) (risen (starts_of steps) p.rising)
      (risen (starts_of others) q.rising) (also_there steps others p q) (also_there others steps q p) in
      let long : length steps ≡ length others = sym (starts_long steps) ∙ ap length starts ∙ starts_long others in
      same_lists steps others long (λ k d l.
      let within : k < length others = omega (arith, l, long) in
      let start : (get_or steps k d).start ≡ (get_or others k d).start =
      sym (start_at steps k d 0 l) ∙ ap (λ (xs : List ℕ). get_or xs k 0) starts ∙ start_at others k d 0 within in
      let frames : (get_or steps k d).frames ≡ (get_or others k d).frames =
      only image (get_or others k d).start (get_or steps k d).frames (get_or others k d).frames
      (subst (λ n. AreFramesOf image n (get_or steps k d).frames) start (p.each k d l)) (q.each k d within) in
      λ i. record { start = start i; frames = frames i })
