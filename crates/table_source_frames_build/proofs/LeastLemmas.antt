-- The least steps of an image.
use Rattle.std.proofs.Common.{◌≡◌, ◌≢◌, ℕ, zero, suc, ◌+◌, ◌-◌, ◌<◌, ◌≤◌, ◌^◌, List, [], ◌∷◌, length, get_or, refl, sym, ◌∙◌, inl, inr, arith, subst, ◌⊎◌}
use Rattle.std.proofs.Common.{All, Contains}
use Rattle.std.specs.List.{AllByRecursion}
use Rattle.std.specs.List.Sorted.{IsNonDecreasingBy}
use Rattle.std.proofs.lemmas.Bool.{cases_Bool, cases_lt, false≢true}
use Rattle.std.proofs.lemmas.List.Elements.{All-cons, All-head, All-tail, recursion_from_All}
use Rattle.std.proofs.lemmas.List.Sorted.{All-permutation, Contains-permutation, IsPermutation-map}
use Rattle.dwarf_source_frames.specs.AddressFrames.{AreFramesOf}
use Rattle.dwarf_source_frames.specs.Frames.{FrameRecord}
use Rattle.table_source_frames.specs.Numbering.{same_chain}
use Rattle.table_source_frames.specs.Steps.{AreFrameSteps, AreFramesBefore, Changes, Stays, StepRecord, starts_of}
use Rattle.table_source_frames.proofs.SameLemmas.{chain_decides}
use Rattle.table_source_frames_build.specs.Lines.{AreLeastSteps, changes_after}

-- a step starts there
abbrev HasStart : List StepRecord → ℕ → Type 0
HasStart [] a = ⊥
HasStart (s ∷ ss) a = (s.start ≡ a) ⊎ HasStart ss a

has_start : (ss : List StepRecord) (a k : ℕ) → k < length (starts_of ss) → get_or (starts_of ss) k a ≡ a → HasStart ss a
has_start [] a k less e = absurd (omega arith)
has_start (s ∷ ss) a zero less e = inl e
has_start (s ∷ ss) a (suc k) less e = inr (has_start ss a k (omega arith) e)

start_has : (ss : List StepRecord) (a : ℕ) → HasStart ss a → Contains (starts_of ss) a
start_has [] a h = elim h [ ]
start_has (s ∷ ss) a h = elim h [
  | inl e ↦ (0, omega arith, e)
  | inr more ↦ let c = start_has ss a more in (suc c.0, omega (arith, c.1), c.2)
]

-- starts do not fall below the address before this one
abbrev Up : ℕ → List StepRecord → Type 0
Up low [] = Unit {0}
Up low (s ∷ ss) = (low ≤ suc s.start) × Up (suc s.start) ss

-- starts rise from this one on
abbrev Rise : ℕ → List StepRecord → Type 0
Rise low [] = Unit {0}
Rise low (s ∷ ss) = (low ≤ s.start) × Rise (suc s.start) ss

up_from : (ss : List StepRecord) (low : ℕ) → IsNonDecreasingBy (λ (s : StepRecord). s.start) ss
    → ((i : ℕ) (d : StepRecord) → i < length ss → low ≤ suc (get_or ss i d).start) → Up low ss
up_from [] low up least = tt
up_from (s ∷ ss) low up least = (
  least 0 s (omega arith),
  up_from ss (suc s.start) (λ i j d le less. up (suc i) (suc j) d (omega arith) (omega arith))
      (λ i d less. let le = up 0 (suc i) d (omega arith) (omega arith) in omega (arith, le)),
)

-- those that are left start no earlier
no_earlier : (ss : List StepRecord) (low a : ℕ) → Up low ss → a + 1 < low → HasStart ss a → ⊥
no_earlier [] low a up less h = h
no_earlier (s ∷ ss) low a up less h = elim h [
  | inl e ↦ omega (arith, up.0, less, e)
  | inr more ↦ no_earlier ss (suc s.start) a up.1 (omega (arith, up.0, less)) more
]

-- what holds of each holds of each change
each_change : (P : StepRecord → Type 0) (ss : List StepRecord) (before : List FrameRecord) → All P ss → All P (changes_after before ss)
unfolding changes_after
each_change P [] before h = h
each_change P (s ∷ ss) before h = elim (cases_Bool (same_chain s.frames before)) [
  | inl t ↦ rw t (each_change P ss before (All-tail P s ss h))
  | inr f ↦ rw f (All-cons P s (changes_after s.frames ss) (All-head P s ss h) (each_change P ss s.frames (All-tail P s ss h)))
]

module _ (image : List ℕ) (one : (a : ℕ) (f g : List FrameRecord) → AreFramesOf image a f → AreFramesOf image a g → f ≡ g) where
  one_before : (a : ℕ) (f g : List FrameRecord) → AreFramesBefore image a f → AreFramesBefore image a g → f ≡ g
  one_before zero f g p q = p ∙ sym q
  one_before (suc a) f g p q = one a f g p q

  -- frames that stay are those of later addresses
  carried : (count low : ℕ) (before : List FrameRecord) → AreFramesBefore image low before
      → ((a : ℕ) → low ≤ a → a < low + count → Stays image a) → AreFramesBefore image (low + count) before
  carried zero low before is stay = let none : low ≡ low + 0 = omega arith in subst (λ n. AreFramesBefore image n before) none is
  carried (suc count) low before is stay =
      let earlier : AreFramesBefore image (low + count) before = carried count low before is (λ a from less. stay a from (omega arith)) in
      let s = stay (low + count) (omega arith) (omega arith) in
      let same : s.frames ≡ before = one_before (low + count) s.frames before s.are_before earlier in
      let here : AreFramesBefore image (suc (low + count)) before = subst (AreFramesOf image (low + count)) same s.are_frames in
      let more : suc (low + count) ≡ low + suc count = omega arith in
      subst (λ n. AreFramesBefore image n before) more here

  abbrev Outside : ℕ → List StepRecord → Type 0
  Outside low ss = (a : ℕ) → low ≤ a → a < 2 ^ 64 → (HasStart ss a → ⊥) → Stays image a

  record IsWalk (low : ℕ) (steps : List StepRecord) : Type 0 where
    pub rise : Rise low steps
    pub changes : (a : ℕ) → HasStart steps a → Changes image a
    pub stay : Outside low steps

  -- an address that is left
  module _ (s : StepRecord) (ss : List StepRecord) (low : ℕ) (before : List FrameRecord) (new : low ≤ s.start)
      (small : s.start < 2 ^ 64) (up : Up (suc s.start) ss) (is : AreFramesBefore image low before)
      (frames : AreFramesOf image s.start s.frames) (outside : Outside low (s ∷ ss)) where
    earlier : (a : ℕ) → low ≤ a → a < s.start → Stays image a
    earlier a from less = outside a from (omega (arith, less, small)) (λ h. elim h [
      | inl e ↦ omega (arith, e, less)
      | inr more ↦ no_earlier ss (suc s.start) a up (omega (arith, less)) more
    ])

    before_here : AreFramesBefore image s.start before
    before_here =
        let count : ℕ = s.start - low in
        let there : low + count ≡ s.start = omega (arith, new) in
        subst (λ n. AreFramesBefore image n before) there (carried count low before is (λ a from less. earlier a from (omega (arith, less, there))))

    outside_next : Outside (suc s.start) ss
    outside_next a from less none = outside a (omega (arith, from, new)) less (λ h. elim h [
      | inl e ↦ omega (arith, e, from)
      | inr more ↦ none more
    ])

    by_side : (a : ℕ) → low ≤ a → (s.start ≡ a → Stays image a) → (suc s.start ≤ a → Stays image a) → Stays image a
    by_side a from here later = elim (cases_lt a s.start) [
      | inl before_it ↦ earlier a from before_it
      | inr past ↦ elim (cases_lt s.start a) [
        | inl after_it ↦ later (omega (arith, after_it))
        | inr upto ↦ here (omega (arith, past, upto))
      ]
    ]

    kept_walk : s.frames ≡ before → IsWalk (suc s.start) (changes_after before ss) → IsWalk low (changes_after before ss)
    kept_walk same rest =
        let here : Stays image s.start = record { frames = before; are_before = before_here; are_frames = subst (AreFramesOf image s.start) same frames } in
        record {
          rise = rise_lower (changes_after before ss) rest.rise;
          changes = rest.changes;
          stay = λ a from less none. by_side a from (λ at. subst (Stays image) at here) (λ past. rest.stay a past less none);
        }
      where
        rise_lower : (steps : List StepRecord) → Rise (suc s.start) steps → Rise low steps
        rise_lower [] r = tt
        rise_lower (t ∷ steps) r = (omega (arith, r.0, new), r.1)

    changed_walk : s.frames ≢ before → IsWalk (suc s.start) (changes_after s.frames ss) → IsWalk low (s ∷ changes_after s.frames ss)
    changed_walk differ rest = record {
      rise = (new, rest.rise);
      changes = λ a h. elim h [
        | inl e ↦ subst (Changes image) e (record { before = before; frames = s.frames; are_before = before_here; are_frames = frames; differ = differ })
        | inr more ↦ rest.changes a more
      ];
      stay = λ a from less none. by_side a from (λ at. absurd (none (inl at))) (λ past. rest.stay a past less (λ h. none (inr h)));
    }

  walk : (ss : List StepRecord) (low : ℕ) (before : List FrameRecord) → Up low ss → AllByRecursion (λ (s : StepRecord). s.start < 2 ^ 64) ss
      → AllByRecursion (λ (s : StepRecord). AreFramesOf image s.start s.frames) ss → AreFramesBefore image low before
      → Outside low ss → IsWalk low (changes_after before ss)
  unfolding changes_after
  walk [] low before up small frames is outside = record { rise = tt; changes = λ a h. elim h [ ]; stay = outside }
  walk (s ∷ ss) low before up small frames is outside = elim (cases_lt s.start low) [
    | inl again ↦
        let next : low ≡ suc s.start = omega (arith, again, up.0) in
        let same_frames : s.frames ≡ before = one s.start s.frames before frames.0 (subst (λ n. AreFramesBefore image n before) next is) in
        rw ((chain_decides s.frames before).1 same_frames)
        (walk ss low before (subst (λ n. Up n ss) (sym next) up.1) small.1 frames.1 is
        (λ a from less none. outside a from less (λ h. elim h [
          | inl e ↦ absurd (omega (arith, e, from, again))
          | inr more ↦ none more
        ])))
    | inr new ↦
        let rest : Outside (suc s.start) ss = outside_next s ss low before new small.0 up.1 is frames.0 outside in
        elim (cases_Bool (same_chain s.frames before)) [
          | inl t ↦
              let same_frames : s.frames ≡ before = (chain_decides s.frames before).0 t in
              rw t (kept_walk s ss low before new small.0 up.1 is frames.0 outside same_frames
              (walk ss (suc s.start) before up.1 small.1 frames.1 (subst (AreFramesOf image s.start) same_frames frames.0) rest))
          | inr f ↦
              rw f (changed_walk s ss low before new small.0 up.1 is frames.0 outside (λ e. false≢true (sym f ∙ (chain_decides s.frames before).1 e))
              (walk ss (suc s.start) s.frames up.1 small.1 frames.1 frames.0 rest))
        ]
  ]

  -- ---- as they are defined

  from_rise : (ss : List StepRecord) (low j : ℕ) → Rise low ss → j < length (starts_of ss) → low ≤ get_or (starts_of ss) j 0
  from_rise [] low j r less = absurd (omega arith)
  from_rise (s ∷ ss) low zero r less = r.0
  from_rise (s ∷ ss) low (suc j) r less = omega (arith, r.0, from_rise ss (suc s.start) j r.1 (omega arith))

  ascend : (ss : List StepRecord) (low i j : ℕ) → Rise low ss → i < j → j < length (starts_of ss) → get_or (starts_of ss) i 0 < get_or (starts_of ss) j 0
  ascend [] low i j r less within = absurd (omega arith)
  ascend (s ∷ ss) low i zero r less within = absurd (omega arith)
  ascend (s ∷ ss) low zero (suc j) r less within = omega (arith, from_rise ss (suc s.start) j r.1 (omega arith))
  ascend (s ∷ ss) low (suc i) (suc j) r less within = ascend ss (suc s.start) i j r.1 (omega arith) (omega arith)

  pub least_are_steps : (added steps : List StepRecord) → AreLeastSteps added steps
      → All (λ (s : StepRecord). s.start < 2 ^ 64) added
      → All (λ (s : StepRecord). AreFramesOf image s.start s.frames) added
      → ((a : ℕ) → a < 2 ^ 64 → (Contains (starts_of added) a → ⊥) → Stays image a) → AreFrameSteps image steps
  least_are_steps added steps least small frames elsewhere = subst (AreFrameSteps image) (sym least.are_changes) (record {
    rising = λ i j less within. ascend changes 0 i j whole.rise less within;
    below = each_change (λ (s : StepRecord). s.start < 2 ^ 64) least.sorted [] sorted_small;
    each = each_change (λ (s : StepRecord). AreFramesOf image s.start s.frames) least.sorted [] sorted_frames;
    changes = λ a h. whole.changes a (has_start changes a h.0 h.1 h.2);
    stays = λ a less none. whole.stay a (omega arith) less (λ h. none (start_has changes a h));
  })
    where
      changes : List StepRecord
      changes = changes_after [] least.sorted

      sorted_small : All (λ (s : StepRecord). s.start < 2 ^ 64) least.sorted
      sorted_small = All-permutation (λ (s : StepRecord). s.start < 2 ^ 64) added least.sorted least.are_those small

      sorted_frames : All (λ (s : StepRecord). AreFramesOf image s.start s.frames) least.sorted
      sorted_frames = All-permutation (λ (s : StepRecord). AreFramesOf image s.start s.frames) added least.sorted least.are_those frames

      whole : IsWalk 0 (changes_after [] least.sorted)
      whole =
          walk least.sorted 0 [] (up_from least.sorted 0 least.ascend (λ i d less. omega arith))
          (recursion_from_All (λ (s : StepRecord). s.start < 2 ^ 64) least.sorted sorted_small)
          (recursion_from_All (λ (s : StepRecord). AreFramesOf image s.start s.frames) least.sorted sorted_frames) refl
          (λ a from less none. elsewhere a less (λ c.
          let there : Contains (starts_of least.sorted) a =
          Contains-permutation (starts_of added) (starts_of least.sorted) a
          (IsPermutation-map (λ (s : StepRecord). s.start) added least.sorted least.are_those) c in
          none (has_start least.sorted a there.0 there.1 there.2)))
