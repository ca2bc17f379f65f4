-- What a store has taken, and its least steps.
use Rattle.std.proofs.Common.{◌≡◌, ℕ, ◌≤◌, nat_eq, true, false, List, [], ◌∷◌, map, length, get_or}
use Rattle.std.proofs.Common.{refl, sym, ap, ◌∙◌, inl, inr, arith, subst}
use Rattle.std.specs.List.Sorted.{IsNonDecreasingBy, IsPermutation}
use Rattle.std.proofs.lemmas.Bool.{cases_Bool}
use Rattle.std.proofs.lemmas.List.{get_or-map, length-map}
use Rattle.std.proofs.lemmas.List.Elements.{All-cons, All-head, All-tail}
use Rattle.std.proofs.lemmas.List.Sorted.{All-permutation, IsPermutation-map}
use Rattle.table_source_frames.specs.LineTable.{IsLineTextWithin}
use Rattle.table_source_frames.specs.Numbering.{same_chain}
use Rattle.table_source_frames.specs.Steps.{StepRecord}
use Rattle.table_source_frames.proofs.SameLemmas.{chain_decides}
use Rattle.table_source_frames_build.specs.Kept.{Grows, IsKept, IsLocation, KeptRecord, KeepsNumbers, chain_at}
use Rattle.table_source_frames_build.specs.Lines.{AreLeastSteps, IsWritten, changes_after}
use Rattle.table_source_frames_build.specs.StepViews.{HaveLocations, changed_after, step_of}
use Rattle.table_source_frames_build.specs.declared.step.Step.{Step}
use Rattle.table_source_frames_build.proofs.KeptLemmas.{chain_none, chain_same, location_stays, name_stays, path_stays}
use Rattle.table_source_frames_build.proofs.FirstUsesLemmas.{told_same}
use Rattle.table_source_frames_build.proofs.ChainLemmas.{chain_apart}

-- ---- what is kept grows

module _ (old new : KeptRecord) (kept : IsKept old) (grows : Grows old new) where
  steps_same : (steps : List Step) → HaveLocations old steps → map (step_of new) steps ≡ map (step_of old) steps
  steps_same [] h = refl
  steps_same (s ∷ steps) h =
      let here : step_of new s ≡ step_of old s =
      λ i. record {
        start = s.start;
        frames = chain_same old new grows kept s.location
            (All-head (λ (t : Step). t.location ≤ length old.locations) s steps h) i;
      } in
      λ i. here i ∷ steps_same steps (All-tail (λ (t : Step). t.location ≤ length old.locations) s steps h) i

  pub still_tells : KeepsNumbers old new
  still_tells = record { names = name_stays old new kept grows; paths = path_stays old new kept grows; frames = location_stays old new kept grows }

  pub told_before : (value : KeptRecord) → old ≡ value → KeepsNumbers value new
  told_before value e = subst (λ k. KeepsNumbers k new) e still_tells

  pub taken_same : (steps : List Step) (value : List StepRecord) → HaveLocations old steps
      → map (step_of old) steps ≡ value → map (step_of new) steps ≡ value
  taken_same steps value h e = steps_same steps h ∙ e

pub no_frames_located : (k : KeptRecord) → IsLocation k 0 []
no_frames_located k = record { within = omega arith; is = chain_none k }

-- ---- the least steps

module _ (k : KeptRecord) (kept : IsKept k) where
  changes_told : (steps : List Step) (before : ℕ) → before ≤ length k.locations → HaveLocations k steps
      → map (step_of k) (changed_after before steps) ≡ changes_after (chain_at k before) (map (step_of k) steps)
  unfolding changed_after changes_after
  changes_told [] before b h = refl
  changes_told (s ∷ steps) before b h =
      let within : s.location ≤ length k.locations = All-head (λ (t : Step). t.location ≤ length k.locations) s steps h in
      let rest = All-tail (λ (t : Step). t.location ≤ length k.locations) s steps h in
      let same : same_chain (chain_at k s.location) (chain_at k before) ≡ nat_eq s.location before =
      told_same (λ n. n ≤ length k.locations) (chain_at k) same_chain chain_decides (chain_apart k kept) s.location before within b in
      elim (cases_Bool (nat_eq s.location before)) [
        | inl t ↦ let is : same_chain (chain_at k s.location) (chain_at k before) ≡ true = same ∙ t in rw (t, is) (changes_told steps before b rest)
        | inr f ↦ let is : same_chain (chain_at k s.location) (chain_at k before) ≡ false = same ∙ f
            in rw (f, is) (ap (λ l. step_of k s ∷ l) (changes_told steps s.location within rest))
      ]

  pub changed_locations : (steps : List Step) (before : ℕ) → HaveLocations k steps → HaveLocations k (changed_after before steps)
  unfolding changed_after
  changed_locations [] before h = h
  changed_locations (s ∷ steps) before h =
      let rest = All-tail (λ (t : Step). t.location ≤ length k.locations) s steps h in
      elim (cases_Bool (nat_eq s.location before)) [
        | inl t ↦ rw t (changed_locations steps before rest)
        | inr f ↦
            rw f (All-cons (λ (t : Step). t.location ≤ length k.locations) s (changed_after s.location steps)
            (All-head (λ (t : Step). t.location ≤ length k.locations) s steps h)
            (changed_locations steps s.location rest))
      ]

  ascend_told : (steps : List Step) → IsNonDecreasingBy (λ (s : Step). s.start) steps → IsNonDecreasingBy (λ (s : StepRecord). s.start) (map (step_of k) steps)
  ascend_told steps up i j d le less =
      let none : Step = record { start = 0; location = 0 } in
      let long : length (map (step_of k) steps) ≡ length steps = length-map steps (step_of k) in
      let one : (get_or (map (step_of k) steps) i d).start ≡ (get_or steps i none).start =
      ap (λ (s : StepRecord). s.start) (get_or-map (step_of k) steps i none d (omega (arith, le, less, long))) in
      let two : (get_or (map (step_of k) steps) j d).start ≡ (get_or steps j none).start =
      ap (λ (s : StepRecord). s.start) (get_or-map (step_of k) steps j none d (omega (arith, less, long))) in
      omega (arith, one, two, up i j none le (omega (arith, less, long)))

  pub least_are : (steps sorted changed : List Step) → HaveLocations k steps → IsPermutation steps sorted
      → IsNonDecreasingBy (λ (s : Step). s.start) sorted → changed ≡ changed_after 0 sorted
      → AreLeastSteps (map (step_of k) steps) (map (step_of k) changed)
  least_are steps sorted changed h those up is = record {
    sorted = map (step_of k) sorted;
    are_those = IsPermutation-map (step_of k) steps sorted those;
    ascend = ascend_told sorted up;
    are_changes =
        ap (map (step_of k)) is ∙ changes_told sorted 0 (omega arith) (All-permutation (λ (t : Step). t.location ≤ length k.locations) steps sorted those h)
        ∙ ap (λ c. changes_after c (map (step_of k) sorted)) (chain_none k);
  }

  pub changed_are : (steps sorted changed : List Step) → HaveLocations k steps → IsPermutation steps sorted → changed
      ≡ changed_after 0 sorted → HaveLocations k changed
  changed_are steps sorted changed h those is =
      subst (HaveLocations k) (sym is) (changed_locations sorted 0 (All-permutation (λ (t : Step). t.location ≤ length k.locations) steps sorted those h))

  -- ---- what is written

  pub written : (room : ℕ) (strings : List ℕ) (steps changed : List Step) (value : List StepRecord) (bytes : List ℕ)
      → map (step_of k) steps ≡ value → AreLeastSteps (map (step_of k) steps) (map (step_of k) changed)
      → IsLineTextWithin room strings (map (step_of k) changed) bytes → IsWritten room strings value bytes
  written room strings steps changed value bytes e least text = subst (λ v. IsWritten room strings v bytes) e (map (step_of k) changed, least, text)
