-- Steps in groups, one after another.
use Rattle.std.proofs.Common.{◌≡◌, ℕ, ◌+◌, ◌*◌, ◌<◌, ◌≤◌, List, [], ◌∷◌, ◌++◌, map, length, get_or, take, drop}
use Rattle.std.proofs.Common.{refl, sym, ap, ◌∙◌, arith, append_assoc}
use Rattle.std.specs.Int.{w64, to_be_bytes}
use Rattle.std.specs.List.{range_with_len}
use Rattle.std.proofs.lemmas.List.{append-nil, drop-map, drop_all, drop_more, get_or-map, length-append, length-drop, length-map, length-take, take-map}
use Rattle.std.proofs.lemmas.List.Elements.{All-drop, All-take}
use Rattle.std.proofs.lemmas.List.FromFn.{get_or-map-range_with_len, length-map-range_with_len}
use Rattle.table_checked_pages.specs.Groups.{GroupRecord, bytes_of, group_at, group_rows, groups_in}
use Rattle.table_source_frames.specs.StepGroups.{StepNumbers, difference_bytes, first_start, no_numbers, step_bytes, step_group, step_groups, steps_bytes}
use Rattle.table_source_frames_build.specs.Kept.{KeptRecord}
use Rattle.table_source_frames_build.specs.StepViews.{HaveLocations}
use Rattle.table_source_frames_build.specs.declared.step.Step.{Step}

-- the numbers of a step
pub step_pushed : (before step : StepNumbers) (old a b c d : List ℕ) → a ≡ old ++ difference_bytes before.start step.start
    → b ≡ a ++ difference_bytes before.scope step.scope → c ≡ b ++ difference_bytes before.line step.line
    → d ≡ c ++ difference_bytes before.column step.column → d ≡ old ++ step_bytes before step
unfolding step_bytes
step_pushed before step old a b c d p q r s = simp (s, r, q, p, append_assoc)

-- one step more of a group
pub step_next : (f : Step → StepNumbers) (steps : List Step) (i : ℕ) (d : Step) (before numbers : StepNumbers) (now next whole : List ℕ) → i < length steps
    → numbers ≡ f (get_or steps i d) → next ≡ now ++ step_bytes before numbers
    → now ++ steps_bytes before (map f (drop i steps)) ≡ whole → next ++ steps_bytes numbers (map f (drop (i + 1) steps)) ≡ whole
unfolding steps_bytes
step_next f steps i d before numbers now next whole less is step e =
    let rest : List StepNumbers = map f (drop (i + 1) steps) in
    ap (λ l. l ++ steps_bytes numbers rest) step ∙ append_assoc now (step_bytes before numbers) (steps_bytes numbers rest)
    ∙ ap (λ (n : StepNumbers). now ++ (step_bytes before n ++ steps_bytes n rest)) is
    ∙ ap (λ (ns : List StepNumbers). now ++ steps_bytes before ns) (sym (ap (map f) (drop_more steps i d less))) ∙ e

pub steps_end : (f : Step → StepNumbers) (steps : List Step) (i : ℕ) (before : StepNumbers) (now whole : List ℕ) → length steps ≤ i
    → now ++ steps_bytes before (map f (drop i steps)) ≡ whole → now ≡ whole
unfolding steps_bytes
steps_end f steps i before now whole past e =
    sym (append-nil now) ∙ ap (λ l. now ++ steps_bytes before (map f l)) (sym (drop_all i steps past)) ∙ e

-- ---- groups

pub group_some : (steps : List Step) (i : ℕ) → 128 * i < length steps → 0 < length (group_at steps i)
group_some steps i less = omega (arith, length-take 128 (drop (128 * i) steps), length-drop (128 * i) steps)

pub group_has : (k : KeptRecord) (steps : List Step) (i : ℕ) → HaveLocations k steps → HaveLocations k (group_at steps i)
group_has k steps i have =
    All-take (λ (s : Step). s.location ≤ length k.locations) 128 (drop (128 * i) steps)
    (All-drop (λ (s : Step). s.location ≤ length k.locations) (128 * i) steps have)

module _ (f : Step → StepNumbers) (steps : List Step) where
  abbrev groups : List GroupRecord
  groups = step_groups (map f steps)

  pub groups_long : length groups ≡ groups_in (length steps)
  groups_long =
      length-map (map (group_at (map f steps)) (range_with_len 0 (groups_in (length (map f steps))))) step_group
      ∙ length-map-range_with_len (group_at (map f steps)) 0 (groups_in (length (map f steps)))
      ∙ ap groups_in (length-map steps f)

  -- the group at an index
  group_is : (i : ℕ) (d : GroupRecord) → i < groups_in (length steps) → get_or groups i d ≡ step_group (map f (group_at steps i))
  group_is i d less =
      let long : i < groups_in (length (map f steps)) = omega (arith, less, length-map steps f) in
      let many : length (map (group_at (map f steps)) (range_with_len 0 (groups_in (length (map f steps))))) ≡ groups_in (length (map f steps)) =
      length-map-range_with_len (group_at (map f steps)) 0 (groups_in (length (map f steps))) in
      get_or-map step_group (map (group_at (map f steps)) (range_with_len 0 (groups_in (length (map f steps))))) i [] d (omega (arith, long, many))
      ∙ ap step_group (get_or-map-range_with_len (group_at (map f steps)) 0 (groups_in (length (map f steps))) i i [] long (omega arith)
      ∙ ap (take 128) (drop-map f (128 * i) steps) ∙ take-map f 128 (drop (128 * i) steps))

  -- it has a step
  pub group_inside : (i : ℕ) → i < groups_in (length steps) → 128 * i < length steps
  group_inside i less = omega (arith, less)

  first_is : (xs : List Step) (d : Step) → 0 < length xs → first_start (map f xs) ≡ (f (get_or xs 0 d)).start
  first_is [] d some = absurd (omega arith)
  first_is (x ∷ xs) d some = refl

  -- one group more
  module _ (i key size : ℕ) (d : Step) (now one two bytes_now bytes_next : List ℕ) (less : i < groups_in (length steps))
      (is_key : key ≡ (f (get_or (group_at steps i) 0 d)).start) (some : 0 < length (group_at steps i)) (is_size : size ≡ length bytes_now)
      (first : one ≡ now ++ to_be_bytes w64 key) (second : two ≡ one ++ to_be_bytes w64 size)
      (more : bytes_next ≡ bytes_now ++ steps_bytes no_numbers (map f (group_at steps i))) where
    abbrev group : GroupRecord
    group = step_group (map f (group_at steps i))

    next_group : drop i groups ≡ group ∷ drop (i + 1) groups
    next_group = drop_more groups i group (omega (arith, less, groups_long)) ∙ ap (λ (g : GroupRecord). g ∷ drop (i + 1) groups) (group_is i group less)

    bytes_more : (whole : List ℕ) → bytes_now ++ bytes_of (drop i groups) ≡ whole → bytes_next ++ bytes_of (drop (i + 1) groups) ≡ whole
    bytes_more whole e =
        ap (λ l. l ++ bytes_of (drop (i + 1) groups)) more ∙ append_assoc bytes_now group.bytes (bytes_of (drop (i + 1) groups))
        ∙ ap (λ gs. bytes_now ++ bytes_of gs) (sym next_group) ∙ e

    rows_more : (whole : List ℕ) → now ++ group_rows (length bytes_now) (drop i groups) ≡ whole
        → two ++ group_rows (length bytes_next) (drop (i + 1) groups) ≡ whole
    unfolding group_rows
    rows_more whole e =
        let rest : List GroupRecord = drop (i + 1) groups in
        let long : length bytes_next ≡ length bytes_now + length group.bytes = ap length more ∙ length-append bytes_now group.bytes in
        let key_is : key ≡ group.key = is_key ∙ sym (first_is (group_at steps i) d some) in
        (λ j. (second ∙ ap (λ l. l ++ to_be_bytes w64 size) first) j ++ group_rows (long j) rest)
        ∙ (λ j. ((now ++ to_be_bytes w64 (key_is j)) ++ to_be_bytes w64 (is_size j)) ++ group_rows (length bytes_now + length group.bytes) rest)
        ∙ ap (λ l. l ++ group_rows (length bytes_now + length group.bytes) rest)
        (append_assoc now (to_be_bytes w64 group.key) (to_be_bytes w64 (length bytes_now)))
        ∙ append_assoc now (to_be_bytes w64 group.key ++ to_be_bytes w64 (length bytes_now)) (group_rows (length bytes_now + length group.bytes) rest)
        ∙ ap (λ gs. now ++ group_rows (length bytes_now) gs) (sym next_group) ∙ e

    pub group_more : (rows bytes : List ℕ) → now ++ group_rows (length bytes_now) (drop i groups) ≡ rows → bytes_now ++ bytes_of (drop i groups) ≡ bytes
        → (two ++ group_rows (length bytes_next) (drop (i + 1) groups) ≡ rows) × (bytes_next ++ bytes_of (drop (i + 1) groups) ≡ bytes)
    group_more rows bytes of_rows of_bytes = (rows_more rows of_rows, bytes_more bytes of_bytes)

  pub groups_end : (i size : ℕ) (now whole : List ℕ) → groups_in (length steps) ≤ i → now ++ group_rows size (drop i groups) ≡ whole → now ≡ whole
  unfolding group_rows
  groups_end i size now whole past e =
      sym (append-nil now) ∙ ap (λ gs. now ++ group_rows size gs) (sym (drop_all i groups (omega (arith, past, groups_long)))) ∙ e

  pub bytes_end : (i : ℕ) (now whole : List ℕ) → groups_in (length steps) ≤ i → now ++ bytes_of (drop i groups) ≡ whole → now ≡ whole
  bytes_end i now whole past e =
      sym (append-nil now) ∙ ap (λ gs. now ++ bytes_of gs) (sym (drop_all i groups (omega (arith, past, groups_long)))) ∙ e
