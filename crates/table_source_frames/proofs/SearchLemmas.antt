-- The step of an address: the group of its number, and the step in it.
use Rattle.std.proofs.Common.{◌≡◌, ℕ, zero, suc, ◌+◌, ◌-◌, ◌*◌, ◌<◌, ◌≤◌, ◌^◌, ◌⊎◌, List, [], ◌∷◌, ◌++◌, length, take, drop, get_or, refl, sym, ap, ◌∙◌}
use Rattle.std.proofs.Common.{subst, inl, inr, arith, length-append, Some, None}
use Rattle.std.specs.Prelude.{All, map}
use Rattle.std.specs.List.{range_with_len}
use Rattle.std.proofs.lemmas.Bool.{cases_lt}
use Rattle.std.proofs.lemmas.List.{append-nil, append_assoc, get_or-drop, get_or-map, get_or-take, length-drop, length-take, map-append}
use Rattle.std.proofs.lemmas.List.Elements.{All-drop, All-take}
use Rattle.std.proofs.lemmas.List.FromFn.{get_or-range_with_len, length-range_with_len}
use Rattle.std.proofs.lemmas.Option.{none-some, same_Some, slice_get-get_or}
use Rattle.std.proofs.Math.ListN.{length-map}
use Rattle.table_checked_pages.specs.Groups.{AreGroups, AreGroupsIn, GroupRecord, IsBytesOf, group_at, groups_in}
use Rattle.table_checked_pages.specs.Groups.{groups_of, keys_of, stored_group}
use Rattle.table_checked_pages.specs.declared.pages.Pages.{Pages}
use Rattle.dwarf_encoding.specs.Leb128.{signed_leb128_bytes}
use Rattle.dwarf_source_frames.specs.Frames.{FrameRecord}
use Rattle.table_source_frames.specs.FrameViews.{owned_frame_view, owned_frames}
use Rattle.table_source_frames.specs.Inner.{AreNoSteps, FitsPosition, IsLastStep, IsMaybeScope, IsPosition}
use Rattle.table_source_frames.specs.Inner.{HasPosition, IsPositionOf, IsScopeNumber, group_bytes_of}
use Rattle.table_source_frames.specs.LineText.{LineParts, numbers_of, parts_of, scope_number}
use Rattle.table_source_frames.specs.LineText.{scope_of}
use Rattle.table_source_frames.specs.Numbering.{same_chain}
use Rattle.table_source_frames.specs.OfBytes.{IsStoredStep, groups_place}
use Rattle.table_source_frames.specs.Opened.{HaveWidths, IsOpened}
use Rattle.table_source_frames.specs.StepGroups.{StepNumbers, difference_bytes, first_start, no_numbers}
use Rattle.table_source_frames.specs.StepGroups.{step_bytes, step_group, steps_bytes, steps_on}
use Rattle.table_source_frames.specs.Steps.{AreAscending, IsLastNotAbove, IsStepFor, StepRecord, frames_at, starts_of}
use Rattle.table_source_frames.specs.declared.frame.OwnedFrame.{OwnedFrame}
use Rattle.table_source_frames.specs.declared.row.Position.{Position}
use Rattle.table_source_frames.specs.declared.table.LineTable.{LineTable}
use Rattle.table_source_frames.proofs.NumberingLemmas.{number_within}
use Rattle.table_source_frames.proofs.OpenedLemmas.{groups_at, maybe_scope}
use Rattle.table_source_frames.proofs.SameLemmas.{chain_decides}
use Rattle.table_source_frames.proofs.ScopeLemmas.{step_fits, step_has}
use Rattle.table_source_frames.proofs.StepGroupLemmas.{FitsStep, IsReadBack, end_back, last_at, last_none, last_of, next_read, not_ended, read_within}
use Rattle.table_source_frames.proofs.StepLemmas.{frames_there, no_step, start_at, starts_long}
use Rattle.table_source_frames.proofs.TablePartLemmas.{groups_in_parts, length-groups}

-- numbers that ascend do not fall
not_less : (xs : List ℕ) → AreAscending xs → (i j : ℕ) → i ≤ j → j < length xs → get_or xs i 0 ≤ get_or xs j 0
not_less xs rising i j le l = elim (cases_lt i j) [
  | inl less ↦ omega (arith, rising i j less l)
  | inr more ↦
      let same : i ≡ j = omega (arith, le, more) in
      omega (arith, ap (λ k. get_or xs k 0) same)
]

-- ---- rows of groups

-- a group is full, or has the rest
group_size : {A : Type 0} (xs : List A) (i : ℕ) → 128 * i ≤ length xs
    → (length (group_at xs i) ≤ 128) × (128 * i + length (group_at xs i) ≤ length xs)
    × ((length (group_at xs i) ≡ 128) ⊎ (128 * i + length (group_at xs i) ≡ length xs))
group_size xs i within =
    let long = length-take 128 (drop (128 * i) xs) in
    let rest = length-drop (128 * i) xs in (
      omega (arith, long, rest),
      omega (arith, long, rest),
      elim (cases_lt (length xs - 128 * i) 128) [
        | inl less ↦ inr (omega (arith, long, rest, less, within))
        | inr more ↦ inl (omega (arith, long, rest, more))
      ],
    )

get_or-group : {A : Type 0} (xs : List A) (i j : ℕ) (d : A) → j < 128 → get_or (group_at xs i) j d ≡ get_or xs (128 * i + j) d
get_or-group xs i j d l = get_or-take 128 (drop (128 * i) xs) j d l ∙ get_or-drop (128 * i) xs j d

-- ---- the groups of a table

abbrev numbers_in : LineParts → List StepNumbers
numbers_in parts = map (numbers_of parts) parts.steps

-- the steps of the group of an index
abbrev rows_at : LineParts → ℕ → List StepNumbers
rows_at parts i = group_at (numbers_in parts) i

group_there : (parts : LineParts) (i : ℕ) (d : GroupRecord) → i < length (groups_in_parts parts)
    → get_or (groups_in_parts parts) i d ≡ step_group (rows_at parts i)
group_there parts i d l =
    let numbers : List StepNumbers = numbers_in parts in
    let range : List ℕ = range_with_len 0 (groups_in (length numbers)) in
    let within : i < groups_in (length numbers) = omega (arith, l, length-groups parts, ap groups_in (length-map parts.steps (numbers_of parts))) in
    let long : length (groups_of numbers) ≡ groups_in (length numbers) =
    length-map range (group_at numbers) ∙ length-range_with_len 0 (groups_in (length numbers)) in
    get_or-map step_group (groups_of numbers) i [] d (omega (arith, within, long))
    ∙ ap step_group (get_or-map (group_at numbers) range i 0 [] (omega (arith, within, length-range_with_len 0 (groups_in (length numbers))))
    ∙ ap (group_at numbers) (get_or-range_with_len 0 (groups_in (length numbers)) i 0 within ∙ omega arith))

abbrev IsAtMostTen : Type 0
IsAtMostTen = (number : ℕ) → length (signed_leb128_bytes number) ≤ 10

module _ (few : IsAtMostTen) where
  few_difference : (before number : ℕ) → length (difference_bytes before number) ≤ 10
  unfolding difference_bytes
  few_difference before number = few _

  few_step : (before step : StepNumbers) → length (step_bytes before step) ≤ 40
  unfolding step_bytes
  few_step before step =
      let a : List ℕ = difference_bytes before.start step.start in
      let b : List ℕ = difference_bytes before.scope step.scope in
      let c : List ℕ = difference_bytes before.line step.line in
      let d : List ℕ = difference_bytes before.column step.column in
      omega (
        arith,
        length-append a (b ++ (c ++ d)),
        length-append b (c ++ d),
        length-append c d,
        few_difference before.start step.start,
        few_difference before.scope step.scope,
        few_difference before.line step.line,
        few_difference before.column step.column,
      )

  few_steps : (before : StepNumbers) (steps : List StepNumbers) → length (steps_bytes before steps) ≤ 40 * length steps
  unfolding steps_bytes
  few_steps before [] = omega arith
  few_steps before (step ∷ steps) =
      omega (arith, length-append (step_bytes before step) (steps_bytes step steps), few_step before step, few_steps step steps)

-- what a call found in a group: the step of the address is at this index
pub record IsFoundAt (strings : List ℕ) (steps : List StepRecord) (address : ℕ) (step : StepNumbers) : Type 0 where
  pub at : ℕ
  pub within : at < length steps
  pub is : step ≡ numbers_of (parts_of strings steps) (get_or steps at no_step)
  pub last : IsLastNotAbove (starts_of steps) address at

module _ (strings : List ℕ) (steps : List StepRecord) (widths : HaveWidths strings steps) where
  abbrev parts : LineParts
  parts = parts_of strings steps

  pub scope_fits : (frames : List FrameRecord) → scope_number parts frames < 2 ^ 32
  scope_fits frames = omega (arith, number_within same_chain chain_decides parts.scopes (scope_of frames), widths.few.scopes)

  numbers_long : length (numbers_in parts) ≡ length steps
  numbers_long = length-map steps (numbers_of parts)

  numbers_there : (k : ℕ) (d : StepNumbers) → k < length steps → get_or (numbers_in parts) k d ≡ numbers_of parts (get_or steps k no_step)
  numbers_there k d l = get_or-map (numbers_of parts) steps k no_step d l

  numbers_fit : All FitsStep (numbers_in parts)
  numbers_fit k d l =
      let within : k < length steps = omega (arith, l, numbers_long) in
      let lines = step_fits steps widths.lines k no_step within in
      let start = widths.starts k no_step within in
      subst FitsStep (sym (numbers_there k d within)) (record {
        start = start;
        scope = omega (arith, scope_fits (get_or steps k no_step).frames);
        line = omega (arith, lines.0);
        column = omega (arith, lines.1);
      })

  rows_fit : (i : ℕ) → All FitsStep (rows_at parts i)
  rows_fit i = All-take FitsStep 128 (drop (128 * i) (numbers_in parts)) (All-drop FitsStep (128 * i) (numbers_in parts) numbers_fit)

  key_fits : (rows : List StepNumbers) → All FitsStep rows → first_start rows < 2 ^ 64
  key_fits [] fit = omega arith
  key_fits (row ∷ rows) fit = (fit 0 row (omega arith)).start

  pub groups_fit : IsAtMostTen → AreGroups (groups_in_parts parts)
  groups_fit few i d l =
      subst (λ (g : GroupRecord). (g.key < 2 ^ 64) × (length g.bytes ≤ 5120)) (sym (group_there parts i d l)) (
        key_fits (rows_at parts i) (rows_fit i),
        omega (arith, few_steps few no_numbers (rows_at parts i), length-take 128 (drop (128 * i) (numbers_in parts))),
      )

  -- the position of a step fits
  pub position_fits : (k : ℕ) → k < length steps → FitsPosition (numbers_of parts (get_or steps k no_step))
  position_fits k l =
      let lines = step_fits steps widths.lines k no_step l in
      record { scope = scope_fits (get_or steps k no_step).frames; line = lines.0; column = lines.1 }

  -- ---- the last step in a group

  module _ (read_back : IsReadBack) (index : ℕ) (there : index < groups_in (length steps)) where
    abbrev rows : List StepNumbers
    rows = rows_at parts index

    size : (length rows ≤ 128) × (128 * index + length rows ≤ length steps) × ((length rows ≡ 128) ⊎ (128 * index + length rows ≡ length steps))
    size =
        let whole = group_size (numbers_in parts) index (omega (arith, there, numbers_long)) in
        (whole.0, omega (arith, whole.1, numbers_long), elim whole.2 [ inl full ↦ inl full | inr rest ↦ inr (omega (arith, rest, numbers_long)) ])

    some_rows : 0 < length rows
    some_rows = elim size.2 [ inl full ↦ omega (arith, full) | inr rest ↦ omega (arith, rest, there) ]

    row_there : (j : ℕ) (d : StepNumbers) → j < length rows → get_or rows j d ≡ numbers_of parts (get_or steps (128 * index + j) no_step)
    row_there j d l =
        get_or-group (numbers_in parts) index j d (omega (arith, l, size.0)) ∙ numbers_there (128 * index + j) d (omega (arith, l, size.1))

    start_of_row : (j : ℕ) → j < length rows → (get_or rows j no_numbers).start ≡ get_or (starts_of steps) (128 * index + j) 0
    start_of_row j l =
        ap (λ (s : StepNumbers). s.start) (row_there j no_numbers l)
        ∙ sym (start_at steps (128 * index + j) no_step 0 (omega (arith, l, size.1)))

    first_is : (xs : List StepNumbers) → 0 < length xs → first_start xs ≡ (get_or xs 0 no_numbers).start
    first_is [] some = absurd (omega arith)
    first_is (x ∷ xs) some = refl

    pub key_at : get_or (keys_of (groups_in_parts parts)) index 0 ≡ get_or (starts_of steps) (128 * index) 0
    key_at =
        let d : GroupRecord = record { key = 0; bytes = [] } in
        let within : index < length (groups_in_parts parts) = omega (arith, there, length-groups parts) in
        let first : 128 * index + 0 ≡ 128 * index = omega arith in
        get_or-map (λ (g : GroupRecord). g.key) (groups_in_parts parts) index d 0 within
        ∙ ap (λ (g : GroupRecord). g.key) (group_there parts index d within)
        ∙ first_is rows some_rows ∙ start_of_row 0 some_rows ∙ ap (λ k. get_or (starts_of steps) k 0) first

    -- the steps of a group can be read
    pub are_steps : (address : ℕ) → AreNoSteps (group_bytes_of parts index) address → ⊥
    are_steps address none =
        let read = read_within read_back none.count rows none.step none.rest (rows_fit index) none.are.read in
        elim (cases_lt none.count (length rows)) [
          | inl less ↦
              let next = next_read read_back none.count rows none.step none.rest (rows_fit index) read.1 read.2 less in
              none-some (get_or rows none.count no_numbers, next.0) (sym none.none ∙ next.1)
          | inr all ↦ none.some (read.2 ∙ end_back read_back none.count none.step rows all)
        ]

    module _ (address : ℕ) (step : StepNumbers) (is : IsLastStep (group_bytes_of parts index) address step)
        (rising : AreAscending (starts_of steps)) (first : get_or (starts_of steps) (128 * index) 0 ≤ address)
        (past : 128 * (index + 1) < length steps → address < get_or (starts_of steps) (128 * (index + 1)) 0) where
      read : (is.count ≤ length rows) × (step ≡ last_of is.count no_numbers rows) × (is.rest ≡ steps_bytes step (drop is.count rows))
      read = read_within read_back is.count rows step is.rest (rows_fit index) is.are.read

      -- the next step of the group starts above the address
      next_above : is.count < length rows → address < get_or (starts_of steps) (128 * index + is.count) 0
      next_above less =
          let next = next_read read_back is.count rows step is.rest (rows_fit index) read.1 read.2 less in
          elim is.next [
            | inl none ↦ absurd (not_ended read_back step (get_or rows is.count no_numbers, next.0) is.rest none next.1)
            | inr x ↦
                let same = same_Some x.0 (get_or rows is.count no_numbers, next.0) (sym x.1 ∙ next.1) in
                let start : x.0.0.start ≡ (get_or rows is.count no_numbers).start = ap (λ (y : StepNumbers × List ℕ). y.0.start) same in
                omega (arith, x.2, start, start_of_row is.count less)
          ]

      others_above : (j : ℕ) → is.count ≡ suc j → (m : ℕ) → 128 * index + j < m → m < length (starts_of steps) → address < get_or (starts_of steps) m 0
      others_above j counted m more l = elim (cases_lt is.count (length rows)) [
        | inl less ↦
            omega (
              arith,
              next_above less,
              not_less (starts_of steps) rising (128 * index + is.count) m (omega (arith, counted, more)) l,
            )
        | inr all ↦ elim size.2 [
          | inl full ↦
              let reach : 128 * (index + 1) ≤ m = omega (arith, full, all, counted, read.0, more) in
              omega (arith, past (omega (arith, reach, l, starts_long steps)), not_less (starts_of steps) rising (128 * (index + 1)) m reach l)
          | inr rest ↦ absurd (omega (arith, rest, all, counted, read.0, more, l, starts_long steps))
        ]
      ]

      found_after : (j : ℕ) → is.count ≡ suc j → IsFoundAt strings steps address step
      found_after j counted =
          let inside : j < length rows = omega (arith, counted, read.0) in
          let at : ℕ = 128 * index + j in
          let within : at < length steps = omega (arith, inside, size.1) in
          let row : step ≡ get_or rows j no_numbers =
          read.1 ∙ ap (λ k. last_of k no_numbers rows) counted ∙ last_at j no_numbers rows no_numbers inside in
          let start : step.start ≡ get_or (starts_of steps) at 0 = ap (λ (s : StepNumbers). s.start) row ∙ start_of_row j inside in
          record {
            at = at;
            within = within;
            is = row ∙ row_there j no_numbers inside;
            last = record {
              stands = omega (arith, within, starts_long steps);
              not_above =
                  omega (arith, start, is.are.up_to is.count (step, is.rest) (omega (arith, counted)) (omega arith) is.are.read);
              others = λ m more l. others_above j counted m more l;
            };
          }

      pub found_at : IsFoundAt strings steps address step
      found_at = by_count is.count refl
        where
          by_count : (count : ℕ) → is.count ≡ count → IsFoundAt strings steps address step
          by_count zero none =
              let here = next_above (omega (arith, none, some_rows)) in
              let same : 128 * index + is.count ≡ 128 * index = omega (arith, none) in
              absurd (omega (arith, first, subst (λ k. address < get_or (starts_of steps) k 0) same here))
          by_count (suc j) counted = found_after j counted

    -- the position of what is found in a group fits
    pub last_fits : (address : ℕ) (step : StepNumbers) → IsLastStep (group_bytes_of parts index) address step → FitsPosition step
    last_fits address step is = by_count is.count refl
      where
        there_is : (is.count ≤ length rows) × (step ≡ last_of is.count no_numbers rows) × (is.rest ≡ steps_bytes step (drop is.count rows))
        there_is = read_within read_back is.count rows step is.rest (rows_fit index) is.are.read

        by_count : (count : ℕ) → is.count ≡ count → FitsPosition step
        by_count zero none =
            subst FitsPosition (sym (there_is.1 ∙ ap (λ k. last_of k no_numbers rows) none ∙ last_none no_numbers rows))
            (record { scope = omega arith; line = omega arith; column = omega arith })
        by_count (suc j) counted =
            let inside : j < length rows = omega (arith, counted, there_is.0) in
            let row : step ≡ numbers_of parts (get_or steps (128 * index + j) no_step) =
            there_is.1 ∙ ap (λ k. last_of k no_numbers rows) counted ∙ last_at j no_numbers rows no_numbers inside ∙ row_there j no_numbers inside in
            subst FitsPosition (sym row) (position_fits (128 * index + j) (omega (arith, inside, size.1)))

  -- ---- the position of an address

  pub position_of_step : (k : ℕ) (step : StepNumbers) → k < length steps → step ≡ numbers_of parts (get_or steps k no_step)
      → IsPosition parts step.scope step.line step.column (frames_at steps (Some k))
  position_of_step k step within is =
      let s : StepRecord = get_or steps k no_step in
      let has = step_has steps k s (slice_get-get_or steps k no_step within) in
      subst (IsPosition parts step.scope step.line step.column) (sym (frames_there steps k no_step within)) (record {
        scope = maybe_scope strings steps s.frames step.scope (ap (λ (n : StepNumbers). n.scope) is) has;
        line = ap (λ (n : StepNumbers). n.line) is;
        column = ap (λ (n : StepNumbers). n.column) is;
      })

  -- before the first group there is no step
  pub none_for : (address : ℕ) → AreAscending (starts_of steps)
      → (0 < groups_in (length steps) → address < get_or (starts_of steps) 0 0) → IsStepFor (starts_of steps) address None
  none_for address rising above j l =
      omega (arith, above (omega (arith, l, starts_long steps)), not_less (starts_of steps) rising 0 j (omega arith) l)

-- the groups of an opened table
pub opened_groups : IsAtMostTen → (table : LineTable) (pages : Pages) (text all strings : List ℕ) (steps : List StepRecord)
    → IsOpened table pages text all strings steps → AreGroupsIn all (groups_place table) (groups_in_parts (parts_of strings steps))
opened_groups few table pages text all strings steps opened = record {
  stands = groups_at table pages text all strings steps opened;
  count = ap groups_in opened.head.steps ∙ sym (length-groups (parts_of strings steps));
  size = opened.head.step_bytes;
  fit = groups_fit strings steps opened.widths few;
}

-- the bytes of a group that were read
pub group_here : (all bytes : List ℕ) (parts : LineParts) (index offset count n : ℕ)
    → IsBytesOf all (groups_in_parts parts) index offset count → index < length (groups_in_parts parts) → n ≡ count
    → bytes ≡ take n (drop offset all) → bytes ≡ group_bytes_of parts index
group_here all bytes parts index offset count n are l long came =
    let d : GroupRecord = record { key = 0; bytes = [] } in
    came ∙ ap (λ k. take k (drop offset all)) long ∙ are.are d ∙ ap (λ (g : GroupRecord). g.bytes) (group_there parts index d l)

-- a step that was read from the bytes of a group is stored
pub stored_step : (table : LineTable) (all bytes : List ℕ) (index address : ℕ) (step : StepNumbers)
    → bytes ≡ stored_group all (groups_place table) index → IsLastStep bytes address step → IsStoredStep table all step
stored_step table all bytes index address step same is = record {
  group = index;
  count = is.count;
  rest = is.rest;
  read = subst (λ b. steps_on is.count no_numbers b ≡ Some (step, is.rest)) same is.are.read;
}

-- the position of a step is that of its frames
pub position_as : (parts : LineParts) (position : Position) (step : StepNumbers) (frames : List FrameRecord)
    → IsPositionOf step position → IsPosition parts step.scope step.line step.column frames → HasPosition parts position frames
position_as parts position step frames same is = record {
  scope = subst (λ k. IsMaybeScope parts k frames) (sym same.scope) is.scope;
  line = same.line ∙ is.line;
  column = same.column ∙ is.column;
}

-- ---- the frames of a scope

pub maybe_cons : (parts : LineParts) (number line column : ℕ) (chain : List FrameRecord) → (number ≡ 0 → ⊥)
    → IsPosition parts number line column chain → (f : FrameRecord) × (fs : List FrameRecord) × (chain ≡ f ∷ fs)
    × IsScopeNumber parts number (scope_of (f ∷ fs)) × (line ≡ f.line) × (column ≡ f.column)
maybe_cons _ number line column [] some is = absurd (some is.scope)
maybe_cons _ number line column (f ∷ fs) some is = (f, fs, refl, is.scope, is.line, is.column)

pub maybe_nil : (parts : LineParts) (number line column : ℕ) (chain : List FrameRecord) → number ≡ 0
    → IsPosition parts number line column chain → chain ≡ []
maybe_nil _ number line column [] none is = refl
maybe_nil _ number line column (f ∷ fs) none is = absurd (omega (arith, none, is.scope.some))

-- one more frame was read
pub pushed : (items more : List OwnedFrame) (frame : OwnedFrame) (f : FrameRecord) (fs rest chain : List FrameRecord)
    → more ≡ items ++ frame ∷ [] → owned_frame_view frame ≡ f → rest ≡ f ∷ fs → owned_frames items ++ rest ≡ chain
    → owned_frames more ++ fs ≡ chain
pushed items more frame f fs rest chain is view next e =
    ap (λ xs. owned_frames xs ++ fs) is ∙ ap (λ xs. xs ++ fs) (map-append owned_frame_view items (frame ∷ []))
    ∙ append_assoc (owned_frames items) (owned_frame_view frame ∷ []) fs ∙ ap (λ (x : FrameRecord). owned_frames items ++ x ∷ fs) view
    ∙ ap (λ (xs : List FrameRecord). owned_frames items ++ xs) (sym next) ∙ e

pub none_yet : (items : List OwnedFrame) (chain : List FrameRecord) → items ≡ [] → owned_frames items ++ chain ≡ chain
none_yet items chain none = ap (λ (xs : List OwnedFrame). owned_frames xs ++ chain) none

pub too_long : (items : List OwnedFrame) (f : FrameRecord) (fs rest chain : List FrameRecord) → length items ≡ 256
    → rest ≡ f ∷ fs → owned_frames items ++ rest ≡ chain → length chain ≤ 256 → ⊥
too_long items f fs rest chain long next e few =
    omega (arith, long, few, ap length next, ap length e, length-append (owned_frames items) rest, length-map items owned_frame_view)

pub all_told : (items : List OwnedFrame) (rest chain : List FrameRecord) → rest ≡ [] → owned_frames items ++ rest ≡ chain → owned_frames items ≡ chain
all_told items rest chain none e = sym (ap (λ (xs : List FrameRecord). owned_frames items ++ xs) none ∙ append-nil (owned_frames items)) ∙ e
