-- The turns of a unit are those from its boundaries on.
use Rattle.std.proofs.Common.{◌≡◌, ℕ, ◌+◌, ◌<◌, ◌≤◌, ◌^◌, List, length, get_or, map, Option, Some, None, refl, sym, ap, subst, ◌∙◌, inl}
use Rattle.std.proofs.Common.{inr, arith, ◌↔◌, flat_map, reverse, Contains}
use Rattle.std.proofs.lemmas.Bool.{cases_eq}
use Rattle.std.proofs.lemmas.List.{get_or_default}
use Rattle.std.proofs.lemmas.List.Elements.{All-weaker, Contains-append_cases, Contains-append_left, Contains-append_right}
use Rattle.std.proofs.lemmas.Option.{same_Some}
use Rattle.dwarf_functions.specs.Links.{AreLinkSteps, IsLinkOf}
use Rattle.dwarf_functions.proofs.LinkFrameLemmas.{frames_in_unit, number_within}
use Rattle.dwarf_lines.specs.declared.registers.Row.{Row}
use Rattle.dwarf_functions.specs.AddressSteps.{at_step}
use Rattle.dwarf_functions.specs.RowSteps.{AreRowSteps}
use Rattle.dwarf_source_frames.specs.AddressFrames.{AreFramesBy, AreFramesIn, AreFramesInUnit, rows_of}
use Rattle.dwarf_source_frames.specs.DebugSections.{DebugSectionsRecord}
use Rattle.dwarf_source_frames.specs.DebugUnits.{UnitRecord}
use Rattle.dwarf_source_frames.specs.Frames.{FrameRecord}
use Rattle.dwarf_source_frames.specs.Scopes.{calls_of, scopes_of}
use Rattle.dwarf_source_frames.specs.UnitAddresses.{IsUnitOf, read_unit}
use Rattle.dwarf_source_frames.specs.UnitLines.{LinesRecord, lines_of}
use Rattle.dwarf_frame_changes.specs.Between.{AreFramesAt, AreSteps, AreTurnsFrom, IsCountTo, IsFrom, IsStart, IsTurnOfParts, PartsRecord}
use Rattle.dwarf_frame_changes.specs.Given.{AreTurnsIn, IsTurnWithFrames, TurnRecord}
use Rattle.dwarf_frame_changes.specs.Turns.{IsTurnBy, boundaries, ends_of, unit_turns}
use Rattle.dwarf_frame_changes.specs.UnitSteps.{AreUnitSteps}
use Rattle.dwarf_source_frames.specs.ByUnit.{IsPlaced}
use Rattle.dwarf_frame_changes.proofs.FramesStay.{IsFree, unit_stays}
use Rattle.dwarf_frame_changes.proofs.UnitStepLemmas.{own_is, step_boundary, step_unit, last_step, none_after_last}
use Rattle.dwarf_frame_changes.proofs.StepWalks.{count_at_start, step_some}

module _ (s : DebugSectionsRecord) (unit : UnitRecord) (parts : PartsRecord) (lines_are : parts.lines ≡ lines_of s unit)
    (row_steps : AreRowSteps (rows_of parts.lines) parts.row_starts parts.rows)
    (link_steps : AreLinkSteps s unit parts.links parts.link_starts parts.numbers) where
  frames_in : (a : ℕ) (frames : List FrameRecord) → AreFramesAt parts a frames → AreFramesInUnit s unit a frames
  frames_in a frames are =
      frames_in_unit s unit parts.lines parts.links a (at_step 0 parts.link_starts parts.numbers a)
      (at_step None parts.row_starts parts.rows a) frames lines_are (link_steps.each a) (row_steps.each a) are

  abbrev scope_turns : List ℕ
  scope_turns = flat_map (λ scope. ends_of scope.ranges) (scopes_of s unit)

  abbrev row_turns : List ℕ
  row_turns = map (λ (row : Row). row.registers.address) (rows_of (lines_of s unit))

  rows_there : (a : ℕ) → Contains parts.row_starts a → Contains row_turns a
  rows_there a h = subst (λ (l : LinesRecord). Contains (map (λ (row : Row). row.registers.address) (rows_of l)) a) lines_are ((row_steps.same a).0 h)

  rows_back : (a : ℕ) → Contains row_turns a → Contains parts.row_starts a
  rows_back a h = (row_steps.same a).1 (subst (λ (l : LinesRecord). Contains (map (λ (row : Row). row.registers.address) (rows_of l)) a) (sym lines_are) h)

  turn_of_start : (a : ℕ) → IsStart parts.row_starts parts.link_starts a → Contains (unit_turns s unit) a
  unfolding unit_turns
  turn_of_start a h = elim h [
    | inl x ↦ Contains-append_right scope_turns row_turns a (rows_there a x)
    | inr x ↦ Contains-append_left scope_turns row_turns a ((link_steps.same a).0 x)
  ]

  start_of_turn : (a : ℕ) → Contains (unit_turns s unit) a → IsStart parts.row_starts parts.link_starts a
  unfolding unit_turns
  start_of_turn a h = elim (Contains-append_cases scope_turns row_turns a h) [
    | inl x ↦ inr ((link_steps.same a).1 x)
    | inr x ↦ inl (rows_back a x)
  ]

  -- the steps of rows and of links
  step_within : (i : ℕ) → i < length parts.numbers → get_or parts.numbers i 0 ≤ length parts.links
  step_within i h =
      let start = get_or parts.link_starts i 0 in
      let l : i < length parts.link_starts = let c = link_steps.count in omega (arith, c, h) in
      let to : IsCountTo parts.link_starts start (i + 1) = count_at_start parts.link_starts i link_steps.rising l in
      let here : get_or parts.numbers i 0 ≡ at_step 0 parts.link_starts parts.numbers start =
      step_some 0 (get_or parts.numbers i 0) parts.link_starts parts.numbers start (i + 1) i link_steps.count refl h
      (get_or_default parts.numbers i 0 (get_or parts.numbers i 0) h) to in
      let link : IsLinkOf s unit parts.links start (at_step 0 parts.link_starts parts.numbers start) = link_steps.each start in
      let w = number_within s unit parts.links (at_step 0 parts.link_starts parts.numbers start)
      (calls_of (reverse link.chain)) link.are_entries in
      omega (arith, here, w)

  pub are_steps : AreSteps parts
  are_steps = record {
    rows_rise = row_steps.rising;
    links_rise = link_steps.rising;
    row_count = row_steps.count;
    number_count = link_steps.count;
    within = step_within;
  }

  module _ (place : ℕ) (read : Some unit ≡ read_unit s place) (starts : List ℕ) (places : List (Option ℕ))
      (steps : AreUnitSteps s starts places) (froms : List ℕ)
      (given : (a : ℕ) → Contains froms a ↔ IsPlaced starts places a (Some place)) where
    free_from : (from a : ℕ) → ((t : ℕ) → Contains starts t → from < t → a < t) → IsFree from a (boundaries s)
    free_from from a none = record { none = λ t h l. let u = none t ((steps.all t).1 h) l.0 in let v = l.1 in omega (arith, u, v) }

    unit_from : (from a : ℕ) → a < 2 ^ 64 → Contains froms from → IsFrom parts starts from a → IsUnitOf s a (Some place)
    unit_from from a fits h is =
        let here : IsUnitOf s from (Some place) = step_unit s starts places steps from (Some place) ((given from).0 h) in
        elim (cases_eq from a) [
          | inl e ↦ subst (λ (x : ℕ). IsUnitOf s x (Some place)) e here
          | inr not ↦ let n = is.not_below in unit_stays s from a (Some place) (omega (arith, n, not)) fits (free_from from a is.none_between) here
        ]

    turn_from : (from a : ℕ) → a < 2 ^ 64 → Contains froms from → IsFrom parts starts from a → IsTurnBy s a
    turn_from from a fits h is = (
      fits,
      elim is.begins [
        | inl e ↦ inl (subst (λ (x : ℕ). Contains (boundaries s) x) (sym e) (step_boundary s starts places steps from (Some place) ((given from).0 h)))
        | inr start ↦ inr (unit, record { place = place; is_unit = unit_from from a fits h is; read = read }, turn_of_start a start)
      ],
    )

    frames_from_here : (a : ℕ) (frames : List FrameRecord) → IsUnitOf s a (Some place) → AreFramesAt parts a frames → AreFramesBy s a frames
    frames_from_here a frames is are =
        record {
          place = Some place;
          is_unit = is;
          are_frames = subst (λ (u : Option UnitRecord). AreFramesIn s u a frames) read (frames_in a frames are);
        }

    -- each turn of the unit is from a boundary on
    from_of_turn : (a : ℕ) → IsUnitOf s a (Some place) → IsTurnBy s a → (from : ℕ) × Contains froms from × IsFrom parts starts from a
    from_of_turn a is turn =
        let last = last_step s starts places a place steps turn.0 is in
        let from = get_or starts last.0 0 in
        let none : (t : ℕ) → Contains starts t → from < t → a < t = λ t h above. none_after_last starts a last.0 t steps.rising last.1 h above in
        let low : from ≤ a = last.1.here in (
          from,
          (given from).1 last.2,
          record {
            not_below = low;
            none_between = none;
            begins = elim turn.1 [
              | inl boundary ↦ elim (cases_eq a from) [
                | inl e ↦ inl e
                | inr not ↦ let l = none a ((steps.all a).1 boundary) (omega (arith, low, not)) in absurd (omega (arith, l))
              ]
              | inr h ↦
                  let at : h.1.place ≡ place = own_is s a place h.1.place h.1.is_unit is in
                  let same : h.0 ≡ unit = same_Some h.0 unit (h.1.read ∙ ap (read_unit s) at ∙ sym read) in
                  inr (start_of_turn a (subst (λ (u : UnitRecord). Contains (unit_turns s u) a) same h.2))
            ];
          },
        )

    pub turns_in_unit : (turns : List TurnRecord) → AreTurnsFrom parts starts froms turns → AreTurnsIn s (Some place) turns
    turns_in_unit turns are =
        record {
          each = All-weaker
              (λ (t : TurnRecord). ((from : ℕ) × Contains froms from × IsFrom parts starts from t.address) × IsTurnOfParts parts t)
              (λ (t : TurnRecord). IsUnitOf s t.address (Some place) × IsTurnWithFrames s t)
              (λ t h.
              let is = unit_from h.0.0 t.address h.1.fits h.0.1 h.0.2 in
              (is, (turn_from h.0.0 t.address h.1.fits h.0.1 h.0.2, frames_from_here t.address t.frames is h.1.frames)))
              turns are.each;
          all = λ a is turn. let f = from_of_turn a is turn in are.all f.0 a f.1 f.2;
          rising = are.rising;
        }
