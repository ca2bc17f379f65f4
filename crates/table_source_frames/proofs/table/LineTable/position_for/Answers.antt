use Rattle.std.proofs.Common.{◌≡◌, ◌+◌, ◌-◌, ◌*◌, ◌<◌, length, get_or, refl, sym, ap, subst, ◌∙◌, arith, Some, None}
use Rattle.table_checked_pages.specs.Groups.{AreGroupsIn, groups_in, keys_of, stored_group}
use Rattle.table_checked_pages.specs.Pages.{AreStored}
use Rattle.table_checked_pages.specs.Views.{claim_view}
use Rattle.table_checked_pages.proofs.ReadLemmas.{after_ok, passed_on, unread}
use Rattle.table_source_frames.specs.Inner.{step_view}
use Rattle.table_source_frames.specs.LineText.{parts_of}
use Rattle.table_source_frames.specs.OfBytes.{groups_place}
use Rattle.table_source_frames.specs.StepGroups.{no_numbers, steps_on}
use Rattle.table_source_frames.specs.Steps.{frames_at, starts_of}
use Rattle.table_source_frames.proofs.OpenedLemmas.{kept}
use Rattle.table_source_frames.proofs.SearchLemmas.{found_at, key_at, last_fits, none_for, opened_groups, position_as, position_of_step}
use Rattle.table_source_frames.proofs.TablePartLemmas.{groups_in_parts}
use Rattle.table_source_frames.proofs.table.LineTable.position_for.Goals as goal

pub returns-in_err-count-clause-read : goal.returns-in_err-count-clause-read
returns-in_err-count-clause-read g c =
    passed_on c.in_err-count.was c.from_residual.ensures.1
    (λ text known absent all strings steps stored opened.
    absent all stored opened.are_pages (
      groups_in_parts (parts_of strings steps),
      subst (λ place. AreGroupsIn all place (groups_in_parts (parts_of strings steps))) (sym c.groups-groups.ensures)
          (opened_groups c.at_most_ten_bytes.ensures.signed _ _ _ _ _ _ opened),
    ))
    c.up_to.ensures.read

pub returns-then-count-eq0-clause-read : goal.returns-then-count-eq0-clause-read
returns-then-count-eq0-clause-read g c = record {
  says = λ text known all strings steps rising opened.
      let are = subst (λ place. AreGroupsIn all place (groups_in_parts (parts_of strings steps))) (sym c.groups-groups.ensures)
      (opened_groups c.at_most_ten_bytes.ensures.signed _ _ _ _ _ _ opened) in
      let edge = c.in_ok-count.ensures.read.says text known all (groups_in_parts (parts_of strings steps)) opened.are_pages are in
      let counted = ap (λ place. place.count) c.groups-groups.ensures in (
        None,
        none_for strings steps opened.widths c.args.address rising (λ some.
            let key = key_at strings steps opened.widths c.numbers_are_read_back.ensures.signed 0 some in
            let above = edge.at (omega (arith, some, c.if-count-eq0.true, counted, ap groups_in opened.head.steps)) in
            let first : get_or (keys_of (groups_in_parts (parts_of strings steps))) c.in_ok-count.count 0
            ≡ get_or (keys_of (groups_in_parts (parts_of strings steps))) 0 0 =
            ap (λ k. get_or (keys_of (groups_in_parts (parts_of strings steps))) k 0) c.if-count-eq0.true in
            omega (arith, above, key, first)),
        record { scope = refl; line = refl; column = refl },
      );
  keeps = c.in_ok-count.ensures.read.keeps;
  counts = c.in_ok-count.ensures.read.counts;
}

pub returns-in_err-step-clause-read : goal.returns-in_err-step-clause-read
returns-in_err-step-clause-read g c =
    let count = c.in_ok-count.ensures.read in
    passed_on c.in_err-step.was c.from_residual-in_err-step.ensures.1
    (λ text known absent all strings steps stored opened.
    absent all strings steps (subst (λ claim. AreStored text (claim_view claim) all) (sym c.in_ok-count.ensures.claim) stored)
    (kept _ _ _ _ _ _ _ opened (c.in_ok-count.ensures.keeps text all known opened.are_pages)))
    (after_ok count.keeps count.counts c.step_in_group.ensures.read)

pub returns-in_err-position-clause-read : goal.returns-in_err-position-clause-read
returns-in_err-position-clause-read g c =
    let count = c.in_ok-count.ensures.read in
    let step = after_ok count.keeps count.counts c.in_ok-step.ensures.read in
    after_ok step.keeps step.counts (unread _ _ _ _ _ _ _ c.from_residual-in_err-position.ensures.1 c.in_err-position.ensures.fault.0
    (λ text known all strings steps stored opened.
    let was = step.says text (sym step.keeps ∙ known) all strings steps
    (kept _ _ _ _ _ _ _ opened (c.in_ok-count.ensures.keeps text all (sym step.keeps ∙ known) opened.are_pages)) in
    c.in_err-position.ensures.fault.1 (last_fits strings steps opened.widths c.numbers_are_read_back.ensures.signed
    (c.in_ok-count.count - 1) (omega (
      arith,
      c.if-count-eq0.false,
      c.in_ok-count.ensures.within,
      ap (λ place. place.count) c.groups-groups.ensures,
      ap groups_in opened.head.steps,
    )) c.args.address (step_view c.in_ok-step.step) was)))

pub returns-clause-read : goal.returns-clause-read
returns-clause-read g c =
    let count = c.in_ok-count.ensures.read in
    let step = after_ok count.keeps count.counts c.in_ok-step.ensures.read in
    record {
      says = λ text known all strings steps rising opened.
          let are = subst (λ place. AreGroupsIn all place (groups_in_parts (parts_of strings steps))) (sym c.groups-groups.ensures)
          (opened_groups c.at_most_ten_bytes.ensures.signed _ _ _ _ _ _ opened) in
          let edge = count.says text known all (groups_in_parts (parts_of strings steps)) opened.are_pages are in
          let counted = ap (λ place. place.count) c.groups-groups.ensures in
          let keys = keys_of (groups_in_parts (parts_of strings steps)) in
          let there : c.in_ok-count.count - 1 < groups_in (length steps) =
          omega (arith, c.if-count-eq0.false, c.in_ok-count.ensures.within, counted, ap groups_in opened.head.steps) in
          let key = key_at strings steps opened.widths c.numbers_are_read_back.ensures.signed (c.in_ok-count.count - 1) there in
          let before = edge.before (omega (arith, c.if-count-eq0.false)) in
          let last = step.says text known all strings steps
          (kept _ _ _ _ _ _ _ opened (c.in_ok-count.ensures.keeps text all known opened.are_pages)) in
          let found = found_at strings steps opened.widths c.numbers_are_read_back.ensures.signed (c.in_ok-count.count - 1) there
          c.args.address (step_view c.in_ok-step.step) last rising (omega (arith, before, key))
          (λ past.
          let next : c.in_ok-count.count - 1 + 1 ≡ c.in_ok-count.count = omega (arith, c.if-count-eq0.false) in
          let here : c.in_ok-count.count < groups_in (length steps) = omega (arith, past, next) in
          let key_next = key_at strings steps opened.widths c.numbers_are_read_back.ensures.signed c.in_ok-count.count here in
          let above = edge.at (omega (arith, here, counted, ap groups_in opened.head.steps)) in
          let same = ap (λ k. get_or (starts_of steps) (128 * k) 0) next in
          omega (arith, above, key_next, same)) in (
            Some found.at,
            found.last,
            position_as (parts_of strings steps) c.in_ok-position.position (step_view c.in_ok-step.step)
                (frames_at steps (Some found.at)) c.in_ok-position.ensures.fits
                (position_of_step strings steps opened.widths found.at (step_view c.in_ok-step.step) found.within found.is),
          );
      keeps = step.keeps;
      counts = step.counts;
    }

pub returns-clause-bytes : goal.returns-clause-bytes
returns-clause-bytes g c = λ text all known pages. (
  step_view c.in_ok-step.step,
  c.in_ok-step.ensures.bytes text all (c.in_ok-count.ensures.read.keeps ∙ known) (c.in_ok-count.ensures.keeps text all known pages),
  c.in_ok-position.ensures.fits,
)

pub returns-then-count-eq0-clause-bytes : goal.returns-then-count-eq0-clause-bytes
unfolding steps_on
returns-then-count-eq0-clause-bytes g c = λ text all known pages. (
  no_numbers,
  record { group = 0; count = 0; rest = stored_group all (groups_place c.args.self.now) 0; read = refl },
  record { scope = refl; line = refl; column = refl },
)
