use Rattle.std.proofs.Common.{◌≡◌, length, take, drop, sym, ap, subst, ◌∙◌, arith, length-take}
use Rattle.table_checked_pages.specs.Groups.{AreGroupsIn, groups_in, stored_group}
use Rattle.table_checked_pages.specs.Pages.{AreStored}
use Rattle.table_checked_pages.specs.Views.{claim_view}
use Rattle.table_checked_pages.proofs.ReadLemmas.{after_ok, passed_on}
use Rattle.table_source_frames.specs.Inner.{AreNoSteps, IsLastStep, group_bytes_of, step_view}
use Rattle.table_source_frames.specs.LineText.{parts_of}
use Rattle.table_source_frames.proofs.SearchLemmas.{are_steps, group_here, opened_groups, stored_step}
use Rattle.table_source_frames.proofs.TablePartLemmas.{groups_in_parts, length-groups}
use Rattle.table_source_frames.proofs.table.LineTable.step_in_group.Goals as goal

pub returns-in_err-offset-clause-read : goal.returns-in_err-offset-clause-read
returns-in_err-offset-clause-read g c =
    passed_on c.in_err-offset.was c.from_residual.ensures.1
    (λ text known absent all strings steps stored opened.
    absent all stored opened.are_pages (
      groups_in_parts (parts_of strings steps),
      subst (λ place. AreGroupsIn all place (groups_in_parts (parts_of strings steps))) (sym c.groups-groups.ensures)
          (opened_groups c.at_most_ten_bytes.ensures.signed _ _ _ _ _ _ opened),
    ))
    c.place.ensures.read

pub returns-in_err-read-clause-read : goal.returns-in_err-read-clause-read
returns-in_err-read-clause-read g c =
    let place = c.in_ok-offset.ensures.read in
    let long : length c.read.new.buf ≡ c.in_ok-offset.count =
    c.read.auto.buf ∙ length-take c.in_ok-offset.count _ ∙ omega (arith, c.in_ok-offset.ensures.most) in
    passed_on c.in_err-read.was c.from_residual-in_err-read.ensures.1
    (λ text known absent all strings steps stored opened.
    let are = subst (λ place. AreGroupsIn all place (groups_in_parts (parts_of strings steps))) (sym c.groups-groups.ensures)
    (opened_groups c.at_most_ten_bytes.ensures.signed _ _ _ _ _ _ opened) in
    let there = place.says text known all (groups_in_parts (parts_of strings steps)) opened.are_pages are in
    absent all (subst (λ claim. AreStored text (claim_view claim) all) (sym c.in_ok-offset.ensures.claim) stored)
    (c.in_ok-offset.ensures.keeps text all known opened.are_pages) (omega (arith, there.inside, long)))
    (after_ok place.keeps place.counts c.read.ensures.read)

pub returns-in-Some-clause-read : goal.returns-in-Some-clause-read
returns-in-Some-clause-read g c =
    let place = c.in_ok-offset.ensures.read in
    let read = after_ok place.keeps place.counts c.in_ok-read.ensures.read in
    let long : length c.read.new.buf ≡ c.in_ok-offset.count =
    c.read.auto.buf ∙ length-take c.in_ok-offset.count _ ∙ omega (arith, c.in_ok-offset.ensures.most) in
    record {
      says = λ text known all strings steps opened.
          let are = subst (λ place. AreGroupsIn all place (groups_in_parts (parts_of strings steps))) (sym c.groups-groups.ensures)
          (opened_groups c.at_most_ten_bytes.ensures.signed _ _ _ _ _ _ opened) in
          let there = place.says text known all (groups_in_parts (parts_of strings steps)) opened.are_pages are in
          let here : c.read.new.buf ≡ group_bytes_of (parts_of strings steps) c.args.index =
          group_here all c.read.new.buf (parts_of strings steps) c.args.index c.in_ok-offset.offset c.in_ok-offset.count
          (length c.read.new.buf) there
          (omega (arith, c.requires, ap groups_in opened.head.steps, length-groups (parts_of strings steps))) long
          (read.says text known all (c.in_ok-offset.ensures.keeps text all known opened.are_pages)) in
          subst (λ b. IsLastStep b c.args.address (step_view c.in-Some.step)) here c.in-Some.ensures.found;
      keeps = read.keeps;
      counts = read.counts;
    }

pub returns-in-None-clause-read : goal.returns-in-None-clause-read
returns-in-None-clause-read g c =
    let place = c.in_ok-offset.ensures.read in
    let read = after_ok place.keeps place.counts c.in_ok-read.ensures.read in
    let long : length c.read.new.buf ≡ c.in_ok-offset.count =
    c.read.auto.buf ∙ length-take c.in_ok-offset.count _ ∙ omega (arith, c.in_ok-offset.ensures.most) in
    record {
      says = λ text known all strings steps stored opened.
          let are = subst (λ place. AreGroupsIn all place (groups_in_parts (parts_of strings steps))) (sym c.groups-groups.ensures)
          (opened_groups c.at_most_ten_bytes.ensures.signed _ _ _ _ _ _ opened) in
          let there = place.says text known all (groups_in_parts (parts_of strings steps)) opened.are_pages are in
          let here : c.read.new.buf ≡ group_bytes_of (parts_of strings steps) c.args.index =
          group_here all c.read.new.buf (parts_of strings steps) c.args.index c.in_ok-offset.offset c.in_ok-offset.count
          (length c.read.new.buf) there
          (omega (arith, c.requires, ap groups_in opened.head.steps, length-groups (parts_of strings steps))) long
          (read.says text known all (c.in_ok-offset.ensures.keeps text all known opened.are_pages)) in
          are_steps strings steps opened.widths c.numbers_are_read_back.ensures.signed c.args.index
          (omega (arith, c.requires, ap groups_in opened.head.steps)) c.args.address
          (subst (λ b. AreNoSteps b c.args.address) here c.in-None.ensures.none);
      keeps = read.keeps;
      counts = read.counts;
    }

pub returns-in-Some-clause-bytes : goal.returns-in-Some-clause-bytes
returns-in-Some-clause-bytes g c = λ text all known pages.
    let place = c.in_ok-offset.ensures.read in
    let long : length c.read.new.buf ≡ c.in_ok-offset.count =
    c.read.auto.buf ∙ length-take c.in_ok-offset.count _ ∙ omega (arith, c.in_ok-offset.ensures.most) in
    stored_step c.args.self.now all c.read.new.buf c.args.index c.args.address (step_view c.in-Some.step)
    (c.in_ok-read.ensures.read.says text (place.keeps ∙ known) all (c.in_ok-offset.ensures.keeps text all known pages)
    ∙ ap (λ k. take k (drop c.in_ok-offset.offset all)) long ∙ c.in_ok-offset.ensures.bytes text all known pages
    ∙ ap (λ place. stored_group all place c.args.index) c.groups-groups.ensures)
    c.in-Some.ensures.found
