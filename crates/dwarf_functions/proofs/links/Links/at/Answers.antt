use Rattle.std.proofs.Common.{ℕ, List, Some, subst, sym}
use Rattle.dwarf_asked_addresses.specs.Rising.{AreRising}
use Rattle.dwarf_source_frames.specs.Scopes.{scopes_of}
use Rattle.dwarf_source_frames.specs.SectionsViews.{sections_view}
use Rattle.dwarf_source_frames.specs.UnitViews.{unit_view}
use Rattle.dwarf_functions.specs.Asked.{asked_scopes}
use Rattle.dwarf_functions.specs.UnitFunctions.{functions_from}
use Rattle.dwarf_functions.specs.LinkViews.{links_view}
use Rattle.dwarf_functions.specs.Links.{AreLinksAmong}
use Rattle.dwarf_functions.specs.declared.links.Links.{Links}
use Rattle.dwarf_functions.proofs.AskedLemmas.{links_asked}
use Rattle.dwarf_functions.proofs.PartLemmas.{are_parts}
use Rattle.dwarf_functions.proofs.StepLemmas.{are_of}
use Rattle.dwarf_functions.proofs.links.Links.at.Goals as goal

pub of-requires : goal.of-requires
of-requires c =
    let sections = sections_view c.args.info.now.sections in
    let unit = unit_view c.args.unit.now in
    let scopes = asked_scopes (Some c.args.addresses.now) (scopes_of sections unit) in
    let functions = c.in_ok-functions.functions.functions.items in
    let ranges = c.in_ok-functions.functions.ranges.items in record {
      parts = are_parts (functions_from 0 scopes) functions ranges (are_of sections unit scopes functions ranges c.in_ok-functions.ensures.are);
      numbered = c.in_ok-functions.ensures.numbered;
      rising = subst (λ (xs : List ℕ). AreRising xs) (sym (c.in_ok-starts.ensures.items_if_clones_equal (λ x y q. q))) c.requires.rising;
    }

pub returns : goal.returns
returns c =
    let sections = sections_view c.args.info.now.sections in
    let unit = unit_view c.args.unit.now in
    let scopes = scopes_of sections unit in
    let asked : List ℕ = c.args.addresses.now in
    let links : Links = c.in_ok-links.links in
    links_asked sections unit asked scopes (links_view links.links.items) links.numbers.items
    (subst (λ (starts : List ℕ). AreLinksAmong sections unit (asked_scopes (Some asked) scopes)
    (links_view links.links.items) starts links.numbers.items)
    (c.in_ok-starts.ensures.items_if_clones_equal (λ x y q. q))
    (c.in_ok-links.ensures.among sections unit (asked_scopes (Some asked) scopes) c.in_ok-functions.ensures.are))
