use Rattle.std.proofs.Common.{List, None, subst, sym}
use Rattle.std.specs.Prelude.{ℕ, ◌↔◌}
use Rattle.std.specs.List.{Contains}
use Rattle.dwarf_ranges.specs.declared.range.CodeRange.{CodeRange}
use Rattle.dwarf_source_frames.specs.Scopes.{ScopeRecord, scopes_of}
use Rattle.dwarf_source_frames.specs.SectionsViews.{sections_view}
use Rattle.dwarf_source_frames.specs.UnitViews.{unit_view}
use Rattle.dwarf_functions.specs.Asked.{asked_scopes}
use Rattle.dwarf_functions.specs.UnitFunctions.{AreFunctions, functions_from}
use Rattle.dwarf_functions.specs.LinkViews.{links_view}
use Rattle.dwarf_functions.specs.Links.{AreLinkSteps, ends_of_ranges}
use Rattle.dwarf_functions.specs.declared.functions.Function.{Function}
use Rattle.dwarf_functions.specs.declared.links.Links.{Links}
use Rattle.dwarf_functions.proofs.AskedLemmas.{all_asked}
use Rattle.dwarf_functions.proofs.PartLemmas.{are_parts}
use Rattle.dwarf_functions.proofs.StepLemmas.{are_of, link_steps}
use Rattle.dwarf_functions.proofs.links.Links.read.Goals as goal

pub of-requires : goal.of-requires
of-requires c =
    let sections = sections_view c.args.info.now.sections in
    let unit = unit_view c.args.unit.now in
    let scopes = asked_scopes None (scopes_of sections unit) in
    let functions = c.in_ok-functions.functions.functions.items in
    let ranges = c.in_ok-functions.functions.ranges.items in record {
      parts = are_parts (functions_from 0 scopes) functions ranges (are_of sections unit scopes functions ranges c.in_ok-functions.ensures.are);
      numbered = c.in_ok-functions.ensures.numbered;
      rising = c.in_ok-starts.ensures.rising;
    }

pub returns-clause-steps : goal.returns-clause-steps
returns-clause-steps c =
    let sections = sections_view c.args.info.now.sections in
    let unit = unit_view c.args.unit.now in
    let scopes = scopes_of sections unit in
    let functions : List Function = c.in_ok-functions.functions.functions.items in
    let ranges : List CodeRange = c.in_ok-functions.functions.ranges.items in
    let starts : List ℕ = c.in_ok-starts.starts.items in
    let links : Links = c.in_ok-links.links in
    let are = subst (λ (some : List ScopeRecord). AreFunctions sections unit some functions ranges) (all_asked scopes) c.in_ok-functions.ensures.are in
    subst (λ (s : List ℕ). AreLinkSteps sections unit (links_view links.links.items) s links.numbers.items) (sym c.in_ok-links.ensures.starts)
    (link_steps sections unit functions ranges (links_view links.links.items) starts links.numbers.items are c.in_ok-starts.ensures.rising
    (subst (λ (rs : List CodeRange). (a : ℕ) → Contains starts a ↔ Contains (ends_of_ranges rs) a) c.deref.ensures.value c.in_ok-starts.ensures.same)
    (c.in_ok-links.ensures.among sections unit scopes are))
