use Rattle.std.proofs.Common.{◌≡◌, arith, ℕ, ◌∙◌, ◌<◌, List, ap, get_or, length, replicate, rules, slice_index, subst}
use Rattle.std.proofs.lemmas.List.{get_or-replicate}
use Rattle.dwarf_ranges.specs.declared.range.CodeRange.{CodeRange}
use Rattle.dwarf_functions.specs.Links.{AreLinksAmong}
use Rattle.dwarf_functions.specs.LinkViews.{links_view}
use Rattle.dwarf_functions.specs.Making.{AreMade}
use Rattle.dwarf_functions.specs.UnitFunctions.{functions_from}
use Rattle.dwarf_functions.specs.declared.functions.Function.{Function}
use Rattle.dwarf_functions.proofs.NameLemmas.{names_numbered}
use Rattle.dwarf_functions.proofs.StepLemmas.{are_of, links_among}
use Rattle.dwarf_functions.proofs.TakingLemmas.{up_to_first}
use Rattle.dwarf_functions.proofs.links.Links.of.Goals as goal

pub returns-clause-among : goal.returns-clause-among
returns-clause-among c = λ sections unit scopes are.
    let of = functions_from 0 scopes in
    let functions : List Function = c.args.all.now.functions.items in
    let ranges : List CodeRange = c.args.all.now.ranges.items in
    let now = c.take_all.new.self in
    let starts : List ℕ = c.args.starts.items in
    let taking = c.in_ok-take_all.ensures.taking in
    let same_starts : now.starts.items ≡ starts = λ j. (c.take_all.ensures.same.starts j).items in
    let same_functions : now.making.all.now.functions.items ≡ functions = λ j. (c.take_all.ensures.same.all j).now.functions.items in
    let zeros : c.in_ok-vec.field-0.items ≡ replicate c.len-count.result 0 = c.in_ok-vec.ensures.items_if_clones_equal (λ y q. search rules) in
    let zero : (i : ℕ) → i < length starts → get_or c.in_ok-vec.field-0.items i 0 ≡ 0 =
    λ i h. ap (λ (ns : List ℕ). get_or ns i 0) zeros ∙ get_or-replicate c.len-count.result i 0 0 (search rules) in
    let waits : (i : ℕ) → i < length starts → slice_index c.in_ok-waiting.waiting.next.items i ≡ i = λ i h. c.in_ok-waiting.ensures.all i (search rules) in
    let up_to = c.in_ok-take_all.ensures.takes of (are_of sections unit scopes functions ranges are)
    (λ i h. up_to_first of c.new-2.result.items (slice_index c.in_ok-waiting.waiting.next.items i ≡ i)
    (slice_index starts i) (get_or c.in_ok-vec.field-0.items i 0) (zero i h) (waits i h)) in
    subst (λ (s : List ℕ). AreLinksAmong sections unit scopes (links_view now.making.links.items) s now.numbers.items) same_starts
    (links_among sections unit scopes functions ranges now.making.links.items now.making.last now.starts.items now.numbers.items now.waiting.next.items are
    (subst (λ (fs : List Function). AreMade fs now.making.links.items now.making.last) same_functions taking.made)
    taking.count (λ i h. up_to i (subst (λ (s : List ℕ). i < length s) same_starts h)))

pub returns-clause-names : goal.returns-clause-names
returns-clause-names c =
    let functions : List Function = c.args.all.now.functions.items in
    let now = c.take_all.new.self in
    let same_functions : now.making.all.now.functions.items ≡ functions = λ j. (c.take_all.ensures.same.all j).now.functions.items in
    names_numbered functions now.making.links.items now.making.last c.len.result c.requires.numbered
    (subst (λ (fs : List Function). AreMade fs now.making.links.items now.making.last) same_functions
    c.in_ok-take_all.ensures.taking.made) (omega (arith, c.args.all.now.functions.ok.0))
