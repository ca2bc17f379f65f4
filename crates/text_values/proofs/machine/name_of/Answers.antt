use Rattle.std.proofs.Common.{◌∙◌, ap, option_map, refl, rules, tests}
use Rattle.std.proofs.lemmas.Iterator.{YieldsList-from_slice}
use Rattle.std.proofs.lemmas.Iterator.Search.{find_from_yields_List}
use Rattle.archive_core.specs.Find.{is_arch}
use Rattle.text_values.proofs.Named.{map_is, part_found, twice}
use Rattle.text_values.proofs.machine.name_of.Goals as goal

pub returns : goal.returns
returns c =
    let found = find_from_yields_List (λ row. is_arch row.arch c.args.arch) _ _ _ c.find.ensures.ran
    (YieldsList-from_slice c.iter.result.rest.now refl) (λ x b q k. search (rules, tests)) in
    ap (λ o. option_map (λ name. name.now) o)
    (map_is (λ x. x.now.name) _ c.find.result c.map.result c.map.ensures.cases (λ x y q. search rules))
    ∙ twice (λ name. name.now) (λ x. x.now.name) c.find.result
    ∙ part_found (λ named. named.name) (λ named. is_arch named.arch c.args.arch) c.iter.result.rest.now _
    c.find.result c.iter.ensures.rest found
