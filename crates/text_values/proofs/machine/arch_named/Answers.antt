use Rattle.std.proofs.Common.{◌∙◌, refl, rules, tests}
use Rattle.std.proofs.lemmas.Iterator.{YieldsList-from_slice}
use Rattle.std.proofs.lemmas.Iterator.Search.{find_from_yields_List}
use Rattle.std.specs.Str.{bytes_eq}
use Rattle.text_values.proofs.Named.{map_is, part_found}
use Rattle.text_values.proofs.machine.arch_named.Goals as goal

pub returns : goal.returns
returns c =
    let found = find_from_yields_List (λ row. bytes_eq row.name.now c.args.name.now) _ _ _ c.find.ensures.ran
    (YieldsList-from_slice c.iter.result.rest.now refl) (λ x b q k. search (rules, tests)) in
    map_is (λ x. x.now.arch) _ c.find.result c.map.result c.map.ensures.cases (λ x y q. search rules)
    ∙ part_found (λ named. named.arch) (λ named. bytes_eq named.name c.args.name.now) c.iter.result.rest.now _
    c.find.result c.iter.ensures.rest found
