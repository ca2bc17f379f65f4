use Rattle.std.proofs.Common.{rules, ap, ◌∙◌}
use Rattle.std.proofs.lemmas.Iterator.{YieldsList-from_map_by}
use Rattle.std.proofs.lemmas.Iterator.Consumers.{YieldsList-from_first, map_from_collect}
use Rattle.macho_symbols.specs.Found.{named}
use Rattle.macho_symbols.specs.Views.{found_view}
use Rattle.archive_core.specs.Names.{name_row, name_view}
use Rattle.archive_index.proofs.name_rows.rows_in.Goals as goal

pub returns : goal.returns
returns c =
    let slice = c.args.slice.now in
    let source = YieldsList-from_first found_view (λ n. n) (named slice c.args.name.now)
    (c.map.ensures.source ∙ c.named.ensures.all ∙ ap (λ image. named image c.args.name.now) c.symbols.ensures) in
    map_from_collect _ c.collect.ensures.ran (YieldsList-from_map_by _ name_view (name_row slice) source c.map.ensures.closure (λ x r q k. search rules))
