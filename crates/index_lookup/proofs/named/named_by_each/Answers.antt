use Rattle.std.proofs.Common.{List, map, subst, arith}
use Rattle.std.specs.List.{AllZip}
use Rattle.std.proofs.Math.ListN.{length-map}
use Rattle.std.proofs.lemmas.List.{take_all}
use Rattle.index_lookup.specs.Among.{EntryAt}
use Rattle.index_lookup.specs.InnerAnswering.{entry_at}
use Rattle.index_lookup.specs.Named.{Names}
use Rattle.index_lookup.proofs.Columns.{zip_more}
use Rattle.index_lookup.proofs.Lists.{map_within, read_map}
use Rattle.index_lookup.proofs.named.named_by_each.Goals as goal

pub entries-preserved : goal.entries-preserved
entries-preserved c =
    let ns = c.args.entries.now in
    let i = c.entries.numbered-index in
    let n = c.numbered-item.result in
    zip_more Names (map entry_at ns) i (entry_at n) c.entries.named.items c.push.new.self.items c.named_by.result
    (map_within entry_at ns i n c.entries-test.true c.numbered-item.is)
    (read_map entry_at ns i n c.entries-test.true c.numbered-item.is) c.in_ok-push.ensures.items c.entries.invariant
    c.named_by.ensures

pub returns : goal.returns
returns c =
    let xs = map entry_at c.args.entries.now in
    subst (λ (es : List EntryAt). AllZip Names es c.entries.named.items)
    (take_all c.entries.numbered-index xs (omega (
      arith,
      length-map c.args.entries.now entry_at,
      c.entries-test.false,
    ))) c.entries.invariant
