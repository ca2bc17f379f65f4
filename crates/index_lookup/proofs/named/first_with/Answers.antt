use Rattle.std.proofs.Common.{◌≢◌, ◌∙◌, List, map, subst, sym, arith}
use Rattle.std.specs.Prelude.{Contains}
use Rattle.std.proofs.Math.ListN.{length-map}
use Rattle.std.proofs.lemmas.List.{take_all}
use Rattle.std.proofs.lemmas.Slice.Eq.{bytes_eq-Decides}
use Rattle.index_lookup.specs.Among.{EntryAt}
use Rattle.index_lookup.specs.InnerAnswering.{entry_at}
use Rattle.index_lookup.specs.Named.{digest_at}
use Rattle.index_lookup.proofs.Lists.{map_has, map_within, read_map}
use Rattle.index_lookup.proofs.NamedSlices.{others_more}
use Rattle.index_lookup.proofs.named.first_with.Goals as goal

pub live-preserved : goal.live-preserved
live-preserved c =
    let xs = map entry_at c.args.live.now in
    let i = c.live.numbered-index in
    let n = c.numbered-item.result in
    let other : digest_at (entry_at n) ≢ c.args.digest.now.0 = λ e.
    cc (
      c.if-eq.false,
      c.eq.ensures,
      (bytes_eq-Decides c.named_by-named.result.row.digest.0 c.args.digest.now.0).1
          (c.named_by-named.ensures.row.digest_is ∙ e),
    ) in
    others_more c.args.digest.now.0 xs i (entry_at n) (map_within entry_at c.args.live.now i n c.live-test.true
    c.numbered-item.is) (read_map entry_at c.args.live.now i n c.live-test.true c.numbered-item.is) c.live.invariant
    other

pub returns-then-eq : goal.returns-then-eq
returns-then-eq c = (
  entry_at c.numbered-item.result,
  map_has entry_at c.args.live.now c.live.numbered-index c.numbered-item.result c.live-test.true c.numbered-item.is,
  sym c.named_by-named.ensures.row.digest_is ∙ (bytes_eq-Decides c.named_by-named.result.row.digest.0 c.args.digest.now.0).0 (sym c.eq.ensures ∙ c.if-eq.true),
  c.named_by-named.ensures,
)

pub returns : goal.returns
returns c =
    let xs = map entry_at c.args.live.now in
    subst (λ (ys : List EntryAt). (x : EntryAt) → Contains ys x → digest_at x ≢ c.args.digest.now.0)
    (take_all c.live.numbered-index xs (omega (arith, length-map c.args.live.now entry_at, c.live-test.false)))
    c.live.invariant
