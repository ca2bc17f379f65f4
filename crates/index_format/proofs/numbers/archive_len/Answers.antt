use Rattle.std.proofs.Common.{◌≡◌, ◌+◌, ◌<◌, ◌^◌, ◌∙◌, ℕ, List, [], sym, ap, length, map, arith, get_or}
use Rattle.std.proofs.Math.ListN.{length-map}
use Rattle.std.proofs.lemmas.List.{take_all}
use Rattle.std.proofs.lemmas.List.Sums.{sum_by_more}
use Rattle.std.specs.List.{sum_by}
use Rattle.index_format.specs.Entry.{length_in}
use Rattle.index_format.specs.Entry.{entry_bytes}
use Rattle.index_format.proofs.PlaceLemmas.{bytes_at, fields_at}
use Rattle.index_format.proofs.numbers.archive_len.Goals as goal

pub adding-preserved : goal.adding-preserved
adding-preserved c =
    let entries = c.args.entries.now in
    let i = c.adding.entry-index in
    let e = c.entry-item.result in
    let lt : i < length entries = c.adding-test.true in
    let within : i < length (map entry_bytes entries) = omega (arith, lt, length-map entries entry_bytes) in
    let fits : e.length < 2 ^ 64 = omega arith in
    let more = sum_by_more length_in (map entry_bytes entries) i [] within in
    let one : length_in (get_or (map entry_bytes entries) i [])
    ≡ e.length = ap length_in (sym (bytes_at entries i e lt c.entry-item.is))
    ∙ (fields_at entries i e c.requires lt c.entry-item.is).length_is in
    record {
      is = omega (arith, more, one, c.adding.invariant.is, c.from-len.ensures);
      fits = omega (arith, fits, c.adding.invariant.fits, c.from-len.ensures);
    }

pub returns : goal.returns
returns c =
    let xs = map entry_bytes c.args.entries.now in
    c.adding.invariant.is ∙ ap (λ (ys : List (List ℕ)). 17 + sum_by length_in ys)
    (take_all c.adding.entry-index xs (omega (
      arith,
      length-map c.args.entries.now entry_bytes,
      c.adding-test.false,
    )))
