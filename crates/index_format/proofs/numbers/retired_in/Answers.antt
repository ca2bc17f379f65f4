use Rattle.std.proofs.Common.{◌≡◌, ◌≤◌, ◌<◌, ◌∙◌, ℕ, Bool, List, [], ap, arith, cond, get_or, length, map, not}
use Rattle.std.proofs.Math.ListN.{length-map}
use Rattle.std.proofs.lemmas.List.{take_all}
use Rattle.std.proofs.lemmas.List.Sums.{sum_by_more}
use Rattle.archive_core.specs.Content.{is_admission}
use Rattle.index_format.specs.Entry.{entry_bytes}
use Rattle.index_format.specs.Text.{retired_in}
use Rattle.index_format.proofs.PlaceLemmas.{bytes_at}
use Rattle.index_format.proofs.numbers.retired_in.Goals as goal

at_most_one : (b : Bool) → cond b 1 0 ≤ 1
at_most_one b = grind arith

abbrev one : List ℕ → ℕ
one e = cond (not (is_admission e)) 1 0

pub counting-preserved : goal.counting-preserved
counting-preserved c =
    let entries = c.args.entries.now in
    let i = c.counting.entry-index in
    let e = c.entry-item.result in
    let lt : i < length entries = c.counting-test.true in
    let within : i < length (map entry_bytes entries) = omega (arith, lt, length-map entries entry_bytes) in
    let more = sum_by_more one (map entry_bytes entries) i [] within in
    let here : c.one_if_retired-retired.result ≡ one (get_or (map entry_bytes entries) i []) =
    c.one_if_retired-retired.ensures ∙ ap one (bytes_at entries i e lt c.entry-item.is) in
    record {
      is = omega (arith, more, here, c.counting.invariant.is);
      few = omega (arith, c.one_if_retired-retired.ensures, at_most_one (not (is_admission (entry_bytes e))), c.counting.invariant.few);
    }

pub returns : goal.returns
returns c =
    let xs = map entry_bytes c.args.entries.now in
    c.counting.invariant.is ∙ ap (λ (ys : List (List ℕ)). retired_in ys)
    (take_all c.counting.entry-index xs (omega (arith, length-map c.args.entries.now entry_bytes, c.counting-test.false)))
