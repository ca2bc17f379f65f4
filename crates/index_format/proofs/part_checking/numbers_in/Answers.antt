use Rattle.std.proofs.Common.{◌++◌, ◌∙◌, ℕ, List, [], ◌∷◌, ap, arith, sym}
use Rattle.std.proofs.lemmas.List.{length-map, take_all}
use Rattle.index_format.specs.InnerPaged.{numbers_of}
use Rattle.index_format.specs.declared.paged_entry.PagedEntry.{PagedEntry}
use Rattle.index_format.proofs.PartChecks.{number_next}
use Rattle.index_format.proofs.part_checking.numbers_in.Goals as goal

pub reading-preserved : goal.reading-preserved
reading-preserved c =
    let read = c.args.read.now in
    let e = c.entry-item.result in
    c.in_ok-push.ensures.items
    ∙ ap (λ (ns : List ℕ). ns ++ e.number ∷ []) c.reading.invariant
    ∙ sym (number_next read c.reading.entry-index e c.reading-test.true c.entry-item.is)

pub returns : goal.returns
returns c =
    let read = c.args.read.now in
    c.reading.invariant
    ∙ take_all c.reading.entry-index (numbers_of read)
    (omega (arith, length-map read (λ (x : PagedEntry). x.number), c.reading-test.false))
