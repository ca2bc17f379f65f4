use Rattle.std.proofs.Common.{◌++◌, ◌∷◌, [], ap, map, sym, ◌∙◌}
use Rattle.std.proofs.lemmas.List.{map-append}
use Rattle.archive_index.specs.InnerScan.{held_among}
use Rattle.archive_index.proofs.Lookups.{one_more, none_more}
use Rattle.archive_index.proofs.plain.PlainArchive.live_slices.Goals.{in-Some+in_ok-push, in_default}
use Rattle.archive_index.proofs.plain.PlainArchive.live_slices.Goals as goal

pub operations-init : goal.operations-init
unfolding held_among
operations-init c = ap (map (λ slice. slice.now)) c.new-slices.ensures.items

pub operations-preserved : goal.operations-preserved
operations-preserved c =
    let operations = c.args.operations.now in
    let i = c.operations.operation-index in
    let a = c.operation-item.result in
    elim c.match-held.branch [
      | in-Some+in_ok-push w ↦
          let grown = one_more c.args.key.now c.args.dsym operations i a c.operations-test.true c.operation-item.is
          c.held.result w.in-Some.asked c.held.ensures w.in-Some.is in
          ap (map (λ slice. slice.now)) (ap (λ v. v.items) w.slices-is ∙ w.in_ok-push.ensures.items)
          ∙ map-append (λ slice. slice.now) c.operations.slices.items (w.slice.result ∷ [])
          ∙ (λ j. c.operations.invariant j ++ w.slice.ensures j ∷ []) ∙ sym grown
      | in_default w ↦
          let same = none_more c.args.key.now c.args.dsym operations i a c.operations-test.true c.operation-item.is
          c.held.result c.held.ensures w.in_default.is in
          ap (λ v. map (λ slice. slice.now) v.items) w.slices-is ∙ c.operations.invariant ∙ sym same
    ]
