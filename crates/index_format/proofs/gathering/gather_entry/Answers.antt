use Rattle.std.proofs.Common.{[], ◌∷◌, ◌∙◌, ap, map}
use Rattle.std.proofs.lemmas.List.{map-append}
use Rattle.archive_core.specs.Record.{record_bytes}
use Rattle.index_format.proofs.Gathered.{known}
use Rattle.index_format.proofs.gathering.gather_entry.Goals as goal

pub returns : goal.returns
returns g c =
    let h = c.in_ok-operation.ensures in
    let operation = c.in_ok-operation.operation in
    let behind = ap (map record_bytes) c.in-Ok.ensures.items ∙ map-append record_bytes c.args.gathered.now.items (operation ∷ []) in
    (record { record_bytes = record_bytes operation; named = h.0; behind = behind }, h.1, h.2)

pub returns-in_default : goal.returns-in_default
returns-in_default g c = (known _ (g.P.Placed.whole c.args.archive.now) (λ text. tt), c.in_ok-operation.ensures.1, c.in_ok-operation.ensures.2)
