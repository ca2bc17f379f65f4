use Rattle.std.proofs.Common.{◌∙◌, ap, map}
use Rattle.archive_core.specs.Content.{Operations, with_records}
use Rattle.archive_core.specs.Record.{record_bytes}
use Rattle.archive_core.proofs.Joined.{gathered}
use Rattle.index_format.proofs.parts.archive_of.Goals as goal

pub returns : goal.returns
returns g c =
    gathered _ _ (g.A.Join.content c.take_in_turn.new.part) c.sort_unstable_by.ensures.permutation
    (c.in_ok-take_in_turn.ensures ∙ ap (λ (o : Operations). with_records o
    (map record_bytes c.sort_unstable_by.new.self.items)) c.empty-made.ensures)
