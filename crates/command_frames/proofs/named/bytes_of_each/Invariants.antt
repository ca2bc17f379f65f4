use Rattle.std.proofs.Common.{◌≡◌, length, take}
use Rattle.std.specs.List.{All}
use Rattle.command_frames.proofs.named.bytes_of_each.Given as goal

abbrev pub invariant-uuids : goal.invariant-uuids
invariant-uuids l = record { same : l.bytes.items ≡ take l.uuid-index l.uuids; long : All (λ u. length u ≡ 16) l.bytes.items }
