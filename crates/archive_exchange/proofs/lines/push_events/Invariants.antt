use Rattle.std.proofs.Common.{◌≡◌, ◌++◌, take, string_bytes}
use Rattle.archive_exchange.specs.EventLines.{event_lines}
use Rattle.archive_exchange.proofs.lines.push_events.Given as goal

abbrev pub invariant-events : goal.invariant-events
invariant-events g l = string_bytes l.text ≡ string_bytes l.initial.text ++ event_lines l.world.messages 0 (take l.number-counter l.outcomes)
