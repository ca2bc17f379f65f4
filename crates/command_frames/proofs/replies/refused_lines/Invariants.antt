use Rattle.std.proofs.Common.{◌≡◌, take, string_bytes}
use Rattle.command_frames.specs.InnerKeyReplies.{refusals_in}
use Rattle.command_frames.specs.Refusals.{refusal_lines}
use Rattle.command_frames.proofs.replies.refused_lines.Given as goal

abbrev pub invariant-keys : goal.invariant-keys
invariant-keys l = string_bytes l.text ≡ refusal_lines (refusals_in (take l.one-index l.told))
