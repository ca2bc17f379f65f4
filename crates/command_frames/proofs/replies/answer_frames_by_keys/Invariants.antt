use Rattle.std.proofs.Common.{take, string_bytes}
use Rattle.command_frames.specs.InnerKeyReplies.{ShowsFrames}
use Rattle.command_frames.proofs.replies.answer_frames_by_keys.Given as goal

abbrev pub invariant-frames : goal.invariant-frames
invariant-frames l = ShowsFrames l.told (take l.frame-index l.frames) l.status (string_bytes l.text)
