use Rattle.std.proofs.Common.{take}
use Rattle.std.specs.Fmt.{HasWritten, IsPlainFormatter}
use Rattle.text_reports.specs.Escapes.{escaped}
use Rattle.text_reports.proofs.answers.EscapedDisplay.fmt.Given as goal

abbrev pub invariant-bytes : goal.invariant-bytes
invariant-bytes g l =
    IsPlainFormatter l.initial.f → HasWritten g.W.Write.write_str_gives l.initial.f (escaped (take l.byte-index l.byte-items)) l.f
