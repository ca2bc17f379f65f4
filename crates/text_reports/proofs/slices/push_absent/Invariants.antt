use Rattle.std.proofs.Common.{◌≡◌, ◌++◌, take, string_bytes}
use Rattle.std.specs.List.{flat_map}
use Rattle.text_reports.specs.Report.{line}
use Rattle.text_reports.specs.Slices.{absent_text}
use Rattle.text_reports.proofs.slices.push_absent.Given as goal

abbrev pub invariant-keys : goal.invariant-keys
invariant-keys l = string_bytes l.text ≡ string_bytes l.initial.text ++ flat_map (λ key. line (absent_text key)) (take l.key-index l.keys)
