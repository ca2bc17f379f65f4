use Rattle.std.proofs.Common.{◌≡◌, ◌≤◌, drop, length}
use Rattle.text_values.specs.Lines.{seen}
use Rattle.text_input_files.specs.Script.{acts, events_of}
use Rattle.text_input_files.proofs.ScriptSequels.{behind}
use Rattle.text_input_files.proofs.script_reading.read_events.Given as goal

abbrev pub invariant-lines : goal.invariant-lines
invariant-lines l = record {
  sequel : behind (acts l.events.items) (events_of l.line-index (drop l.line-index (seen l.lines))) ≡ events_of 0 (seen l.lines);
  number : length l.events.items ≡ l.line-index;
  few : l.line-index ≤ 10000;
}
