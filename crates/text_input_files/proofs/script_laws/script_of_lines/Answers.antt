use Rattle.text_input_files.proofs.ScriptMeant.{script_lines, script_said}
use Rattle.text_input_files.proofs.script_laws.script_of_lines.Goals as goal

pub returns : goal.returns
returns c = record { lines = script_lines; listed = script_said }
