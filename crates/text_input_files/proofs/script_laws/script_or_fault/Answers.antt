use Rattle.text_input_files.proofs.ScriptMeant.{either, not_both, one_fault}
use Rattle.text_input_files.proofs.script_laws.script_or_fault.Goals as goal

pub returns : goal.returns
returns c = record { either = either; not_both = not_both; one = one_fault }
