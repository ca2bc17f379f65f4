use Rattle.std.proofs.Common.{sym, ◌∙◌}
use Rattle.text_input_files.proofs.FlawLemmas.{sites_longer}
use Rattle.text_input_files.proofs.script_flaws.number_after_flaw.Goals as goal

pub returns-then-is_some : goal.returns-then-is_some
returns-then-is_some c = sites_longer c.args.text.now _ _ c.cut_field.ensures (sym c.is_some.ensures ∙ c.if-is_some.true)
